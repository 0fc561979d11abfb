-- What the proofs of several functions cite, here and in the crates above, and the laws of a place in a list.
pub mod Bits
pub mod Places
pub mod Parents
mod Ascending
pub mod Successors
