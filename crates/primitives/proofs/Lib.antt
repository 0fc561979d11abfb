-- What the proofs of several functions cite.
pub mod Digits
pub mod Bytes
mod Slashes
pub mod Unique
