-- What the proofs of several functions cite, and what is true of the comparison.
pub mod Places
pub mod Exactly
pub mod Unique
