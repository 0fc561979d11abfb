-- What the proofs of several functions cite, and what is true of the contracts.
pub mod Picked
mod Parts
pub mod Exactly
pub mod Unique
