-- What the proofs of several functions cite, and what is true of the contracts.
mod Slots
mod OfKind
pub mod Unique
