-- What the proofs of several functions cite, and what the contracts mean for a caller.
mod Gathered
pub mod Unique
pub mod Same
