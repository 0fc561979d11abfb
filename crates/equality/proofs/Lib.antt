-- What the proofs of several functions cite, and what is true of the comparisons.
pub mod Derived
mod Readings
pub mod Told
