-- What the proofs of several functions cite, here and in the crates above.
mod Lent
mod Twice
mod Smallest
pub mod Named
pub mod Reused
mod Gathered
mod Overwritten
mod Numbered
mod Offered
pub mod Free
pub mod Taken
