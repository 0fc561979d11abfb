-- What the proofs of several functions cite, here and in the crates of the updates, and the laws that the run cites.
mod Texts
pub mod Choices
pub mod Found
pub mod NewIds
pub mod Steps
pub mod Parts
pub mod Entries
pub mod Given
pub mod Halves
pub mod Positions
pub mod State
