-- What the proofs of several functions cite, and the laws that the run cites.
mod Options
pub mod Named
pub mod WantedRefs
mod Deciding
