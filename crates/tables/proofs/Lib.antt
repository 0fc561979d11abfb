-- What the proofs of several functions cite.
pub mod Table
pub mod Search
pub mod Push
mod Filter
mod Gather
mod Shift
pub mod Put
pub mod Keyed
pub mod Each
mod Name
pub mod Spans
