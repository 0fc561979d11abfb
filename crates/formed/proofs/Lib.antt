-- What the proofs of several functions cite.
mod Signs
pub mod Scans
mod Bools
pub mod Counted
mod Filled
mod Ascends
pub mod Gathered
mod Pairs
mod Fields
mod Unused
mod Used
pub mod Laid
mod Main
mod Whole
