-- What the proofs of several functions cite, and the law that the run cites.
mod Rows
mod Additions
pub mod Last
