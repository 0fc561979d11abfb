-- What the proofs of several functions cite.
mod Tests
mod Ids
pub mod Scans
mod Parts
mod Logs
mod Moved
pub mod Join
pub mod Facts
