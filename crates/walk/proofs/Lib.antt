-- What the proofs of several functions cite.
pub mod Bits
pub mod Scans
pub mod Rising
pub mod Follow
pub mod Places
pub mod Least
pub mod Enough
pub mod Unique
