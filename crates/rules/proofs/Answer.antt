-- What is true of the rules is true of the answer on records.
pub mod Places
pub mod Laws
pub mod Start
pub mod Rows
pub mod Replays
pub mod Instances
pub mod Fits
