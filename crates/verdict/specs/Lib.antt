-- What is said of a stored log.
pub mod Judged
