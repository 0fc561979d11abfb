-- What is true of the verdict.
pub mod Answered
pub mod Exactly
pub mod Unique
