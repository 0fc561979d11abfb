-- What is true of an export.
mod Answers
pub mod Unique
pub mod ReadBack
