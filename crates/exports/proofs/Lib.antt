-- What is true of the exported functions beside their contracts.
pub mod Unique
