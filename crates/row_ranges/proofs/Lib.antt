mod Each
-- What is true of the contract of `rows_apart`.
pub mod Unique
