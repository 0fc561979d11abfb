-- What is true of records and tables that are put piece by piece.
pub mod Texts
pub mod Tables
