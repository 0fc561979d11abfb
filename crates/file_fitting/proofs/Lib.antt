-- What a function's proof knows of a record that it is given, by the types of its fields, is enough for a metadata file: numbers and tables (Slots), records
-- (Records) and all of the metadata (Fitting).
pub mod Slots
pub mod Records
pub mod Fitting
