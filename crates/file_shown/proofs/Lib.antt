-- What is true of texts a byte at a time, and of tables that are looked at a record at a time.
mod Utf8
pub mod Looked
