-- What is asked of a record, and texts a byte at a time.
pub mod Tests
pub mod Characters
