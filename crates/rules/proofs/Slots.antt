-- What is laid out in slots reads back, is tidy, and for well-formed metadata is what it was.
pub mod Relaid
pub mod Laid
pub mod Reread
