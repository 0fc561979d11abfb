-- The version that a file says, lexeme by lexeme (Versions).
pub mod Versions
pub mod Passing
pub mod Reads
pub mod Answer
