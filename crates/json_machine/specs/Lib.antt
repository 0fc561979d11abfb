pub mod Modes
pub mod Digest
pub mod Lexing
