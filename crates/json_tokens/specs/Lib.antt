-- One lexeme, byte by byte (Outcomes), and the lexemes of a text from a place on, with what is answered of the next (Tokens).
pub mod Outcomes
pub mod Tokens
