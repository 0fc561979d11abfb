-- What it is that the cells hold a value (Holds); what holds of every lexeme in a tree (Lexemes).
pub mod Holds
pub mod Lexemes
