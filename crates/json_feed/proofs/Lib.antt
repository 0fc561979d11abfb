-- What a byte does (Steps), the bytes of one lexeme (Within), those of a text (Fed), and the plain bytes of a text as one step (Runs).
pub mod Steps
pub mod Within
pub mod Fed
pub mod Runs
