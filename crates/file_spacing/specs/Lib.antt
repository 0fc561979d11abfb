-- Lexemes and trees but for their places (Places).
pub mod Places
