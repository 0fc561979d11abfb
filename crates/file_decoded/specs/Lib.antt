-- What it is that a lexeme is found again at its place (Found).
pub mod Found
