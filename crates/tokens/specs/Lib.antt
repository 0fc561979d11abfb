pub mod Token
pub mod Widths
pub mod Writer
