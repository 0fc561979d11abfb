-- What is true of bytes that are put one after another.
pub mod Digits
pub mod Escapes
pub mod Lists
pub mod Pieces
pub mod Signs
pub mod Slots
