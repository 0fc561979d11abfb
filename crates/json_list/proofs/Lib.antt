-- One byte (Turns), reading on in a part (Parts), the start and a lexeme in which the text ends (States), a part and the end of the text (Feeds).
pub mod Turns
pub mod Parts
pub mod States
pub mod Feeds
