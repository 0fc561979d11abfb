-- What is true of a log that is written: the answer leaves no freedom (Unique), and what is answered with 0 is read back (ReadBack).
mod Texts
mod Tidy
mod Named
mod Answers
pub mod Unique
pub mod ReadBack
