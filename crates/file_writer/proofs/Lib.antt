-- What is true of a file that is put into a buffer.
pub mod Written
