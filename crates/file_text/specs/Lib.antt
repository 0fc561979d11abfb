-- What writing into a buffer is.
pub mod Puts
