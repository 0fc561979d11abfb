-- What is answered to a log that is to be written.
pub mod Answer
