-- What is answered to an export.
pub mod Answer
