-- What the proofs cite, and what is true of the answer.
pub mod FromTheEnd
mod Slots
mod Reading
mod Spans
mod Answers
pub mod Unique
