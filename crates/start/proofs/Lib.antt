-- Updates as they are read, and what the start of a run says of its answer.
pub mod Reading
pub mod Started
