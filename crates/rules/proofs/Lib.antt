-- What is true of the written rules alone: what the rest rests on, then a folder for each question.
pub mod Examples
pub mod Checks
pub mod Orders
pub mod Tables
pub mod Unlisted
pub mod Fresh
pub mod Reuse
pub mod Slots
pub mod Sound
pub mod Replay
pub mod Rows
pub mod FieldIds
pub mod Answer
pub mod History
pub mod Offices
