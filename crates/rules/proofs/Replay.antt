-- The log suffices: what each update logs replays it, and so does the log of a run.
pub mod Lists
pub mod Keys
pub mod Log
pub mod Steps
pub mod Singles
pub mod Snapshots
pub mod Refs
pub mod Choices
pub mod Schemas
pub mod Orders
pub mod Statistics
pub mod Specs
pub mod Close
pub mod Run
pub mod Suffices
