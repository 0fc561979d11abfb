-- What a run starts with.
pub mod Start
