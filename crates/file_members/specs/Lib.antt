-- What the code of this crate goes by: how a member stands in a version (Standings), which names there are (Names), what is wrong with a value (Faults), and
-- which members a record lacks (Flags).
pub mod Standings
pub mod Names
pub mod Faults
pub mod Flags
