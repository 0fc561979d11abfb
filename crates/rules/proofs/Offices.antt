-- Two offices: what an office cannot change of the other's.
pub mod Follow
pub mod Refs
pub mod Reach
pub mod Walks
pub mod Owners
pub mod Second
pub mod History
pub mod Kept
pub mod Alone
pub mod Runs
