-- Metadata stays well formed: from update to update, and over a run.
pub mod Metadata
pub mod Singles
pub mod Snapshots
pub mod Refs
pub mod Schemas
pub mod Orders
pub mod Statistics
pub mod Specs
pub mod Updates
pub mod Accepted
pub mod Run
