-- What the contracts of the updates of snapshots cite beside the rules.
pub mod Snapshots
