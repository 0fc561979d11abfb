-- What the contracts of the updates of refs cite beside the rules.
pub mod Refs
