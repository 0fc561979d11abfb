-- What the contracts cite beside the rules.
pub mod Gathered
pub mod Ids
pub mod Numbering
pub mod Options
pub mod Slots
