-- What the contracts of the two offices cite beside the rules.
pub mod Kept
pub mod Reach
pub mod Shown
pub mod Used
