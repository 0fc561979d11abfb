-- The laws of the run's loop, in the order in which one rests on another.
mod Slots
pub mod Effects
mod Logged
pub mod Beginning
pub mod Closed
pub mod Moving
pub mod Deciding
pub mod Removing
pub mod Shaping
pub mod Adding
pub mod Setting
pub mod Taken
pub mod Turning
pub mod Ending
