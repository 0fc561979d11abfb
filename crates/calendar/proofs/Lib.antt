pub mod Days
pub mod Dates
pub mod OneDate
pub mod Shifts
pub mod Unique
