-- Which snapshot was current: what a run keeps of a history, and of the answers about a moment.
pub mod Lists
pub mod During
pub mod Accounted
pub mod Whole
pub mod Kept
