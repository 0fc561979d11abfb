pub mod LimitText
pub mod Untrimmed
