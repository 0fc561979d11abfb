-- What the contracts of the leaves cite beside the rules.
pub mod Limit
pub mod Answers
