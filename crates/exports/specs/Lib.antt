-- What the contracts of the exported functions cite beside the rules.
pub mod Answers
