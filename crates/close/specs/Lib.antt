-- What the contracts of the close cite beside the rules.
pub mod Facts
pub mod Answers
