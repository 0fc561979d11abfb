-- What the contracts of the walk cite beside the rules.
pub mod Answers
pub mod Lists
