-- What the builder's code says beside the rules: how its pieces are laid out from the state of a run, and what an update answers.
pub mod Pieces
pub mod Answers
pub mod Added
