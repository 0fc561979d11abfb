-- What the proofs of several functions cite.
mod Filled
mod Pieces
mod Named
mod Fields
mod Partitions
mod Tests
mod Answers
mod SpecAnswers
