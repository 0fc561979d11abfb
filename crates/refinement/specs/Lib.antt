-- How the pieces of a run stand to the rules: between two updates, and within a turn of its loop.
pub mod Standing
pub mod Turns
