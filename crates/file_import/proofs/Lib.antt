-- The version of a file (Versions, Known, Passing), its text (Reading), the numbers of what is wrong with it (Numbers), and what is answered (Answers); that
-- an accepted import is well formed (Accepted), and that the contract leaves no freedom and asks nothing (Unique).
mod Versions
mod Known
mod Passing
mod Reading
pub mod Numbers
mod Answers
pub mod Accepted
pub mod Unique
