-- What the proofs of this crate share: slots that tell of ids, the times of snapshots, walks from place to place, what is found of a ref and of the refs
-- from one on; tables of what goes, the list place by place, and the answers; and that each contract leaves one answer.
mod Slots
mod Times
mod Going
mod OfRefs
mod Findings
mod Leaving
mod Places
mod Answers
pub mod Unique
mod Overlaid
mod Logged
mod Stored
mod Taking
