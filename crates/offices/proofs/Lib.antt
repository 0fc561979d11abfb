-- What the proofs of the two offices rest on.
mod Reaching
mod Needed
mod ByKind
