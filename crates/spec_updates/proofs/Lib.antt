-- What the proofs of the updates of partition specs together cite.
mod Current
