-- What the proofs of the updates of schemas together cite.
mod Lent
