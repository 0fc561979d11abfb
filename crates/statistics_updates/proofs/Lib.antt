-- What the proofs of the updates of statistics files cite.
mod Rules
mod Reading
mod Tables
