-- What is true of the rule by computation.
pub mod Examples
