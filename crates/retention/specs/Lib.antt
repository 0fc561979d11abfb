-- Expiry by retention, in the order in which it is read: the policy and what it keeps (Retention), the list (Expiry), why each ref and snapshot stays or goes
-- (Reasons), what a run of the list answers (Outcome), and the examples.
pub mod Retention
pub mod Expiry
pub mod Reasons
pub mod Outcome
pub mod Examples
