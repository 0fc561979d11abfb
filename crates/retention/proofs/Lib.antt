-- What is true of the rules of expiry alone: the examples, why a snapshot stays (Reason), what stays (Walks, Stay, Parts), what a run of the list answers (Run), that a
-- second list is empty (Second), what is left of a branch's walk (Branches) and of the history (History, Commit), a later clock (Later), and how many snapshots then
-- fit (Room).
pub mod Examples
pub mod Reason
pub mod Walks
pub mod Stay
pub mod Parts
pub mod Run
pub mod Second
pub mod Branches
pub mod History
pub mod Commit
pub mod Later
pub mod Room
