-- That the judge answers what the rule answers.
-- The course over the lexemes is the course over the tree (Walk, Follow). What is heard on it is, in whatever order (Least), what the rule says of a tree: what is
-- passed over (Passed), the elements of a list (Elements), names (Names), what is kept of an object's members (Kept), its lack (Missing), names of other actions
-- (Foreign), its members (Objects), and all together (Values, Judged). Of an accepted text (Accepted) the objects that ended (Ended) send what the rule takes
-- (Sends, Updates, Sent), its parts are right (Right), and a name stands once (Once).
pub mod Least
pub mod Walk
pub mod Follow
pub mod Passed
pub mod Elements
pub mod Names
pub mod Kept
pub mod Missing
pub mod Foreign
pub mod Objects
pub mod Values
pub mod Judged
pub mod Accepted
pub mod Ended
pub mod Sends
pub mod Updates
pub mod Sent
pub mod Right
pub mod Once
