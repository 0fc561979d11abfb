-- That what is held of an open update follows the tree of the text.
-- What belongs to which spot, and when two stores agree on it (Owners); what is stored of a value that was closed (Claims), and that it stays where that stays
-- (Keeping, Footprints); the members that an open object holds (Holds).
-- What is put: what stays (Changes), a lexeme that is right (Right) and its value (Values), numbers by their width (Widths), fields (Fields), elements and lists
-- (Elements), and where they stand (Inside).
-- What is at hand against what is held as trees (Gathers), and one step each: which members are lists or records (Spots), names (Names), what begins (Begins), values
-- that come (Arrives), what is closed (Complete, Closes); in a state of the judge (Gathered), and one whole lexeme (Steps).
-- An update that is closed, as it is made (Lists, Closed); and what is sent at a lexeme (Sent).
pub mod Owners
pub mod Claims
pub mod Keeping
pub mod Footprints
pub mod Holds
pub mod Changes
pub mod Right
pub mod Values
pub mod Widths
pub mod Fields
pub mod Elements
pub mod Inside
pub mod Gathers
pub mod Spots
pub mod Names
pub mod Begins
pub mod Arrives
pub mod Complete
pub mod Closes
pub mod Gathered
pub mod Steps
pub mod Lists
pub mod Closed
pub mod Sent
