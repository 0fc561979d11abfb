-- What the code of this crate goes by: what is kept of a lexeme (Kept), which words there are (Words), the spots of a list of updates (Spots), the rows of its
-- actions (Rows), which numbers a spot holds (Widths), where the digits of a uuid stand (Uuids), the transforms of partition fields (Transforms), and what is
-- wrong with a value (Faults). What the judge does to its numbers: the slots (Slots), the least refusal (Refusing), how brackets nest (Nesting), the open lists
-- and objects (Opening) and their members (Marks), and a lexeme (Model).
pub mod Kept
pub mod Words
pub mod Spots
pub mod Rows
pub mod Widths
pub mod Uuids
pub mod Transforms
pub mod Faults
pub mod Slots
pub mod Refusing
pub mod Nesting
pub mod Opening
pub mod Marks
pub mod Model
