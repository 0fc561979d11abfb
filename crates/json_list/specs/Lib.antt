-- What a reader of a list of updates holds, and what a lexeme does to it (Listing); one byte (Turns); reading on in a part (Parts); a part, and the end of the
-- text (States).
pub mod Listing
pub mod Turns
pub mod Parts
pub mod States
