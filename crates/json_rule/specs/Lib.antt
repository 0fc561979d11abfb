-- Updates as JSON, in the order in which it is read: bytes to lexemes (Lexemes), what texts and numbers stand for (Values), lexemes to a tree (Tree) and its
-- members by name (Members), the records that they say (Records), what is published of each record (Shapes), what is wrong with a tree (Defects), and the
-- answer (Reading). Last, texts with their answers (Examples).
pub mod Letters
pub mod Lexemes
pub mod Values
pub mod Tree
pub mod Members
pub mod Records
pub mod Shapes
pub mod Defects
pub mod Reading
pub mod Examples
