-- Where the values of a metadata file are held while it is read: what may be wanted at a place of the file (Wants), how many cells that takes and where (Cells),
-- and what the cells hold when a tree was read (Filled).
pub mod Wants
pub mod Cells
pub mod Filled
