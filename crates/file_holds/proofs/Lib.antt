-- Members stand where their numbers say (Spots), rows have names and cells of their own (Rows), and a member whose value is held is one row's (Spotted). What is
-- used of a tree with which nothing is wrong (Right). What is put into the cells of a value leaves those around it (Frame), members are apart (Apart), a value is
-- a matter of its own cells (Kept), and so the cells hold the values (Held). What is read of lexemes (Read). Members by their names (Members).
pub mod Spots
pub mod Rows
pub mod Spotted
pub mod Right
pub mod Frame
pub mod Apart
pub mod Kept
pub mod Held
pub mod Read
pub mod Members
