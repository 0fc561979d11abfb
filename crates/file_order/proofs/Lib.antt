-- That order does not matter. Names may stand in any order (Names), so members in another order are as right as they were (Turning); what they say of a record is
-- the same (Kept, Records), and so of a file, whose refs are put in order (Sorting, File). The records of a table are put in order too (Exchange). So a file that
-- is accepted is accepted in any order, with the same answer (Reordering); and every step can be taken back (Back).
pub mod Names
pub mod Turning
pub mod Kept
pub mod Records
pub mod Sorting
pub mod File
pub mod Exchange
pub mod Reordering
pub mod Back
