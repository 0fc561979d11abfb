-- No fresh field id twice, and what stays of metadata whose last partition id is at least every field id that is held.
pub mod Updates
pub mod Runs
