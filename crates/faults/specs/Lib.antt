-- Which part of a start is at fault.
pub mod Faults
