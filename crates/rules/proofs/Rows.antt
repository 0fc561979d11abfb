-- No row id twice, and what stays of metadata whose row ranges are apart.
pub mod Ranges
pub mod Updates
pub mod Runs
pub mod Apart
pub mod ApartExactly
pub mod Above
