-- What it is that metadata fits into its slots (Fits).
pub mod Fits
