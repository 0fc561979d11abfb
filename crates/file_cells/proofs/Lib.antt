-- That the sizes of records are the sums over their members.
pub mod Sizes
