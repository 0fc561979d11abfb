pub mod LimitText
pub mod SameLimit
pub mod SameTrim
