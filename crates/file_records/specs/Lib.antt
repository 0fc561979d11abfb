-- What the cells of a metadata file hold, as records (Decoded); a partition field by its position (Positions); places in the order of keys (Order); the current
-- snapshot as an `Option` (Current); slots that were filled (Filled).
pub mod Decoded
pub mod Positions
pub mod Order
pub mod Current
pub mod Filled
