-- Metadata of which a part of the file speaks.
pub mod Parts
