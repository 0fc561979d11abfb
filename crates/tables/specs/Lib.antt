-- What the code of the tables says beside the rules: records that are laid out from plain ones, and runs of records.
pub mod Laid
pub mod Runs
