-- What the contracts cite.
pub mod Found
