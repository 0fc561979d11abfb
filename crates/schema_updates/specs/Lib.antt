-- What the contracts of the updates of schemas cite beside the rules.
pub mod Keys
pub mod Schemas
