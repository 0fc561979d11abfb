-- What the contracts of the updates of statistics files cite beside the rules.
pub mod Files
pub mod Family
