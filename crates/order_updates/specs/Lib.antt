-- What the contracts of the updates of sort orders cite beside the rules.
pub mod Orders
pub mod Family
