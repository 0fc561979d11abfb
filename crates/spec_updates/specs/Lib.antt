-- What the contracts of the updates of partition specs cite beside the rules.
pub mod Additions
pub mod Family
