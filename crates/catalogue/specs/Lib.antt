-- What the contracts of the second entry cite beside the rules.
pub mod Links
