-- When two records are the same, in every field and slot.
pub mod Same
