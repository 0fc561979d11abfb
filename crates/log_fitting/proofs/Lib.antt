-- What a function's proof knows of a list of updates that it is given, by the types of its fields, is enough for a log: the ids and offers that updates hold
-- (Ids), then each update by its kind, and the list (Fitting).
pub mod Ids
pub mod Fitting
