-- What reading a metadata file comes to: where the reader stands and the least refusal so far (Seats); what is said and held of a value and of what a list has
-- (Outcomes), of what an object has (Members), and of what an object has under names of its own (Named); and what the readers promise (Walked).
pub mod Seats
pub mod Outcomes
pub mod Members
pub mod Walked
pub mod Named
