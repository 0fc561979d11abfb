-- What the contracts of an expiry cite: the answers, laid out; what is found on the way to them; and the list by its places.
pub mod Answer
pub mod Found
pub mod List
