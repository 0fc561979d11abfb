-- What is left behind a production is shorter than what there was (Shorter), enough steps give one answer (Enough), and so the laws without steps (Laws).
pub mod Shorter
pub mod Enough
pub mod Laws
