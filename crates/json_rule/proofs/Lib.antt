-- What is true of the rule alone.
pub mod Examples
pub mod Walk
pub mod Faultless
pub mod Sent
pub mod Fits
pub mod Offers
pub mod Modes
pub mod Stop
pub mod Completed
pub mod NotJson
