-- What is true of `run`, and of `expiring_updates` and `run` one after the other, by their contracts alone.
pub mod Run
pub mod Moment
pub mod Chains
pub mod Rows
pub mod FieldIds
pub mod Offices
pub mod Expiry
pub mod ExpiryCalls
pub mod LaidCalls
pub mod Instances
pub mod OfficeInstances
pub mod ExpiryInstances
pub mod OfficeLimits
