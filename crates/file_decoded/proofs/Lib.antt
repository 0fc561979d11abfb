-- All lexemes of a text are found again (Again). Numbers and texts by their cells (Values). The members of a record in the cells (Reading), as numbers and texts
-- (Scalars) and as lists of records (Lists), by their places in the record (Inner); those that are required (Required). Records: Snapshots, References, Logs,
-- Schemas, SortOrders, PartitionSpecs, Refs. The file: its version (Versions), its tables (Tables), all of it (Metadata), and what is answered
-- to it (Accepted).
pub mod Again
pub mod Values
pub mod Reading
pub mod Scalars
pub mod Lists
pub mod Inner
pub mod Snapshots
pub mod References
pub mod Logs
pub mod Schemas
pub mod SortOrders
pub mod Required
pub mod PartitionSpecs
pub mod Refs
pub mod Versions
pub mod Tables
pub mod Metadata
pub mod Accepted
