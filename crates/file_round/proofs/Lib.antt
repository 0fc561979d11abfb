-- What is true of the rule of metadata files: import of an export gives equal metadata, and unequal metadata never exports to equal bytes (RoundTrip); no export is longer than
-- 339,202 bytes (FileLength). An export is written as a document (Documents), whose tokens are numbers and texts (Numbers, Texts, Plain) and whose objects have
-- fields (Fields); so are lists of records (Lists) and each record (Snapshots, Refs, Logs, Schemas, Specs), and the file (File), which says what was written (Made).
pub mod Documents
pub mod Numbers
pub mod Texts
pub mod Plain
pub mod Fields
pub mod Scalars
pub mod Lists
pub mod Snapshots
pub mod Refs
pub mod Logs
pub mod Schemas
pub mod Specs
pub mod Sorted
pub mod File
pub mod Made
pub mod Bounds
pub mod RoundTrip
pub mod Length
pub mod Sizes
pub mod FileLength
