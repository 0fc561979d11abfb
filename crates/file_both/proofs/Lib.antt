-- What is true of an export and of the import of its file, by their contracts alone.
pub mod Both
