-- Metadata that fits is laid out tidily (Tidy). Sorting keeps how many there are and what holds of each (Sorting). The records (Records) and tables (Tables) that
-- cells say fit, and so all that they say is laid out tidily and reads as it was (Metadata).
pub mod Tidy
pub mod Sorting
pub mod Records
pub mod Tables
pub mod Metadata
