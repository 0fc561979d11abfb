-- Metadata files as published JSON: the tables of members (Tables), what is wrong with a file (FileDefects), and what is answered to one (Import); how JSON is
-- written (Written), what a file of a version has (Files), what is answered to metadata that is to be written (Export), and which metadata records can hold
-- (Fits). Last, files and metadata with their answers (Examples).
pub mod Tables
pub mod FileDefects
pub mod Import
pub mod Written
pub mod Files
pub mod Export
pub mod Fits
pub mod Examples
