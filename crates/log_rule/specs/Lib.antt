-- A change log as published JSON: what is written of it and what is answered (LogText), and which logs records can hold (Held). Last, logs with their answers
-- (Examples).
pub mod LogText
pub mod Held
pub mod Examples
