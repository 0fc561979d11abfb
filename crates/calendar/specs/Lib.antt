-- The calendar, and what the contracts say of its functions.
pub mod Calendar
pub mod Answers
