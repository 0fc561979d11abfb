-- What is true of a log that is written as published JSON: the list that is read back sends what the log sends, and logs that send something else are never
-- written alike (ReadBack); no log is longer than 529,729 bytes (LogLength). What a log that can be carried sends can be sent (Carried), each update as an
-- object that is read back (Updates), with its action first (Actions); in it stand records as in a file (Records) and specs as they are offered (Specs), of
-- which nothing is wrong by the tables of updates (Objects, Listed). What is offered anew is read again (Again).
pub mod Objects
pub mod Listed
pub mod Records
pub mod Specs
pub mod Actions
pub mod Updates
pub mod Carried
pub mod Again
pub mod ReadBack
pub mod LogLength
