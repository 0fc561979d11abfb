-- That what is made of the stored members of an update is what the rule makes of them: a member that is there or not (Taken), records (Records), updates and what
-- they offer (Made); and the list of them (Listed), which is the one that the rule reads (Read).
pub mod Taken
pub mod Records
pub mod Made
pub mod Listed
pub mod Read
