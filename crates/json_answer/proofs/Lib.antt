-- How many updates are counted (Counted); which numbers the rule answers (Numbers); what a reader holds against the judge and what was sent, lexeme by lexeme
-- (Follows), from the start (Starts) to the end (Ends); that it answers what the rule answers, whatever the parts (Answers); and that its functions leave no
-- freedom and ask nothing (Unique).
pub mod Counted
pub mod Numbers
pub mod Follows
pub mod Starts
pub mod Ends
pub mod Answers
pub mod Unique
