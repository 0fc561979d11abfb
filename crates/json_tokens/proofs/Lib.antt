-- The rule's lexemes from a place on (Lexemes); one lexeme byte by byte against the rule (Outcomes), and the turns of the loops (Steps); what is answered
-- of the next (Answers), and that it is settled by the place (Agree).
pub mod Lexemes
pub mod Outcomes
pub mod Steps
pub mod Answers
pub mod Agree
