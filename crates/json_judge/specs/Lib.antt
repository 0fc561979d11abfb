-- A list of updates judged lexeme by lexeme: the least refusal so far (Refusal), the open lists and objects and what they say (Frames), the course over the
-- lexemes (Course), the judge (Judging), and what is sent (Sending).
pub mod Refusal
pub mod Frames
pub mod Course
pub mod Judging
pub mod Sending
