-- What is held of an open update: where it stands (Places), numbers (Numbers), what a value, a list or a field leaves behind (Puts), and the update and the offer
-- that are made of it (Made; Parts, part by part); and what of it is stored of which member (Stored).
pub mod Places
pub mod Numbers
pub mod Puts
pub mod Made
pub mod Parts
pub mod Stored
