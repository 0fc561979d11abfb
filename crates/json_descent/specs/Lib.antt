-- What is read from lexemes on, with as many steps as are needed (Descent).
pub mod Descent
