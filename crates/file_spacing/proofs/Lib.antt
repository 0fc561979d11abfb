-- That spacing does not matter. What a tree says does not hang on its places (Parts, Said), what is wrong with it is the same at other places (Judged, Around),
-- and from lexemes at other places the same is read (Read); so files whose lexemes are the same but for their places are answered alike (Alike), with one number
-- too (Rising), and spaces may be put between lexemes and taken from there (Spaces).
pub mod Parts
pub mod Said
pub mod Judged
pub mod Around
pub mod Read
pub mod Alike
pub mod Spaces
pub mod Rising
