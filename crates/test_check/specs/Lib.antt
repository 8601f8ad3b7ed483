-- What the program's functions answer.
pub mod Printing
