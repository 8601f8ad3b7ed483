-- Laws of the definitions, for the proofs of the functions.
pub mod Column
pub mod ByEntry
pub mod Read
pub mod Encodings
