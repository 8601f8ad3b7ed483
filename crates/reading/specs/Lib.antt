-- What reading a table answers, entries in plain arrays, and encodings, over the definitions of the crate model.
pub mod Column
pub mod Tables
pub mod Encodings
