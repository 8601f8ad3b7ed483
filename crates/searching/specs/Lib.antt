-- What a search reaches.
pub mod Reached
pub mod Reaching
