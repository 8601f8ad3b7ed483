-- Laws of loads and of filling them anew.
pub mod Loads
pub mod Crossing
pub mod Refilled
