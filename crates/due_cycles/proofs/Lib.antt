-- Laws of what is due at each bound.
pub mod DueSums
