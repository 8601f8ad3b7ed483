-- What is due at each bound.
pub mod Due
