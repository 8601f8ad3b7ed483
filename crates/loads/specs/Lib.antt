-- What loads say of a plan, and filling given loads anew.
pub mod Loads
pub mod Crossing
pub mod Refilled
