-- Paths, and what moves along them.
pub mod Placing
pub mod Paths
pub mod Moves
pub mod FilledTargets
