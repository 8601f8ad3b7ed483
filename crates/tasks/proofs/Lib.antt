-- The laws that specs/ states, and samples.
pub mod Tasks
pub mod Multiples
pub mod LaidOut
pub mod Rounds
pub mod Samples
