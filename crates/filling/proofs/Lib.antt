-- Laws for the proofs of the functions.
pub mod Turns
pub mod OwnIntervals
pub mod JobMembers
