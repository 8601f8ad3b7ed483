-- Laws for the proofs of the functions.
pub mod Placing
pub mod GrownShares
pub mod HeldJobs
pub mod PathLimit
pub mod Routes
pub mod PathSteps
pub mod WalkSteps
pub mod MoveSteps
pub mod FillSteps
