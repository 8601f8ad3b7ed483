-- Laws for the proofs of the functions.
pub mod Answers
pub mod Capacity
pub mod FittingSets
pub mod SetTotals
pub mod InsideSums
pub mod Ends
pub mod SumSteps
pub mod EndSteps
pub mod DistinctReleases
pub mod Earliest
pub mod StartSteps
pub mod AdditionLines
