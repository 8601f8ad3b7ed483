-- Laws for the proofs of the functions.
pub mod Listing
pub mod ReachedRange
pub mod ScanSteps
pub mod SearchSteps
