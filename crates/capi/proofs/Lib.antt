-- Laws for the proofs of the functions, and that 0 says that there is no deadline.
pub mod Cases
pub mod NoDeadline
pub mod NearestCases
