-- Laws of the definitions, for the proofs of the functions.
pub mod SetsHave
pub mod OpenRange
pub mod TestedJobs
