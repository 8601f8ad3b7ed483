-- Laws of the definitions, for the proofs of the functions.
pub mod DecodedJobs
pub mod Read
pub mod ReadingBack
