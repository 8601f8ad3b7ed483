-- What a set of jobs has, and what the functions of this crate answer.
pub mod JobSets
pub mod IntervalSets
