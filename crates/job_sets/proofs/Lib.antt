-- Laws of sets of jobs.
pub mod Words
pub mod JobSets
pub mod SetWords
pub mod IntervalSets
pub mod Ranges
