-- Laws of altered tables in plain arrays.
pub mod KeptLevels
pub mod AlteredJobs
