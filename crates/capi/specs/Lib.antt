-- What the functions for C return, for each outcome.
pub mod Results
