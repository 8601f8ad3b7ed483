-- What the operation that lists the jobs with their rooms promises, and lines of it.
pub mod Nearest
pub mod NearestAnswers
pub mod TablesInArrays
pub mod NearestLines
