-- What an ordered plan is, how its steps are put, and what the operation promises.
pub mod OrderedPlan
pub mod Ranks
pub mod Placed
pub mod Ordering
pub mod OrderAnswers
pub mod OrderLines
