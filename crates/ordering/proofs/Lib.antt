-- Laws of the definitions, for the proofs of the functions.
pub mod Ranks
pub mod RankSizes
pub mod OrderedPlan
pub mod InOrder
pub mod AcceptedAgain
pub mod JobsWithShares
pub mod Placed
pub mod Ordering
pub mod OrderAnswers
pub mod OrderLines
