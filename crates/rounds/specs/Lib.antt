-- What the operation promises.
pub mod RoundAnswers
