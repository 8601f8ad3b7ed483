-- What the functions of this crate answer, as equations with the definitions of the crate model.
pub mod Verdicts
pub mod SeenCells
pub mod Sums
pub mod FirstHalf
