-- Laws of the definitions, for the proofs of the functions.
pub mod Verdicts
pub mod Arrays
pub mod Tallies
pub mod SeenSets
pub mod BoundsIn
pub mod StepFaults
pub mod FirstHalf
