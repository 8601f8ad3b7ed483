-- Laws of the definitions, for the proofs of the functions.
pub mod TouchedArrays
pub mod TouchingOutcomes
pub mod TouchingRefusals
pub mod TouchingLines
pub mod Rooms
