-- Laws for the proofs of the functions.
pub mod BandOrder
pub mod ClosedRange
pub mod FullRange
pub mod PlaceSteps
