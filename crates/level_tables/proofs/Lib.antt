-- Laws of the definitions, for the proofs of the functions.
pub mod Products
pub mod DecodedLevels
pub mod Read
pub mod CheckedLevels
pub mod ReadingBack
