-- Laws of the definitions, for the proofs of the functions.
pub mod PricedSets
pub mod PriceFaults
pub mod SecondHalf
