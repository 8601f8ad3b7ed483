-- Laws for the proofs of the functions.
pub mod Inserted
pub mod Padded
pub mod Halving
pub mod SmallBounds
pub mod OpenSets
pub mod OpenRanges
