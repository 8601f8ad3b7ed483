-- Laws of the definitions, for the proofs of the functions.
pub mod PointTables
pub mod SmallPoints
pub mod Filling
pub mod Dropping
pub mod Keeping
pub mod Frequencies
