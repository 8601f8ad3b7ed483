-- Laws of the definitions, for the proofs of the functions and for the proofs of callers.
pub mod HeldBounds
pub mod BandTables
pub mod Figures
