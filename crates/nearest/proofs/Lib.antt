-- Laws for the proofs of the functions.
pub mod NearestStages
pub mod TablesInArrays
pub mod NearestRefusals
pub mod NearestLines
