-- Laws of what is written, for the proofs of the functions.
pub mod JobStores
