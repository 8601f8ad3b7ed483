-- Laws of the definitions, for the proofs of the functions.
mod Loads
mod Answers
