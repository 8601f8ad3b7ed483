-- Laws for the proofs of the functions.
mod MarkedTimes
