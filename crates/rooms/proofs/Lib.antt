-- Laws of the lengths wanted, for the proofs of the functions and for the proofs of callers.
pub mod RoomSizes
