-- Laws for the proofs of the functions, and of the list.
pub mod RoomLines
pub mod Inserting
pub mod Places
pub mod Moving
pub mod RoomStores
