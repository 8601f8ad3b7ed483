-- Jobs by their room, the smallest first: their places, the list of them, and an order of them in an array.
pub mod RoomOrder
pub mod Ordered
pub mod RoomLines
