-- How long the buffers of a plan must be.
pub mod WantedRooms
