-- The room of a job: the most cycles that can be added to it alone.
pub mod AddedCycles
pub mod AddedLines
pub mod Spares
pub mod RoomArrays
pub mod SetOutcomes
