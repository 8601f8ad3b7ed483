-- Laws of cycles added to one job, and of the room of each job in arrays.
pub mod AddedLines
pub mod AddedCycles
pub mod SpareSteps
pub mod SettleSteps
pub mod RoomSteps
