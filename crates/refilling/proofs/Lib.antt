-- Laws of filling loads anew in plain arrays.
pub mod ClearSteps
pub mod CrossSteps
pub mod CellSteps
pub mod RefillTables
pub mod Uncrossed
pub mod DueSets
pub mod RowSteps
pub mod RefillStarts
