-- What filling loads anew asks and promises.
pub mod Crosses
pub mod Clearing
pub mod Cells
pub mod RefillTables
pub mod RefilledTables
