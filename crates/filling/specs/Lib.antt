-- What holds between two jobs, and what filling their windows asks and promises.
pub mod Filling
pub mod OwnWindows
