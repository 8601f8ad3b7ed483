-- The invariants of the planner.
pub mod PlacedTables
pub mod BandPasses
