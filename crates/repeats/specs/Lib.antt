-- Rounds that repeat (document 02, Change 1): the theorem of repeats, first for any site, then for the jobs that tasks release.
pub mod Repeats
pub mod RunAgain
pub mod RepeatedPlan
pub mod OwnBounds
pub mod OverfullRepeats
pub mod LaidOutRepeats
pub mod RoundsThatRepeat
