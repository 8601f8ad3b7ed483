-- Laws of the definitions, for the proofs of the functions.
mod NextReleases
pub mod ListedJobs
mod Releasing
mod TickByTick
