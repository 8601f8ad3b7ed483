-- What the functions of this crate are lent, and what they find.
pub mod NextReleases
pub mod ListedJobs
