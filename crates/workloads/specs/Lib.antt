-- What is to be placed, and what placed shares and their prices are.
pub mod Placement
pub mod RangesFit
pub mod SiteProblem
pub mod Workloads
pub mod Arrays
