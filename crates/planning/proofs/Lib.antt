-- Laws for the proofs of the functions, of placing for a site, and of the plan that is made.
pub mod SiteArrays
pub mod Placeable
pub mod AllCycles
pub mod ShortPlaced
pub mod WrittenSite
pub mod MadePlans
pub mod PlanStages
