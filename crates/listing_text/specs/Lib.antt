-- The listing's text, and what the functions of this crate write of it.
pub mod ShownPlans
pub mod Listings
