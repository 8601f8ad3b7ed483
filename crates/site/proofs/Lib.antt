-- Laws of reading levels and jobs, and of a site in arrays.
pub mod ReadSites
pub mod HeldSites
