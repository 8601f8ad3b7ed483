-- A site in plain arrays.
pub mod SiteTables
