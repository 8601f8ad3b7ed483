-- Laws of what is to be placed.
pub mod Capacity
pub mod JobWindows
pub mod SharesTable
pub mod StoredNumbers
pub mod SiteProblem
pub mod SitePrices
