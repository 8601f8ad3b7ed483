-- Prices of intervals.
pub mod RisingPrices
