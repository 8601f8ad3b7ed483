-- Laws of what is written, for the proofs of the functions and for their callers.
pub mod WrittenPrices
pub mod PriceStores
