-- Laws for the proofs of the functions.
pub mod RaisedPrices
pub mod PriceRanges
pub mod RisingPrices
pub mod RisePasses
pub mod HeldShares
pub mod MemberRaises
