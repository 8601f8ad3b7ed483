-- Laws of what is written, for the proofs of the functions and for their callers.
pub mod Stores
pub mod Encoded
pub mod CellOrder
pub mod EncodedPlan
pub mod PlanStores
pub mod HeldShares
pub mod MemberSteps
pub mod WrittenPlan
pub mod NumberStores
