-- What the operations of this crate write, as lists of bytes.
pub mod StepList
pub mod HeldShares
pub mod PlanBytes
