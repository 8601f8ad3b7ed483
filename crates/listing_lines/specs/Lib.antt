-- The text of a plan and of a refusal, line by line, and what the functions of this crate write of it.
pub mod TextLines
pub mod PlanText
pub mod Appending
