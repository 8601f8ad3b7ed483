-- Sets of jobs that fit, and schedules that meet all deadlines: the proofs.
mod EarliestDeadline
pub mod Feasible
