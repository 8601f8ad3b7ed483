-- Sets of jobs that fit, and schedules that meet all deadlines.
pub mod Feasible
