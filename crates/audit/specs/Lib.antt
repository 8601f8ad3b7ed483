-- What the functions of this crate answer, as equations with the definitions of the crate model, and what the first half of the check
-- leaves for the second.
pub mod Answers
pub mod Halves
