-- What the functions of this crate answer, as equations with the definitions of the crate model.
pub mod SetsHave
pub mod TestedJobs
