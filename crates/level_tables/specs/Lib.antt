-- What the operations of this crate answer, as equations with the definitions of the crate model.
pub mod Tables
pub mod ReadingBack
