-- What altering a table in plain arrays asks and answers, over the definitions of the crate model.
pub mod AlteredArrays
