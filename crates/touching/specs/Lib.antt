-- What the operation that lists what touches a span promises, and lines of it.
pub mod Touching
pub mod TouchingAnswers
pub mod TouchingLines
