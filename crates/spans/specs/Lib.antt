-- What touches a span of ticks, over jobs and a plan and over plain arrays, and what is answered and written of it.
pub mod Spans
pub mod SpanAnswers
pub mod TouchedIn
