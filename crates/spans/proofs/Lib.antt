-- Laws of the definitions, for the proofs of the functions.
pub mod NearestDeadlines
pub mod SpanTicks
pub mod Listed
pub mod MemberLists
pub mod MemberStores
pub mod StepLists
pub mod StepStores
