-- Laws of the listing.
pub mod ListedSite
pub mod ShownSpans
pub mod ListedPlans
pub mod ListedRefusals
pub mod ListingText
