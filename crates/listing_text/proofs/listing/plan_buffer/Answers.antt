-- `listing::plan_buffer` meets its contract. Assumes nothing.
use mathlib.Core.Path.{refl}
use Rattle.listing_text.specs.Listings.{zeros}
use Rattle.listing_text.proofs.listing.plan_buffer.Goals as goal

pub returns : goal.returns
unfolding zeros
returns c = refl
