-- How long the buffers must be (document 01, refusals 12 to 14; document 02, Change 10), and what that is worked out from.
use Rattle.std.specs.Prelude.{ℕ, ◌<◌, ◌^◌, ◌≡◌, List, length}
use Rattle.model.specs.Intervals.{interval_count}
use Rattle.model.specs.Sites.{Site, ValidSite}
use Rattle.model.specs.Planning.{plan_length, price_length, share_count}
use Rattle.intervals.specs.OpenSets.{HoldsOpen}

-- How many jobs and intervals a valid site has, and for each interval the set of the jobs open there.
pub record OpenIn (site : Site) (jobs intervals : ℕ) (sets : List ℕ) : Type 0 where
  pub valid : ValidSite site
  pub jobs_are : jobs ≡ length site.jobs
  pub intervals_are : intervals ≡ interval_count site.bounds
  pub open_are : HoldsOpen site.jobs site.bounds sets

pub record WantedRooms (site : Site) (plan prices shares : ℕ) : Type 0 where
  pub plan_is : plan ≡ plan_length site
  pub prices_are : prices ≡ price_length site
  pub shares_are : shares ≡ share_count site
  -- each is a refusal's place, of 32 bits
  pub plan_fits : plan < 2 ^ 32
  pub prices_fit : prices < 2 ^ 32
  pub shares_fit : shares < 2 ^ 32
