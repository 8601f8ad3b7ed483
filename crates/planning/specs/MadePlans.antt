-- What is made where a site was read and no window of it is overfull.
use Rattle.std.specs.Prelude.{ℕ, ◌+◌, ◌*◌, ◌^◌, ◌<◌, ◌≡◌, List, length, take, drop}
use Rattle.std.proofs.Math.Option.{none}
use Rattle.model.specs.Processors.{top_of}
use Rattle.model.specs.Sites.{Site}
use Rattle.model.specs.Windows.{earliest_overfull}
use Rattle.model.specs.Planning.{Planned}
use Rattle.model.specs.Demands.{LongEnough}
use Rattle.site.specs.declared.SiteTable.{SiteTable}
use Rattle.planning.specs.SiteArrays.{InArrays}

-- The three buffers.
pub record Buffers : Type 0 where
  pub plan : List ℕ
  pub prices : List ℕ
  pub shares : List ℕ

-- What is written for a site where N, S and the energy figure are answered: a plan, its prices and its shares, as planning
-- promises them. The rest of each buffer stays.
pub record Written (site : Site) (intervals steps energy : ℕ) (before after : Buffers) : Type 0 where
  pub planned : Planned site intervals steps energy
      (take (4 + 6 * steps) after.plan) (take (2 + 5 * intervals) after.prices) (take (length site.jobs * intervals) after.shares)
  pub plan-kept : drop (4 + 6 * steps) after.plan ≡ drop (4 + 6 * steps) before.plan
  pub prices-kept : drop (2 + 5 * intervals) after.prices ≡ drop (2 + 5 * intervals) before.prices
  pub shares-kept : drop (length site.jobs * intervals) after.shares ≡ drop (length site.jobs * intervals) before.shares

-- A valid site without an overfull window stands in a table and arrays.
pub record FitsIn (site : Site) (table : SiteTable) (cycles times first last sets : List ℕ) : Type 0 where
  pub in_arrays : InArrays site table cycles times first last sets
  pub fits : earliest_overfull (top_of site.processor) site.jobs ≡ none

-- A plan can be made of it: the buffers are long enough too.
pub record CanMake (site : Site) (table : SiteTable) (cycles times first last sets : List ℕ) (before : Buffers) : Type 0 where
  pub fitting : FitsIn site table cycles times first last sets
  pub long : LongEnough site (length before.plan) (length before.prices) (length before.shares)

-- What is made, with the numbers answered, which have 32 bits.
pub record MadePlan (site : Site) (intervals steps energy : ℕ) (before after : Buffers) : Type 0 where
  pub written : Written site intervals steps energy before after
  pub intervals_fit : intervals < 2 ^ 32
  pub steps_fit : steps < 2 ^ 32
