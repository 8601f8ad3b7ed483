-- With the listing's buffers planning refuses only what reading refuses, since the buffers are long enough for any site.
-- Assumes nothing.
use mathlib.Core.Path.{◌≡◌, refl, sym}
use mathlib.Core.List.{List}
use Prim.Native.Nat.{ℕ}
use native.Mathlib.Omega.{arith}
use lib.ListN.{length, length-replicate}
use Rattle.model.specs.declared.Parameters.{Parameters}
use Rattle.model.specs.Outcome.{Outcome, refused, answer}
use Rattle.model.specs.Sites.{Site, read_site, ValidSite}
use Rattle.model.specs.Planning.{refusal, planning}
use Rattle.model.specs.Demands.{LongEnough}
use Rattle.model.proofs.Sites.{sites_are_valid}
use Rattle.model.proofs.Demands.{long_enough_decides}
use Rattle.rooms.proofs.RoomSizes.{intervals_few, cells_few, limit_few}
use Rattle.listing_text.specs.Listings.{plan_room, price_room, share_room, zeros}

-- the buffers are long enough for any site
long_enough : (site : Site) → ValidSite site → LongEnough site plan_room price_room share_room
long_enough site valid =
    record {
      plan-room = omega (arith, limit_few valid);
      price-room = omega (arith, intervals_few valid);
      share-room = cells_few valid;
    }

length_zeros : (n : ℕ) → length (zeros n) ≡ n
unfolding zeros
length_zeros n = length-replicate {A = ℕ} n 0

module _ (level_bytes job_bytes mark_bytes : List ℕ) (parameters : Parameters) (number place : ℕ) where
  refused_in : refusal number place ≡ planning level_bytes job_bytes mark_bytes parameters plan_room price_room share_room
      → (outcome : Outcome Site) → read_site level_bytes job_bytes mark_bytes parameters ≡ outcome → outcome ≡ refused number place
  unfolding planning
  refused_in e (refused own own_place) is = cc (rw is at e)
  refused_in e (answer site) is =
      absurd ((long_enough_decides site plan_room price_room share_room
      (long_enough site (sites_are_valid level_bytes job_bytes mark_bytes parameters site is))).no_refusal number place (sym (rw is at e)))

  pub reading_refused : refusal number place ≡ planning level_bytes job_bytes mark_bytes parameters (length (zeros plan_room)) (length (zeros price_room)) (length (zeros share_room))
      → read_site level_bytes job_bytes mark_bytes parameters ≡ refused number place
  reading_refused e =
      refused_in (rw (length_zeros plan_room, length_zeros price_room, length_zeros share_room) at e) (read_site level_bytes job_bytes mark_bytes parameters) refl
