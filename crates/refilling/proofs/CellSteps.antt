-- Laws of one cell: the most that it takes, the crosses that it lowers, and a bound that nothing crosses any more.
-- Assumes nothing.
use mathlib.Core.Path.{◌≡◌, refl, sym, ◌∙◌, ap}
use mathlib.Core.Logic.{◌⊎◌, inl, inr}
use mathlib.Core.List.{List}
use Prim.Native.Nat.{ℕ, suc, ◌+◌, ◌-◌, ◌<◌, ◌≤◌, min}
use native.Mathlib.Nat.{eq-or-lt_of_le, le_of_suc-le-suc}
use native.Mathlib.Omega.{arith}
use lib.ListN.{length, get_or, set}
use lib.Seq.{get_or-set_same, get_or-set_other, set-get_or}
use borrow.Rule.Slice.PartMut.{put_mid}
use Rattle.model.proofs.Numbers.{lt_or_le}
use Rattle.std.proofs.Common.{rules}
use Rattle.std.proofs.lemmas.List.{places}
use Rattle.workloads.specs.Arrays.{numbers_in}
use Rattle.paths.specs.Moves.{put_at}
use Rattle.loads.specs.Crossing.{Lowered, Takes}
use Rattle.refilling.specs.Cells.{Most}

pub most_none : (cross : ℕ → ℕ) (most i : ℕ) → Most cross most i (i + 1) most
most_none cross most i = record { fits = omega arith; crosses = λ b late early. absurd (omega arith); met = inl refl }

module _ {cross : ℕ → ℕ} {most i d t : ℕ} (found : Most cross most i d t) where
  all : (r : ℕ) → r ≤ t → r ≤ cross d → (b : ℕ) → i < b → b < d + 1 → r ≤ cross b
  all r less last b late early = each (eq-or-lt_of_le (le_of_suc-le-suc (let h : b < suc d = omega arith in h)))
    where
      each : (b ≡ d) ⊎ (b < d) → r ≤ cross b
      each (inl e) = rw e last
      each (inr h) = omega (arith, found.crosses b late h)

  -- one bound more
  pub most_next : i < d → Most cross most i (d + 1) (min t (cross d))
  most_next inside =
      record {
        fits = omega (arith, found.fits);
        crosses = all (min t (cross d)) (omega arith) (omega arith);
        met = go (lt_or_le (cross d) t) found.met;
      }
    where
      go : (cross d < t) ⊎ (t ≤ cross d) → (t ≡ most) ⊎ ((b : ℕ) × (i < b) × (b < d) × (t ≡ cross b))
          → (min t (cross d) ≡ most) ⊎ ((b : ℕ) × (i < b) × (b < d + 1) × (min t (cross d) ≡ cross b))
      go (inl less) met = inr (d, inside, omega arith, omega arith)
      go (inr more) (inl e) = inl (omega arith)
      go (inr more) (inr (b, late, early, e)) = inr (b, late, omega arith, omega arith)

-- the crosses of the bounds strictly between i and d, lowered in a part of the array
pub lowered_part : (i d amount : ℕ) (cross part : List ℕ) → i < d → d ≤ length cross → length part ≡ d - (i + 1)
    → ((k : ℕ) → k < length part → numbers_in part k + amount ≡ numbers_in cross (i + 1 + k))
    → Lowered i d amount (numbers_in cross) (numbers_in (put_mid (i + 1) (d - (i + 1)) cross part))
lowered_part i d amount cross part order within long lower = record { inside = in_part; outside = out_of_part }
  where
    after : ℕ → ℕ
    after = numbers_in (put_mid (i + 1) (d - (i + 1)) cross part)

    in_part : (b : ℕ) → i < b → b < d → after b + amount ≡ numbers_in cross b
    in_part b late early =
        let place : i + 1 + (b - (i + 1)) ≡ b = omega arith in
        let put : after b ≡ numbers_in part (b - (i + 1)) = search (rules, places) in
        rw put (lower (b - (i + 1)) (omega arith) ∙ ap (numbers_in cross) place)

    out_of_part : (b : ℕ) → (b ≤ i) ⊎ (d ≤ b) → after b ≡ numbers_in cross b
    out_of_part b (inl early) = search (rules, places)
    out_of_part b (inr late) = search (rules, places)

-- the most is taken
pub takes_most : {i d amount : ℕ} (j : ℕ) (left : List ℕ) (cross cross-after : ℕ → ℕ) → j < length left → Most cross (numbers_in left j) i d amount
    → Lowered i d amount cross cross-after
    → Takes i j d amount (numbers_in left) cross (numbers_in (set left j (numbers_in left j - amount))) cross-after
takes_most {i} {d} {amount} j left cross cross-after inside most lowered =
    let own : numbers_in (set left j (numbers_in left j - amount)) j ≡ numbers_in left j - amount = get_or-set_same left j (numbers_in left j - amount) 0 inside in
    record {
      here = omega (arith, own, most.fits);
      others = λ q other. get_or-set_other left j q (numbers_in left j - amount) 0 other;
      lowered = lowered;
      most = go own most.met;
    }
  where
    go : numbers_in (set left j (numbers_in left j - amount)) j ≡ numbers_in left j - amount
        → (amount ≡ numbers_in left j) ⊎ ((b : ℕ) × (i < b) × (b < d) × (amount ≡ cross b))
        → (numbers_in (set left j (numbers_in left j - amount)) j ≡ 0) ⊎ ((b : ℕ) × (i < b) × (b < d) × (cross-after b ≡ 0))
    go own (inl e) = inl (omega arith)
    go own (inr (b, late, early, e)) = inr (b, late, early, omega (arith, lowered.inside b late early))

-- nothing can be taken
pub takes_none : {i d : ℕ} (j : ℕ) (left cross : ℕ → ℕ) → Most cross (left j) i d 0 → Takes i j d 0 left cross left cross
takes_none {i} {d} j left cross none =
    record {
      here = omega arith;
      others = λ q other. refl;
      lowered = record { inside = λ b late early. omega arith; outside = λ b out. refl };
      most = go none.met;
    }
  where
    go : (0 ≡ left j) ⊎ ((b : ℕ) × (i < b) × (b < d) × (0 ≡ cross b)) → (left j ≡ 0) ⊎ ((b : ℕ) × (i < b) × (b < d) × (cross b ≡ 0))
    go (inl e) = inl (sym e)
    go (inr (b, late, early, e)) = inr (b, late, early, sym e)

-- a number that grows by nothing
pub put_none : (table : List ℕ) (place : ℕ) → table ≡ put_at table place 0
put_none table place = sym (ap (λ (x : ℕ). set table place x) (let e : get_or table place 0 + 0 ≡ get_or table place 0 = omega arith in e) ∙ set-get_or table place 0)
