-- Laws of values added by key: before the first entry, after one more and after the last, and how large they grow.
-- Assumes nothing.
use mathlib.Core.Path.{◌≡◌, refl, sym, ◌∙◌}
use mathlib.Core.List.{List}
use Prim.Native.Nat.{ℕ, ◌+◌, ◌*◌, ◌^◌, ◌<◌, ◌≤◌}
use native.Mathlib.Omega.{arith}
use lib.ListN.{get_or, set, replicate}
use lib.Dec.{eqb}
use borrow.Author.Tests.{eq-eqb, ne_eqb}
use Rattle.model.specs.Sum.{sum, only_if}
use Rattle.model.proofs.Entries.{get_d_list_of, list_of_cong}
use Rattle.model.proofs.Sum.{sum_mono, sum_const, sum_next}
use Rattle.model.proofs.SumMore.{only_if_le}
use Rattle.model.specs.Bytes.{IsBytes}
use Rattle.model.specs.Steps.{step_count, step_at}
use Rattle.model.proofs.Bytes.{number_at_small}
use Rattle.fitting.specs.Sums.{tally_of}
use Rattle.fitting.proofs.Arrays.{same_hold, store_holds}

module _ (size : ℕ) (key value : ℕ → ℕ) where
  pub tally_at : (count k : ℕ) → k < size → get_or (tally_of size count key value) k 0 ≡ sum count (λ s. only_if (eqb (key s) k) (value s))
  unfolding tally_of
  tally_at count k inside = get_d_list_of size _ k 0 inside

  pub tally_none : replicate size 0 ≡ tally_of size 0 key value
  unfolding tally_of sum
  tally_none = same_hold size 0 0 _ (λ k inside. refl)

  -- one entry more
  pub tally_more : (numbers : List ℕ) (s k v : ℕ) → numbers ≡ tally_of size s key value → k ≡ key s → v ≡ value s → k < size
      → set numbers k (get_or numbers k 0 + v) ≡ tally_of size (s + 1) key value
  unfolding tally_of
  tally_more numbers s k v filled is_key is-value inside =
      rw filled
      (store_holds size 0 _ _ k _ inside
      (rw (
        get_d_list_of {A = ℕ} size (λ k. sum s (λ s. only_if (eqb (key s) k) (value s))) k 0 inside,
        sum_next,
        eq-eqb (key s) k (sym is_key),
        is-value,
      ))
      (λ i within other.
      rw (sum_next, ne_eqb (key s) i (λ e. other (sym e ∙ sym is_key))) (omega arith)))

  -- an entry whose key is none of the array's
  pub tally_past : (numbers : List ℕ) (s k : ℕ) → numbers ≡ tally_of size s key value → k ≡ key s → size ≤ k → numbers ≡ tally_of size (s + 1) key value
  unfolding tally_of
  tally_past numbers s k filled is_key past =
      filled ∙ list_of_cong size _ _ (λ i inside. rw (sum_next, ne_eqb (key s) i (λ e. omega arith)) (omega arith))

  -- at most as many times the largest value as there are entries
  tally_small : (count most k : ℕ) → ((s : ℕ) → s < count → value s ≤ most) → k < size
      → get_or (tally_of size count key value) k 0 ≤ count * most
  tally_small count most k small inside =
      rw (tally_at count k inside, ← sum_const count most)
      (sum_mono count (λ s below. omega (arith, only_if_le (eqb (key s) k) (value s), small s below)))

  -- after the last entry
  pub tally_whole : (numbers : List ℕ) (s count : ℕ) → s ≤ count → count ≤ s → numbers ≡ tally_of size s key value
      → numbers ≡ tally_of size count key value
  tally_whole numbers s count low high filled = let e : count ≡ s = omega arith in rw e filled

-- a plan has fewer than 2 ^ 16 steps, each with cycles below 2 ^ 32: their sums have room in 64 bits
pub cycles_room : (plan : List ℕ) → IsBytes plan → (size : ℕ) (key : ℕ → ℕ) (numbers : List ℕ) (s k v : ℕ)
    → numbers ≡ tally_of size s key (λ r. (step_at plan r).cycles) → s < 2 ^ 16 → k < size → v < 2 ^ 32
    → get_or numbers k 0 + v < 2 ^ 64
unfolding step_at
cycles_room plan bytes size key numbers s k v filled few inside small =
    let most : ℕ = 2 ^ 32 in
    let grown : get_or (tally_of size s key (λ r. (step_at plan r).cycles)) k 0 ≤ s * most =
    tally_small size key (λ r. (step_at plan r).cycles) s most k
    (λ r below. omega (arith, number_at_small 4 plan (4 + 2 * step_count plan + 4 * r) bytes)) inside in
    rw filled (omega arith)
