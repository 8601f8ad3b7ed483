-- Laws of the sets of jobs by price, as the code fills them, and that the set of a price has the jobs that are open in an
-- interval of a smaller price.
-- Assumes nothing.
use mathlib.Core.Path.{◌≡◌, refl, sym, ◌∙◌}
use mathlib.Core.Bool.{Bool, true, false, cond, ◌&&◌, ◌||◌, and-true, and-false, or-false}
use mathlib.Core.Logic.{◌⊎◌, inl, inr}
use mathlib.Core.List.{List, [], ◌∷◌}
use Prim.Native.Nat.{ℕ, zero, suc, ◌+◌, ◌<◌, ◌≤◌}
use native.Mathlib.Nat.{le_of_suc-le-suc}
use native.Mathlib.Omega.{arith}
use lib.ListN.{length, get_or, set, replicate}
use lib.Dec.{ltb, eqb}
use borrow.Author.Tests.{lt-ltb, le-ltb, eq-eqb, ne_eqb}
use Rattle.model.specs.Limits.{max_points, max_jobs}
use Rattle.model.specs.Entries.{list_of}
use Rattle.model.specs.Search.{some_below}
use Rattle.model.proofs.Numbers.{lt_or_le}
use Rattle.model.proofs.Entries.{get_d_list_of, list_of_cong}
use Rattle.model.proofs.Search.{some_below_fails, some_below_next}
use Rattle.job_sets.specs.declared.JobSet.{JobSet}
use Rattle.job_sets.specs.JobSets.{is_member, no_jobs, in_either}
use Rattle.job_sets.specs.IntervalSets.{set_in}
use Rattle.job_sets.proofs.JobSets.{member_of, set_cong}
use Rattle.fitting.proofs.Arrays.{same_hold, store_holds}
use Rattle.pricing.specs.SecondHalf.{priced_set, priced_sets, cheaper_set, cheaper_sets}

-- tests that agree find the same
pub some_below_cong : (count : ℕ) (f g : ℕ → Bool) → ((i : ℕ) → i < count → f i ≡ g i) → some_below count f ≡ some_below count g
unfolding some_below
some_below_cong zero f g same = refl
some_below_cong (suc count) f g same = rw (some_below_cong count f g (λ i below. same i (omega arith)), same count (omega arith))

-- an element of a list does not hang on what stands past its end
get_d_any : {A : Type 0} (l : List A) (i : ℕ) (d e : A) → i < length l → get_or l i d ≡ get_or l i e
get_d_any [] i d e inside = absurd (omega arith)
get_d_any (x ∷ l) zero d e inside = refl
get_d_any (x ∷ l) (suc i) d e inside = get_d_any l i d e (le_of_suc-le-suc inside)

-- A number that passes one of two tests, and one whose value is below a bound: by the values one after another.
or_swap : (a b c d : Bool) → ((a || b) || (c || d)) ≡ ((a || c) || (b || d))
or_swap true b c d = refl
or_swap false true true d = refl
or_swap false true false d = refl
or_swap false false c d = refl

some_or : (count : ℕ) (f g : ℕ → Bool) → some_below count (λ i. f i || g i) ≡ (some_below count f || some_below count g)
unfolding some_below
some_or zero f g = refl
some_or (suc count) f g = rw (some_or count f g) (or_swap (some_below count f) (some_below count g) (f count) (g count))

below_or_at : (t : Bool) (value p : ℕ) → (t && ltb value (suc p)) ≡ ((t && ltb value p) || (t && eqb value p))
below_or_at false value p = refl
below_or_at true value p = go (lt_or_le value p) (lt_or_le p value)
  where
    go : (value < p) ⊎ (p ≤ value) → (p < value) ⊎ (value ≤ p) → ltb value (suc p) ≡ (ltb value p || eqb value p)
    go (inl less) other = rw (lt-ltb value p less, lt-ltb value (suc p) (omega arith))
    go (inr least) (inl more) = rw (le-ltb value p least, le-ltb value (suc p) (omega arith), ne_eqb value p (λ e. omega arith))
    go (inr least) (inr most) = rw (le-ltb value p least, lt-ltb value (suc p) (omega arith), eq-eqb value p (omega arith))

by_value : (count : ℕ) (f : ℕ → Bool) (value : ℕ → ℕ) (p : ℕ)
    → some_below p (λ q. some_below count (λ i. f i && eqb (value i) q)) ≡ some_below count (λ i. f i && ltb (value i) p)
unfolding some_below
by_value count f value zero = sym (some_below_fails count _ (λ i below. rw (le-ltb (value i) 0 (omega arith), and-false)))
by_value count f value (suc p) =
    rw (by_value count f value p)
    (sym (some_below_cong count _ _ (λ i below. below_or_at (f i) (value i) p)
    ∙ some_or count (λ i. f i && ltb (value i) p) (λ i. f i && eqb (value i) p)))

module _ (sets numbers : List ℕ) where
  pub priced_none : replicate max_points no_jobs ≡ priced_sets 0 sets numbers
  unfolding some_below
  priced_none = same_hold max_points no_jobs no_jobs (priced_set 0 sets numbers) (λ p inside. refl)

  -- one interval more: the set of its price gets its jobs
  pub priced_more : (priced : List JobSet) (i : ℕ) (default : JobSet) → priced ≡ priced_sets i sets numbers → get_or numbers i 0 < max_points
      → set priced (get_or numbers i 0) (in_either (get_or priced (get_or numbers i 0) default) (set_in sets i)) ≡ priced_sets (i + 1) sets numbers
  priced_more priced i default filled inside =
      let number : ℕ = get_or numbers i 0 in
      rw filled
      (store_holds max_points no_jobs (priced_set i sets numbers) (priced_set (i + 1) sets numbers) number _ inside
      (rw (get_d_list_of max_points (priced_set i sets numbers) number default inside)
      (set_cong _ _ (λ j below. rw (member_of (opens i number) j below, some_below_next, eq-eqb number number refl, and-true))))
      (λ p within other. set_cong _ _ (λ j below. rw (some_below_next, ne_eqb number p (λ e. other (sym e)), and-false, or-false))))
    where
      opens : (count p j : ℕ) → Bool
      opens count p j = some_below count (λ i. is_member (set_in sets i) j && eqb (get_or numbers i 0) p)

  -- the jobs that are open in an interval of a smaller price
  pub cheaper_has : (count p j : ℕ) (default : JobSet) → p < max_points → j < max_jobs
      → is_member (get_or (cheaper_sets (priced_sets count sets numbers)) p default) j ≡ some_below count (λ i. is_member (set_in sets i) j && ltb (get_or numbers i 0) p)
  cheaper_has count p j default inside below =
      let priced : List JobSet = priced_sets count sets numbers in
      rw (get_d_list_of max_points (cheaper_set priced) p default inside)
      (member_of (λ j. some_below p (λ q. is_member (get_or priced q no_jobs) j)) j below
      ∙ some_below_cong p _ (λ q. some_below count (λ i. is_member (set_in sets i) j && eqb (get_or numbers i 0) q)) (λ q under.
      rw (get_d_list_of max_points (priced_set count sets numbers) q no_jobs (omega arith))
      (member_of (λ j. some_below count (λ i. is_member (set_in sets i) j && eqb (get_or numbers i 0) q)) j below))
      ∙ by_value count (λ i. is_member (set_in sets i) j) (λ i. get_or numbers i 0) p)

-- the union of the sets of the prices passed: before the first price and after one more
pub cheaper_none : (priced : List JobSet) → no_jobs ≡ cheaper_set priced 0
unfolding some_below
cheaper_none priced = refl

pub cheaper_more : (priced : List JobSet) (p : ℕ) (default : JobSet) → p < length priced
    → in_either (cheaper_set priced p) (get_or priced p default) ≡ cheaper_set priced (p + 1)
cheaper_more priced p default inside =
    rw (get_d_any priced p default no_jobs inside)
    (set_cong _ _ (λ j below. rw (member_of (λ j. some_below p (λ q. is_member (get_or priced q no_jobs) j)) j below, some_below_next)))

-- the sets of the first prices, no jobs past them: before the first price, one price more, and all
abbrev pub filled_to : (priced : List JobSet) → (count p : ℕ) → JobSet
filled_to priced count p = cond (ltb p count) (cheaper_set priced p) no_jobs

module _ (priced : List JobSet) where
  pub filled_none : replicate max_points no_jobs ≡ list_of max_points (filled_to priced 0)
  filled_none = same_hold max_points no_jobs no_jobs (filled_to priced 0) (λ p inside. rw (le-ltb p 0 (omega arith)))

  pub filled_more : (cheaper : List JobSet) (p : ℕ) (union : JobSet) → cheaper ≡ list_of max_points (filled_to priced p) → union ≡ cheaper_set priced p → p < max_points
      → set cheaper p union ≡ list_of max_points (filled_to priced (p + 1))
  filled_more cheaper p union filled is_union inside =
      rw filled
      (store_holds max_points no_jobs (filled_to priced p) (filled_to priced (p + 1)) p union inside (rw (lt-ltb p (p + 1) (omega arith)) is_union)
      (λ q within other. kept q (lt_or_le q p) other))
    where
      kept : (q : ℕ) → (q < p) ⊎ (p ≤ q) → (q ≡ p → ⊥) → filled_to priced (p + 1) q ≡ filled_to priced p q
      kept q (inl before) other = rw (lt-ltb q p before, lt-ltb q (p + 1) (omega arith))
      kept q (inr after) other = let past : p + 1 ≤ q = omega arith in rw (le-ltb q p after, le-ltb q (p + 1) past)

  pub filled_all : (cheaper : List JobSet) (count : ℕ) → cheaper ≡ list_of max_points (filled_to priced count) → max_points ≤ count → cheaper ≡ cheaper_sets priced
  filled_all cheaper count filled all = filled ∙ list_of_cong max_points _ _ (λ p inside. rw (lt-ltb p count (omega arith)))
