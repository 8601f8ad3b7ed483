-- Laws of walking a path from a target back to the job being placed, to find out how many cycles can go along it: at each
-- interval some job reached before the last one is open, so the first such job has a smaller number each time.
-- Assumes nothing.
use mathlib.Core.Path.{◌≡◌, sym, ◌∙◌}
use mathlib.Core.Bool.{Bool, true, ◌&&◌}
use mathlib.Core.Logic.{◌⊎◌, inl, inr}
use Prim.Native.Nat.{ℕ, ◌<◌, ◌≤◌, min}
use native.Mathlib.Omega.{arith}
use lib.Dec.{leb, ltb}
use borrow.Author.Tests.{leb-true, le-leb, ltb-true, lt-ltb}
use Rattle.model.specs.Plans.{Shares}
use Rattle.model.proofs.Numbers.{lt_or_le, true≢false, both_true}
use Rattle.model.proofs.Search.{FirstBelow, first_below_law}
use Rattle.workloads.specs.Placement.{Problem, Open}
use Rattle.searching.specs.Reached.{Reached}
use Rattle.paths.specs.Paths.{first_open, Passes, ends, goes, Walking}

module _ (p : Problem) (count : ℕ) (reached : ℕ → ℕ) where
  -- the first reached job that is open in an interval, where one with a number below `bound` is
  pub first-open : (gap : ℕ) {bound : ℕ} → bound ≤ count → (s : ℕ) × (s < bound) × Open p gap (reached s)
      → (first_open p count reached gap < bound) × Open p gap (reached (first_open p count reached gap))
  unfolding first_open
  first-open gap {bound} within (s, below, is_open_true) = go (first_open p count reached gap) (first_below_law count test)
    where
      test : ℕ → Bool
      test s = leb (p.first (reached s)) gap && ltb gap (p.last (reached s))

      passes : test s ≡ true
      passes = rw (le-leb (p.first (reached s)) gap is_open_true.from) (lt-ltb gap (p.last (reached s)) is_open_true.to)

      go : (r : ℕ) → FirstBelow count test r → (r < bound) × Open p gap (reached r)
      go r law = which (lt_or_le s r)
        where
          which : (s < r) ⊎ (r ≤ s) → (r < bound) × Open p gap (reached r)
          which (inl later) = absurd (true≢false (sym passes ∙ law.before s later))
          which (inr first) =
              let (from, to) = both_true (leb (p.first (reached r)) gap) (ltb gap (p.last (reached r))) (law.here (omega arith)) in
              (omega arith, record { from = leb-true _ _ from; to = ltb-true _ _ to })

module _ {p : Problem} {shares : Shares} {count : ℕ} {reached source : ℕ → ℕ} where
  -- on a path that goes on, the share that moves into the gap is large enough, and the rest of the path is one
  pub passes_next : {amount gap s : ℕ} → Passes p shares count reached source amount gap → first_open p count reached gap ≡ s → 0 < s
      → (amount ≤ shares (source s) (reached s)) × Passes p shares count reached source amount (source s)
  passes_next (ends is-origin) is more = absurd (omega arith)
  passes_next {s = s} (goes {s = r} here some enough rest) is more =
      let e : s ≡ r = sym is ∙ here in
      rw e (enough, rest)

  module _ {job start end : ℕ} (now : Reached p shares job count reached source start end) {target : ℕ} where
    pub walking_start : {limit : ℕ} → 1 ≤ limit → start ≤ target → target < end
        → Walking p shares count reached source target limit target count
    walking_start some from to =
        record {
          some = some;
          gap_below = omega (arith, now.end_below);
          gap_reached = now.covered target from to;
          bound_within = omega arith;
          leads = λ amount within passes. passes;
        }

    module _ {limit gap bound : ℕ} (walking : Walking p shares count reached source target limit gap bound) where
      -- one step
      pub walking_step : {s : ℕ} → first_open p count reached gap ≡ s → 0 < s
          → Walking p shares count reached source target (min limit (shares (source s) (reached s))) (source s) s
      walking_step {s} is more =
          let listed : s < count = omega (arith, (first-open p count reached gap walking.bound_within walking.gap_reached).0, walking.bound_within) in
          record {
            some = omega (arith, walking.some, now.source_share s more listed);
            gap_below = now.source_below s more listed;
            gap_reached = now.source_reached s more listed;
            bound_within = omega arith;
            leads = λ amount within passes. walking.leads amount (omega arith) (goes is more (omega arith) passes);
          }

      -- at the job being placed
      pub walking_end : first_open p count reached gap ≡ 0 → {amount : ℕ} → amount ≤ limit → Passes p shares count reached source amount target
      walking_end is {amount} within = walking.leads amount within (ends is)
