-- Laws of routes: the numbers of the reached jobs on a path, stored while the path is walked and read while cycles move along it.
-- Assumes nothing.
use mathlib.Core.Path.{◌≡◌, sym, ◌∙◌}
use mathlib.Core.List.{List}
use mathlib.Core.Logic.{◌⊎◌, inl, inr}
use Prim.Native.Nat.{ℕ, suc, ◌+◌, ◌<◌, ◌≤◌}
use native.Mathlib.Nat.{eq-or-lt_of_le}
use native.Mathlib.Numerals.{add-one}
use native.Mathlib.Omega.{arith}
use lib.ListN.{length, set}
use lib.Seq.{get_or-set_same, get_or-set_other}
use Rattle.model.specs.Limits.{max_jobs}
use Rattle.model.proofs.Numbers.{lt_or_le}
use Rattle.workloads.specs.Placement.{Problem}
use Rattle.workloads.specs.Arrays.{numbers_in}
use Rattle.paths.specs.Paths.{first_open, path_number, Routed}

-- The route holds the path up to reached job s. Each step leads to a smaller number, so there are fewer than count.
pub record Routing (p : Problem) (count : ℕ) (reached source : ℕ → ℕ) (target : ℕ) (route : List ℕ) (steps s : ℕ) : Type 0 where
  pub here : s ≡ path_number p count reached source target steps
  pub few : s + steps < count
  pub numbers : (k : ℕ) → k ≤ steps → numbers_in route k ≡ path_number p count reached source target k

module _ {p : Problem} {count : ℕ} {reached source : ℕ → ℕ} {target : ℕ} where
  pub routing_start : (route : List ℕ) → 0 < length route → {s : ℕ} → s < count → s ≡ first_open p count reached target
      → Routing p count reached source target (set route 0 s) 0 s
  unfolding path_number
  routing_start route some {s} listed is_first =
      record {
        here = is_first;
        few = omega arith;
        numbers = λ k first. let e : k ≡ 0 = omega arith in rw e (get_or-set_same route 0 s 0 some ∙ is_first);
      }

  module _ {route : List ℕ} {steps s : ℕ} (routing : Routing p count reached source target route steps s) where
    pub routing_next : {next : ℕ} → next < s → next ≡ first_open p count reached (source s) → steps + 1 < length route
        → Routing p count reached source target (set route (steps + 1) next) (steps + 1) next
    unfolding path_number
    routing_next {next} falls is-next room =
        let here : next ≡ path_number p count reached source target (steps + 1) = rw (add-one steps, ← routing.here) is-next in
        record {
          here = here;
          few = omega (arith, routing.few);
          numbers = λ k within. go k here (lt_or_le steps k) within;
        }
      where
        go : (k : ℕ) → next ≡ path_number p count reached source target (steps + 1) → (steps < k) ⊎ (k ≤ steps) → k ≤ steps + 1
            → numbers_in (set route (steps + 1) next) k ≡ path_number p count reached source target k
        go k here (inl last) within =
            let e : k ≡ steps + 1 = omega arith in
            rw e (get_or-set_same route (steps + 1) next 0 room ∙ here)
        go k here (inr before) within = get_or-set_other route (steps + 1) k next 0 (λ e. omega arith) ∙ routing.numbers k before

    pub routing_end : s ≤ 0 → count ≤ max_jobs → Routed p count reached source target (numbers_in route)
    routing_end last few =
        let e : s ≡ 0 = omega arith in
        record {
          steps = steps;
          few = omega (arith, routing.few);
          ends = sym routing.here ∙ e;
          numbers = routing.numbers;
        }

  module _ {route : ℕ → ℕ} (routed : Routed p count reached source target route) where
    pub route_start : route 0 ≡ first_open p count reached target
    unfolding path_number
    route_start = routed.numbers 0 (omega arith)

    -- after a number that is not 0 there is another
    pub route_next : {k s : ℕ} → k ≤ routed.steps → s ≡ route k → 0 < s
        → (k + 1 ≤ routed.steps) × (route (k + 1) ≡ first_open p count reached (source s))
    unfolding path_number
    route_next {k} {s} within is_number more = go (eq-or-lt_of_le within)
      where
        go : (k ≡ routed.steps) ⊎ (k < routed.steps) → (k + 1 ≤ routed.steps) × (route (k + 1) ≡ first_open p count reached (source s))
        go (inl last) = absurd (omega (arith, routed.numbers k within, rw (← last) at routed.ends))
        go (inr before) = (omega arith, rw (add-one k, is_number, routed.numbers k within) (routed.numbers (suc k) (omega arith)))
