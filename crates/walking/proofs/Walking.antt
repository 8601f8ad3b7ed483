-- Laws of walking: what stands at a position of a plan, and that taking the positions 0, 1, 2, .. gives exactly the
-- steps of the walk, each once in file order.
-- Assumes nothing.
use mathlib.Core.Path.{◌≡◌, refl, sym}
use mathlib.Core.Bool.{Bool, true, false}
use mathlib.Core.List.{List, [], ◌∷◌}
use Prim.Native.Nat.{ℕ, zero, suc, ◌+◌, ◌<◌, ◌≤◌}
use native.Mathlib.Nat.{le_of_suc-le-suc, zero-add}
use native.Mathlib.Omega.{arith}
use lib.ListN.{length}
use Rattle.std.specs.Prelude.{Some, None, Ok}
use Rattle.model.specs.Outcome.{refused, answer}
use Rattle.model.specs.Entries.{list_of}
use Rattle.model.specs.Steps.{Step, step_count, step_at, wrong_plan_length, walk}
use Rattle.model.proofs.Entries.{length_list_of}
use Rattle.walking.specs.Walking.{code_step, StepAnswer, step_or_end, step_answer, number_after, taken_from, WalkTakesAll}

-- a position before the end has its step, and every position from the end on has none
pub step_found : (count : ℕ) (f : ℕ → Step) (position : ℕ) → position < count
    → Some (code_step (f position)) ≡ step_or_end (list_of count f) position
unfolding step_or_end list_of
step_found zero f position below = absurd (omega arith)
step_found (suc count) f zero below = refl
step_found (suc count) f (suc position) below = step_found count (λ i. f (suc i)) position (le_of_suc-le-suc below)

pub step_past : (count : ℕ) (f : ℕ → Step) (position : ℕ) → count ≤ position → None ≡ step_or_end (list_of count f) position
unfolding step_or_end list_of
step_past zero f position past = refl
step_past (suc count) f zero past = absurd (omega arith)
step_past (suc count) f (suc position) past = step_past count (λ i. f (suc i)) position (le_of_suc-le-suc past)

-- so the number after it is one higher, or stays
pub number_found : (count : ℕ) (f : ℕ → Step) (position : ℕ) → position < count
    → position + 1 ≡ number_after (Ok (step_or_end (list_of count f) position)) position
number_found count f position below = rw (sym (step_found count f position below)) (omega arith)

pub number_past : (count : ℕ) (f : ℕ → Step) (position : ℕ) → count ≤ position
    → position ≡ number_after (Ok (step_or_end (list_of count f) position)) position
number_past count f position past = rw (sym (step_past count f position past))

-- a plan of the right length has steps, any other bytes are refused
module _ (plan : List ℕ) where
  pub walk_refused : wrong_plan_length plan ≡ true → walk plan ≡ refused 15 0
  unfolding walk
  walk_refused wrong = rw wrong

  pub walk_answered : wrong_plan_length plan ≡ false → walk plan ≡ answer (list_of (step_count plan) (step_at plan))
  unfolding walk
  walk_answered right = rw right

-- taking positions whose answers are those of a list gives the list
taken_list : (steps : List Step) (at : ℕ → StepAnswer) (first turns : ℕ) → ((position : ℕ) → at (first + position) ≡ Ok (step_or_end steps position))
    → length steps < turns → taken_from at first turns ≡ answer steps
unfolding taken_from step_or_end
taken_list steps at first zero same enough = absurd (omega arith)
taken_list [] at first (suc turns) same enough =
    let e : first + 0 ≡ first = omega arith in rw (rw e at (same 0))
taken_list (step ∷ steps) at first (suc turns) same enough =
    let e : first + 0 ≡ first = omega arith in
    let here : at first ≡ Ok (Some (code_step step)) = rw e at (same 0) in
    rw (here, taken_list steps at (suc first) turns later (le_of_suc-le-suc enough))
  where
    later : (position : ℕ) → at (suc first + position) ≡ Ok (step_or_end steps position)
    later position = let e : suc first + position ≡ first + suc position = omega arith in rw e (same (suc position))

-- the refusal is taken at the first position
taken_refused : (turns : ℕ) → 0 < turns → taken_from (step_answer (refused 15 0)) 0 turns ≡ refused 15 0
unfolding taken_from
taken_refused zero some = absurd (omega arith)
taken_refused (suc turns) some = refl

-- Taking the positions 0, 1, 2, .. gives exactly the walk.
pub walk_takes_all : WalkTakesAll
walk_takes_all plan turns enough = go (wrong_plan_length plan) refl
  where
    go : (wrong : Bool) → wrong_plan_length plan ≡ wrong → taken_from (step_answer (walk plan)) 0 turns ≡ walk plan
    go true e = rw (walk_refused plan e) (taken_refused turns (omega arith))
    go false e =
        rw (walk_answered plan e)
        (taken_list (list_of (step_count plan) (step_at plan)) _ 0 turns (λ position. rw zero-add) (rw length_list_of enough))
