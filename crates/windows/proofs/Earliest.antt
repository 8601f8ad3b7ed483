-- Laws of the earliest overfull window: the one that has its properties is the one that is named, and where no window between a
-- release and a deadline is overfull none is named.
-- Assumes nothing.
use mathlib.Core.Path.{◌≡◌, refl, sym, ◌∙◌, ap}
use mathlib.Core.List.{List}
use mathlib.Core.Option.{Option, none, some}
use Prim.Native.Nat.{ℕ, ◌≤◌}
use native.Mathlib.Omega.{arith}
use Rattle.model.specs.declared.Job.{Job}
use Rattle.model.specs.Jobs.{job_of, ValidJobs}
use Rattle.model.specs.Windows.{Window, earliest_overfull}
use Rattle.model.proofs.Windows.{OverfullBetween, EarliestOverfull, earliest_overfull_found, earliest_overfull_exists}

module _ {top : ℕ} {jobs : List Job} where
  -- its release and its deadline are those of two jobs
  between : {w : Window} → EarliestOverfull top jobs w → (j : ℕ) × (k : ℕ) × OverfullBetween top jobs j k
      × ((job_of jobs j).release ≡ w.start) × ((job_of jobs k).deadline ≡ w.end)
  between law =
      let (j, from, starts) = law.release in
      let (k, to, ends) = law.deadline in (
        j,
        k,
        record { from = from; to = to; later = omega (arith, law.later); overfull = rw (starts, ends) law.overfull },
        starts,
        ends,
      )

  starts_first : {v w : Window} → EarliestOverfull top jobs v → EarliestOverfull top jobs w → v.start ≤ w.start
  starts_first first other =
      let (j, k, law, starts, ends) = between other in
      omega (arith, first.earliest-start j k law)

  ends_first : {v w : Window} → v.start ≡ w.start → EarliestOverfull top jobs v → EarliestOverfull top jobs w → v.end ≤ w.end
  ends_first same first other =
      let (k, to, ends) = other.deadline in
      omega (arith, first.earliest-end k to (omega (arith, other.later)) (rw (same, ends) other.overfull))

  pub earliest_is : ValidJobs jobs → (w : Window) → EarliestOverfull top jobs w → earliest_overfull top jobs ≡ some w
  earliest_is valid w law =
      let (found, e) = earliest_overfull_exists top jobs valid.release_before_deadline w.start w.end law.overfull in
      let other = earliest_overfull_found top jobs found e in
      let starts : found.start ≡ w.start = omega (arith, starts_first law other, starts_first other law) in
      let ends : found.end ≡ w.end = omega (arith, ends_first (sym starts) law other, ends_first starts other law) in
      e ∙ ap some (same_window found w.start w.end starts ends)
    where
      same_window : (v : Window) (start end : ℕ) → v.start ≡ start → v.end ≡ end → v ≡ record { start = start; end = end }
      same_window v start end starts ends = rw (← starts, ← ends)

  pub earliest_none : ((j k : ℕ) → OverfullBetween top jobs j k → ⊥) → earliest_overfull top jobs ≡ none
  earliest_none fits = go (earliest_overfull top jobs) refl
    where
      go : (found : Option Window) → earliest_overfull top jobs ≡ found → found ≡ none
      go none e = refl
      go (some w) e = let (j, k, law, starts, ends) = between (earliest_overfull_found top jobs w e) in absurd (fits j k law)
