-- A law of the jobs' windows: their numbers are small where the intervals are few.
-- Assumes nothing.
use Prim.Native.Nat.{ℕ, ◌<◌, ◌≤◌}
use native.Mathlib.Omega.{arith}
use Rattle.model.specs.Limits.{max_intervals}
use Rattle.workloads.specs.Placement.{Problem, SoundProblem}

pub window_small : {p : Problem} → SoundProblem p → p.intervals ≤ max_intervals → {j : ℕ} → j < p.jobs
    → (p.first j < max_intervals) × (p.last j ≤ max_intervals)
window_small sound few {j} below =
    let inside = sound.inside j below in
    (omega (arith, sound.window j below, inside, few), omega (arith, inside, few))
