use mathlib.Core.Path.{◌≡◌, ◌∙◌, sym, ap}
use mathlib.Core.List.{List}
use Prim.Native.Nat.{ℕ, ◌≤◌, ◌<◌}
use native.Mathlib.Nat.{le_trans}
use native.Mathlib.Omega.{arith}
use lib.ListN.{get_or}
use Rattle.model.specs.Limits.{max_cycles}
use Rattle.model.specs.Jobs.{job_of}
use Rattle.model.specs.Windows.{cycles_inside}
use Rattle.job_tables.specs.Tables.{jobs_in}
use Rattle.job_tables.proofs.Read.{length_jobs_in, job-in, jobs_count, sound_in}
use Rattle.model.proofs.Sum.{sum_none, sum_more, sum_whole}
use Rattle.spare.proofs.window.cycles_inside.Invariants.{counted}
use Rattle.spare.proofs.window.cycles_inside.Goals as goal
use Rattle.spare.proofs.window.cycles_inside.Goals.{After-cycles_if_inside-sum}

-- what the job at place j counts, as the code has it
counts : (count : ℕ) (releases deadlines cycles : List ℕ) (start end j value : ℕ) → j < count
    → value ≡ counted start end (record { release = get_or releases j 0; deadline = get_or deadlines j 0; cycles = get_or cycles j 0 })
    → value ≡ counted start end (job_of (jobs_in count releases deadlines cycles) j)
counts count releases deadlines cycles start end j value below found =
    found ∙ ap (counted start end) (sym (job-in count releases deadlines cycles j below))

pub loop-j-init : goal.loop-j-init
loop-j-init c = (jobs_count _ _ _ _ c.requires, omega arith, sum_none _, omega arith)

little : (c : After-cycles_if_inside-sum) → c.cycles_if_inside-sum.result ≤ max_cycles
little c =
    le_trans c.cycles_if_inside-sum.ensures.1 (sound_in _ _ _ _ c.requires _ c.loop-j-test.true).cycles_high

pub overflow_add-sum : goal.overflow_add-sum
overflow_add-sum c = omega (arith, little (goal.at.overflow_add-sum c).After-cycles_if_inside-sum)

pub loop-j-preserved : goal.loop-j-preserved
loop-j-preserved c = (
  omega arith,
  omega arith,
  sum_more _ _ _ _ c.loop-j.invariant.2 (counts _ _ _ _ _ _ _ _ c.loop-j-test.true c.cycles_if_inside-sum.ensures.0),
  omega (arith, little (goal.at.loop-j-preserved c).After-cycles_if_inside-sum),
)

pub returns : goal.returns
unfolding cycles_inside
returns c =
    let inv = c.loop-j.invariant in
    (sum_whole _ _ _ _ inv.1 c.loop-j-test.false (length_jobs_in _ _ _ _) _ inv.2, omega arith)
