-- `records::job_records` meets its contract. Assumes nothing.
use mathlib.Core.Path.{◌≡◌, sym, ◌∙◌}
use mathlib.Core.List.{List}
use Prim.Native.Nat.{ℕ, ◌+◌, ◌<◌, ◌≤◌}
use native.Mathlib.Decide.{ℕ_discrete}
use native.Mathlib.Omega.{arith}
use lib.ListN.{length, set, take, length-set, length-replicate, length-take}
use lib.Seq.{ext_get_or, get_or-set_same, get_or-set_other, get_or-take}
use borrow.Author.Count.{below_none}
use Rattle.model.specs.declared.Job.{Job}
use Rattle.model.specs.Limits.{max_jobs}
use Rattle.model.specs.Jobs.{no_job, job_of}
use Rattle.model.proofs.Entries.{length_list_of, get_d_list_of}
use Rattle.job_tables.specs.Tables.{jobs_in}
use Rattle.job_records.proofs.records.job_records.Invariants.{entry, Filled}
use Rattle.job_records.proofs.records.job_records.Goals as goal

module _ (releases deadlines cycles : List ℕ) where
  abbrev the_entry : ℕ → Job
  the_entry = entry releases deadlines cycles

  abbrev Passed : ℕ → List Job → Type 0
  Passed = Filled releases deadlines cycles

  filled_more : (jobs : List Job) (j : ℕ) → length jobs ≡ max_jobs → j < max_jobs → Passed j jobs → Passed (j + 1) (set jobs j (the_entry j))
  filled_more jobs j size inside before k below = at (ℕ_discrete k j)
    where
      at : Dec (k ≡ j) → job_of (set jobs j (the_entry j)) k ≡ the_entry k
      at (yes same) = rw same (get_or-set_same jobs j (the_entry j) no_job (omega (arith, size)))
      at (no other) = get_or-set_other jobs j k (the_entry j) no_job other ∙ before k (omega arith)

  filled_all : (jobs : List Job) (count j : ℕ) → length jobs ≡ max_jobs → count ≤ max_jobs → count ≤ j → Passed j jobs
      → take count jobs ≡ jobs_in count releases deadlines cycles
  unfolding jobs_in
  filled_all jobs count j size few past before =
      let taken : length (take count jobs) ≡ count = length-take count jobs ∙ omega (arith, size) in
      ext_get_or no_job _ _ (taken ∙ sym (length_list_of count the_entry))
      (λ k below. let inside : k < count = omega (arith, taken) in
      get_or-take count jobs k no_job inside ∙ before k (omega arith) ∙ sym (get_d_list_of count the_entry k no_job inside))

pub loop-j-init : goal.loop-j-init
loop-j-init c = (omega arith, length-replicate max_jobs no_job, below_none _)

pub loop-j-preserved : goal.loop-j-preserved
loop-j-preserved c =
    let a = c.args in
    let inv = c.loop-j.invariant in
    let jobs : List Job = c.loop-j.jobs in
    let next : Job = entry a.releases.now a.deadlines.now a.cycles.now c.loop-j.j in (
      omega arith,
      length-set jobs c.loop-j.j next ∙ inv.1,
      filled_more a.releases.now a.deadlines.now a.cycles.now jobs c.loop-j.j inv.1 (omega arith) inv.2,
    )

pub returns : goal.returns
returns c =
    let a = c.args in
    filled_all a.releases.now a.deadlines.now a.cycles.now c.loop-j.jobs a.count c.loop-j.j
    c.loop-j.invariant.1 c.requires (omega arith) c.loop-j.invariant.2
