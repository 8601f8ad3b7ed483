-- Laws of jobs in arrays while they are altered one after another: the arrays between two jobs, one law for each way out, and what a
-- caller that was told how many there are, or the refusal, knows.
-- Assumes nothing.
use mathlib.Core.Path.{◌≡◌, refl, sym, ◌∙◌, ap}
use mathlib.Core.Bool.{cond}
use mathlib.Core.Logic.{◌⊎◌, inl, inr}
use mathlib.Core.List.{List, map}
use Prim.Native.Nat.{ℕ, ◌+◌, ◌<◌, ◌≤◌}
use native.Mathlib.Omega.{arith}
use lib.Dec.{ltb}
use lib.ListN.{length, get_or, set, length-map}
use lib.Seq.{ext_get_or}
use borrow.Author.Tests.{lt-ltb, le-ltb}
use Rattle.std.specs.Prelude.{Some, Result, Ok, Err}
use Rattle.model.specs.declared.refusal.Fault.{Fault}
use Rattle.model.specs.declared.refusal.Refusal.{Refusal}
use Rattle.model.specs.declared.Job.{Job}
use Rattle.model.specs.Limits.{max_jobs, max_free, max_margin}
use Rattle.model.specs.Outcome.{Outcome, refused, answer}
use Rattle.model.specs.Jobs.{no_job, job_of}
use Rattle.model.specs.Refusals.{fault_of, refusal}
use Rattle.model.specs.SiteParameters.{altered_job, altered_fault, alter_jobs}
use Rattle.model.proofs.Numbers.{lt_or_le}
use Rattle.model.proofs.Outcome.{by_entry_stops, by_entry_passes}
use Rattle.model.proofs.SiteParameters.{altered-at}
use Rattle.model.proofs.Refusals.{err≢ok, RefusedBy, fault_nonzero, fault_is, returned_refused, refused_returned}
use Rattle.reading.specs.Column.{column_of}
use Rattle.reading.proofs.Column.{column_at, column_cong, column_changed}
use Rattle.job_tables.specs.Tables.{jobs_in}
use Rattle.job_tables.proofs.Read.{length_jobs_in, job-in}
use Rattle.parameters.specs.AlteredArrays.{ZerosPast, AlteredIn}

-- Job number j in three arrays.
abbrev pub job_at : (releases deadlines cycles : List ℕ) → ℕ → Job
job_at releases deadlines cycles j = record { release = get_or releases j 0; deadline = get_or deadlines j 0; cycles = get_or cycles j 0 }

-- The first j numbers are of one kind, and the others of another.
abbrev pub first_then : (j : ℕ) → (first others : ℕ → ℕ) → ℕ → ℕ
first_then j first others k = cond (ltb k j) (first k) (others k)

-- an array between two jobs
module _ (count : ℕ) (few : count ≤ max_jobs) (new : ℕ → ℕ) where
  -- nothing is altered yet
  pub none_altered : (numbers : List ℕ) → ZerosPast count numbers → numbers ≡ column_of max_jobs count (first_then 0 new (λ k. get_or numbers k 0))
  none_altered numbers padded = padded ∙ column_cong max_jobs count _ _ (λ k below. sym (rw (le-ltb k 0 (omega arith))))

  -- one number more
  pub next_altered : (old : ℕ → ℕ) (numbers : List ℕ) (j value : ℕ) → j < count → numbers ≡ column_of max_jobs count (first_then j new old) → value ≡ new j
      → set numbers j value ≡ column_of max_jobs count (first_then (j + 1) new old)
  next_altered old numbers j value below filled is-next =
      ap (λ (l : List ℕ). set l j value) filled
      ∙ column_changed max_jobs count (first_then j new old) (first_then (j + 1) new old) j value below few
      (is-next ∙ sym (rw (lt-ltb j (j + 1) (omega arith)))) (λ k inside other. same k other (lt_or_le k j))
    where
      same : (k : ℕ) → (k ≡ j → ⊥) → (k < j) ⊎ (j ≤ k) → first_then j new old k ≡ first_then (j + 1) new old k
      same k other (inl before) = rw (lt-ltb k j before, lt-ltb k (j + 1) (omega arith))
      same k other (inr past) = let later : j + 1 ≤ k = omega (arith, other) in rw (le-ltb k j past, le-ltb k (j + 1) later)

  -- the number at a job that is not altered yet
  pub later_number : (old : ℕ → ℕ) (numbers : List ℕ) (j : ℕ) → j < count → numbers ≡ column_of max_jobs count (first_then j new old) → get_or numbers j 0 ≡ old j
  later_number old numbers j below filled =
      ap (λ (l : List ℕ). get_or l j 0) filled ∙ column_at max_jobs (first_then j new old) count j (omega arith) below ∙ rw (le-ltb j j (omega arith))

  -- after the last turn all numbers are altered
  module _ (old : ℕ → ℕ) (numbers : List ℕ) (j : ℕ) (last : count ≤ j) (filled : numbers ≡ column_of max_jobs count (first_then j new old)) where
    all_altered : numbers ≡ column_of max_jobs count new
    all_altered = filled ∙ column_cong max_jobs count _ _ (λ k below. rw (lt-ltb k j (omega arith)))

    pub altered_number : (k : ℕ) → k < count → get_or numbers k 0 ≡ new k
    altered_number k below = ap (λ (l : List ℕ). get_or l k 0) all_altered ∙ column_at max_jobs new count k (omega arith) below

    pub altered_padded : ZerosPast count numbers
    altered_padded = all_altered ∙ column_cong max_jobs count _ _ (λ k below. sym (altered_number k below))

-- a refusal, whatever the arrays hold
pub altering_refused : {outcome : Outcome (List Job)} {own : Refusal} {releases deadlines cycles : List ℕ}
    → RefusedBy outcome own → AlteredIn outcome (Err own) releases deadlines cycles
altering_refused by =
    record {
      told = refused_returned length by;
      held = λ n told. absurd (err≢ok told);
      cycles_past = λ n told. absurd (err≢ok told);
    }

module _ (count free margin : ℕ) (releases deadlines cycles : List ℕ) where
  abbrev jobs : List Job
  jobs = jobs_in count releases deadlines cycles

  -- 35
  pub free_refused : max_free < free → RefusedBy (alter_jobs free margin jobs) (refusal 35 0)
  unfolding alter_jobs
  free_refused high = record { number = 35; place = 0; outcome_is = is; own_is = refl }
    where
      is : alter_jobs free margin jobs ≡ refused 35 0
      is = rw (lt-ltb max_free free high)

  pub margin_refused : free ≤ max_free → max_margin < margin → RefusedBy (alter_jobs free margin jobs) (refusal 35 0)
  unfolding alter_jobs
  margin_refused low high = record { number = 35; place = 0; outcome_is = is; own_is = refl }
    where
      is : alter_jobs free margin jobs ≡ refused 35 0
      is = rw (le-ltb max_free free low, lt-ltb max_margin margin high)

  -- Job number j as it is altered.
  abbrev pub altered_at : ℕ → Job
  altered_at j = altered_job free margin (job_at releases deadlines cycles j)

  at : (j : ℕ) → j < count → job_of (map (altered_job free margin) jobs) j ≡ altered_at j
  at j below =
      altered-at free margin jobs j (rw (length_jobs_in count releases deadlines cycles) below)
      ∙ ap (altered_job free margin) (job-in count releases deadlines cycles j below)

  fault_at : (j : ℕ) → j < count → altered_fault (job_of (map (altered_job free margin) jobs) j) ≡ altered_fault (altered_at j)
  fault_at j below = ap altered_fault (at j below)

  module _ (free_high : free ≤ max_free) (margin_high : margin ≤ max_margin) where
    -- 36 at the first job that has it
    pub job_refused : (j : ℕ) (fault : Fault) → j < count → ((k : ℕ) → k < j → altered_fault (altered_at k) ≡ 0)
        → fault_of (altered_fault (altered_at j)) ≡ Some fault → RefusedBy (alter_jobs free margin jobs) (record { fault = fault; place = j })
    unfolding alter_jobs
    job_refused j fault below sound found =
        record { number = altered_fault (altered_at j); place = j; outcome_is = is; own_is = rw (fault_is _ _ found) refl }
      where
        is : alter_jobs free margin jobs ≡ refused (altered_fault (altered_at j)) j
        is =
            let here = fault_at j below in
            rw (
              le-ltb max_free free free_high,
              le-ltb max_margin margin margin_high,
              ← here,
              by_entry_stops (λ k. altered_fault (job_of (map (altered_job free margin) jobs) k)) (answer (map (altered_job free margin) jobs)) (length jobs) j
                  (λ k before. fault_at k (omega arith) ∙ sound k before) (rw (length_jobs_in count releases deadlines cycles) below)
                  (omega (arith, here, fault_nonzero _ _ found)),
            )

    -- no job has it, and the arrays hold the altered ones
    pub jobs_held : (new_deadlines new_cycles : List ℕ) → ((k : ℕ) → k < count → altered_fault (altered_at k) ≡ 0)
        → ((k : ℕ) → k < count → get_or new_deadlines k 0 ≡ (altered_at k).deadline) → ((k : ℕ) → k < count → get_or new_cycles k 0 ≡ (altered_at k).cycles)
        → ZerosPast count new_cycles → AlteredIn (alter_jobs free margin jobs) (Ok count) releases new_deadlines new_cycles
    unfolding alter_jobs altered_job
    jobs_held new_deadlines new_cycles sound earlier more padded =
        record {
          told = rw (answered, length_jobs_in count releases new_deadlines new_cycles);
          held = λ n told. let same : count ≡ n = cc told in rw (← same) answered;
          cycles_past = λ n told. let same : count ≡ n = cc told in rw (← same) padded;
        }
      where
        same_job : (k : ℕ) → k < count → altered_at k ≡ job_at releases new_deadlines new_cycles k
        same_job k below = sym (rw (earlier k below, more k below))

        same_jobs : map (altered_job free margin) jobs ≡ jobs_in count releases new_deadlines new_cycles
        same_jobs =
            let size : length (map (altered_job free margin) jobs) ≡ count =
            length-map jobs (altered_job free margin) ∙ length_jobs_in count releases deadlines cycles in
            ext_get_or no_job _ _ (size ∙ sym (length_jobs_in count releases new_deadlines new_cycles))
            (λ k below.
            let inside : k < count = rw size at below in
            at k inside ∙ same_job k inside ∙ sym (job-in count releases new_deadlines new_cycles k inside))

        answered : alter_jobs free margin jobs ≡ answer (jobs_in count releases new_deadlines new_cycles)
        answered =
            rw (le-ltb max_free free free_high, le-ltb max_margin margin margin_high, ← same_jobs)
            (by_entry_passes (λ k. altered_fault (job_of (map (altered_job free margin) jobs) k)) (answer (map (altered_job free margin) jobs)) (length jobs)
            (λ k below. let inside : k < count = rw (length_jobs_in count releases deadlines cycles) at below in fault_at k inside ∙ sound k inside))

-- what a caller knows
module _ {outcome : Outcome (List Job)} {result : Result ℕ Refusal} {releases deadlines cycles : List ℕ}
    (altered : AlteredIn outcome result releases deadlines cycles) where
  pub refused_altering : (own : Refusal) → result ≡ Err own → RefusedBy outcome own
  refused_altering own e = returned_refused length outcome own (sym altered.told ∙ e)
