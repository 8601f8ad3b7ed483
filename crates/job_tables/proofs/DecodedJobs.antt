-- Decoding jobs, one law for each way out: the refusals without a place; and going through the entries, which stand in the
-- arrays that decoding fills.
-- Assumes nothing.
use mathlib.Core.Path.{◌≡◌, refl, sym, ◌∙◌, ap}
use mathlib.Core.List.{List}
use Prim.Native.Nat.{ℕ, ◌+◌, ◌*◌, ◌<◌, ◌≤◌}
use native.Mathlib.Omega.{arith}
use lib.ListN.{length}
use borrow.Author.Tests.{lt-ltb, le-ltb, eq-eqb, ne_eqb}
use Rattle.std.specs.Prelude.{Result, Ok, Err}
use Rattle.model.specs.declared.refusal.Refusal.{Refusal}
use Rattle.model.specs.declared.Job.{Job}
use Rattle.model.specs.Limits.{max_jobs}
use Rattle.model.specs.Bytes.{number32}
use Rattle.model.specs.Outcome.{Outcome, refused, answer, by_entry}
use Rattle.model.specs.Refusals.{refusal}
use Rattle.model.specs.Jobs.{no_job, job_count, job_at, job_entries, job_fault, read_jobs}
use Rattle.model.proofs.Entries.{length_list_of, list_of_cong}
use Rattle.model.proofs.Refusals.{err≢ok, returned_refused, returned_answered, refused_returned}
use Rattle.reading.specs.Column.{column_of}
use Rattle.reading.specs.Tables.{returned_count}
use Rattle.reading.proofs.Column.{column_at, column_of_entries}
use Rattle.reading.proofs.ByEntry.{reading_answered}
use Rattle.job_tables.specs.Tables.{jobs_in, job_table, checked_jobs, DecodedJobs}

-- a refusal, whatever the arrays hold
pub decoded_refused : {outcome : Outcome (List Job)} {releases deadlines cycles : List ℕ} (number place : ℕ)
    → refused number place ≡ outcome → DecodedJobs outcome (Err (refusal number place)) releases deadlines cycles
decoded_refused number place e = record { told = ap returned_count e; held = λ n told. absurd (err≢ok told) }

-- a table that is refused is the whole answer, whatever the arrays hold
pub decoded_table : {outcome : Outcome (List Job)} {result : Result ℕ Refusal} {releases deadlines cycles : List ℕ}
    → DecodedJobs outcome result releases deadlines cycles → (own : Refusal) → result ≡ Err own → Err own ≡ job_table outcome
decoded_table {outcome} decoded own e = refused_returned _ (returned_refused length outcome own (sym decoded.told ∙ e))

module _ (bytes : List ℕ) where
  abbrev release_column : List ℕ
  release_column = column_of max_jobs (job_count bytes) (λ j. number32 bytes (2 + 8 * j))

  -- the deadline stands four bytes after the release
  abbrev deadline_column : List ℕ
  deadline_column = column_of max_jobs (job_count bytes) (λ j. number32 bytes (6 + 8 * j))

  abbrev cycles_column : List ℕ
  cycles_column = column_of max_jobs (job_count bytes) (λ j. number32 bytes (2 + 8 * job_count bytes + 4 * j))

  -- the outcome of going through the entries
  abbrev pub checked : Outcome (List Job)
  checked = by_entry (job_count bytes) (job_fault (job_entries bytes)) (answer (job_entries bytes))

  deadline_at : (j : ℕ) → number32 bytes (6 + 8 * j) ≡ number32 bytes (2 + 8 * j + 4)
  deadline_at j = let place : 6 + 8 * j ≡ 2 + 8 * j + 4 = omega arith in rw place

  -- the jobs in the arrays are the entries of the bytes
  jobs_decoded : job_count bytes ≤ max_jobs → jobs_in (job_count bytes) release_column deadline_column cycles_column ≡ job_entries bytes
  unfolding jobs_in job_at
  jobs_decoded few =
      list_of_cong (job_count bytes) _ _
      (λ j below. let inside : j < max_jobs = omega arith in rw (column_at, column_at, column_at, deadline_at))

  -- where the entries are answered, the arrays stand beside their number as they were filled
  jobs_answered : (n : ℕ) → returned_count checked ≡ Ok n
      → Ok (record { count = n; releases = release_column; deadlines = deadline_column; cycles = cycles_column }) ≡ job_table checked
  unfolding job_at
  jobs_answered n e =
      let whole : checked ≡ answer (job_entries bytes) = reading_answered _ _ _ n e in
      let (jobs, answered, counted) = returned_answered length checked n e in
      let all : length (job_entries bytes) ≡ n = cc in
      rw (
        ← all,
        whole,
        column_of_entries max_jobs (job_count bytes) (job_at bytes) no_job (λ job. job.release) _ (λ j. refl),
        column_of_entries max_jobs (job_count bytes) (job_at bytes) no_job (λ job. job.deadline) _ deadline_at,
        column_of_entries max_jobs (job_count bytes) (job_at bytes) no_job (λ job. job.cycles) _ (λ j. refl),
        length_list_of (job_count bytes) (job_at bytes),
      )

  -- the ways out before the entries, and past them
  pub jobs_short : length bytes < 2 → refused 6 0 ≡ read_jobs bytes
  unfolding read_jobs
  jobs_short short = rw (lt-ltb _ _ short)

  module _ (long : 2 ≤ length bytes) where
    pub jobs_many : max_jobs < job_count bytes → refused 7 0 ≡ read_jobs bytes
    unfolding read_jobs
    jobs_many many = rw (le-ltb _ _ long, lt-ltb _ _ many)

    module _ (few : job_count bytes ≤ max_jobs) where
      pub jobs_cut : (length bytes ≡ 2 + 12 * job_count bytes → ⊥) → refused 8 0 ≡ read_jobs bytes
      unfolding read_jobs
      jobs_cut cut = rw (le-ltb _ _ long, le-ltb _ _ few, ne_eqb _ _ cut)

      jobs_whole : length bytes ≡ 2 + 12 * job_count bytes → checked ≡ read_jobs bytes
      unfolding read_jobs
      jobs_whole whole = rw (le-ltb _ _ long, le-ltb _ _ few, eq-eqb _ _ whole)

  -- what was filled and found, as the code has it
  module _ (count : ℕ) (releases deadlines cycles : List ℕ) (result : Result ℕ Refusal)
      (counted : count ≡ job_count bytes)
      (few : count ≤ max_jobs)
      (first : releases ≡ column_of max_jobs count (λ j. number32 bytes (2 + 8 * j)))
      (second : deadlines ≡ column_of max_jobs count (λ j. number32 bytes (6 + 8 * j)))
      (third : cycles ≡ column_of max_jobs count (λ j. number32 bytes (2 + 8 * count + 4 * j)))
      (found : result ≡ returned_count (checked_jobs count releases deadlines cycles)) where
    found_checked : result ≡ returned_count checked
    found_checked = found ∙ rw (first, second, third, counted, jobs_decoded (rw counted at few))

    pub jobs_decoded_whole : 2 ≤ length bytes → length bytes ≡ 2 + 12 * count → DecodedJobs (read_jobs bytes) result releases deadlines cycles
    jobs_decoded_whole long whole =
        rw (← jobs_whole long (rw counted at few) (rw counted at whole))
        (record {
          told = found_checked;
          held = λ n e. rw (first, second, third, counted) (jobs_answered n (sym found_checked ∙ e));
        })
