-- The second half over plain arrays, one law for each way out of the code: refusal 21, and what the verdicts on the entries,
-- on the prices against the loads and on the steps against the smaller prices say.
-- Assumes nothing.
use mathlib.Core.Path.{◌≡◌, sym, ◌∙◌, ap}
use mathlib.Core.Bool.{true, false, not, ◌&&◌}
use mathlib.Core.List.{List, []}
use Prim.Native.Nat.{ℕ, ◌+◌, ◌-◌, ◌*◌, ◌<◌, ◌≤◌}
use native.Mathlib.Omega.{arith}
use lib.ListN.{length, get_or}
use lib.Dec.{ltb, leb, eqb}
use Rattle.std.specs.Prelude.{Result, Ok, Err}
use Rattle.model.specs.declared.Job.{Job}
use Rattle.model.specs.declared.refusal.Fault.TheVariants.{PricesLength}
use Rattle.model.specs.declared.refusal.Refusal.{Refusal}
use Rattle.model.specs.Limits.{max_intervals, max_jobs, max_bounds}
use Rattle.model.specs.Outcome.{Outcome, by_entry}
use Rattle.model.specs.Points.{Point}
use Rattle.model.specs.Jobs.{job_of}
use Rattle.model.specs.Intervals.{interval_count, is_open}
use Rattle.model.specs.Plans.{load}
use Rattle.model.specs.Processors.{Processor, working_of, processor_of}
use Rattle.model.specs.Sites.{Site}
use Rattle.model.specs.Steps.{step_count, step_at, shares_of}
use Rattle.model.specs.PriceBytes.{price_intervals, end_at, prices_of}
use Rattle.model.specs.Checking.{entry_fault, price_fault, cheaper_fault, pricing}
use Rattle.model.proofs.Outcome.{by_entry_answered}
use Rattle.model.proofs.Steps.{load_of_steps}
use Rattle.model.proofs.Numbers.{both_true}
use Rattle.model.proofs.Faults.{price-length}
use Rattle.model.proofs.Refusals.{refused_returned}
use Rattle.model.proofs.Tests.{in-range, fault_unless}
use Rattle.reading.specs.Column.{column_of}
use Rattle.reading.proofs.Column.{column_at}
use Rattle.levels.specs.declared.points.PointTable.{PointTable}
use Rattle.levels.specs.PointTables.{points_of}
use Rattle.levels.proofs.PointTables.{length_points_of}
use Rattle.fitting.specs.Verdicts.{verdict_of, passed}
use Rattle.intervals.specs.Times.{SmallBounds}
use Rattle.job_sets.specs.JobSets.{is_member}
use Rattle.job_sets.specs.IntervalSets.{set_in}
use Rattle.job_records.specs.SetsHave.{SetsHave}
use Rattle.job_records.specs.TestedJobs.{open_below}
use Rattle.fitting.specs.FirstHalf.{bounds_in, site_in}
use Rattle.pricing.specs.SecondHalf.{Planned, BandNumbers, wrong_length_in, entry_fault_in, price_fault_in, cheaper_fault_in}
use Rattle.fitting.proofs.Verdicts.{by_entry_cong, entries_refused, entries_passed}
use Rattle.fitting.proofs.Tallies.{tally_at}
use Rattle.fitting.proofs.BoundsIn.{intervals_in, end_in, length_in, open_in}
use Rattle.job_records.proofs.TestedJobs.{open_has}
use Rattle.pricing.proofs.PricedSets.{some_below_cong}

-- over the arrays alone: past the refusals 21 and 22 the price list has its length and its prices are numbers of bands
module _ (bounds : ℕ) (times prices : List ℕ) (few : bounds ≤ max_bounds) (intervals : ℕ) (counted : intervals ≡ bounds - 1)
    (right : wrong_length_in intervals prices ≡ false) where
  lengths : (price_intervals prices ≡ intervals) × (length prices ≡ 2 + 5 * intervals)
  lengths =
      let site : Site = site_in (processor_of []) [] times bounds in
      let all : interval_count site.bounds ≡ intervals = intervals_in bounds times ∙ sym counted in
      rw all at ((price-length site [] prices).0 (rw all right))

  pub price_size : length prices ≡ 2 + 5 * intervals
  price_size = lengths.1

  module _ (numbers : List ℕ) (filled : numbers ≡ column_of max_intervals intervals (λ i. get_or prices (2 + 4 * intervals + i) 0)) where
    price_at : (i : ℕ) → i < intervals → prices_of prices i ≡ get_or numbers i 0
    unfolding prices_of
    price_at i below =
        rw (filled, lengths.0) (sym (column_at max_intervals _ intervals i (omega arith) below))

    module _ (bands : ℕ) (entries : Result (Unit {0}) Refusal) (went : entries ≡ verdict_of (by_entry intervals (entry_fault_in bands times prices numbers) passed))
        (sound : entries ≡ Ok tt) where
      in_bands : (i : ℕ) → i < intervals → not (leb 1 (get_or numbers i 0) && leb (get_or numbers i 0) bands) ≡ false
      in_bands i below =
          let faultless = (by_entry_answered _ passed intervals (entries_passed passed intervals _ entries went sound)).0 i below in
          let test = fault_unless (eqb (end_at prices i) (get_or times (i + 1) 0) && (leb 1 (get_or numbers i 0) && leb (get_or numbers i 0) bands)) 21 (λ e. e, λ e. e) in
          let inside : (leb 1 (get_or numbers i 0) && leb (get_or numbers i 0) bands) ≡ true =
          (both_true (eqb (end_at prices i) (get_or times (i + 1) 0)) _ (test.sound.0 faultless)).1 in
          rw inside

      pub band_numbers : BandNumbers bands (bounds - 1) numbers
      band_numbers =
          record {
            low = λ i below. (in-range (get_or numbers i 0) bands (in_bands i (omega arith))).0;
            high = λ i below. (in-range (get_or numbers i 0) bands (in_bands i (omega arith))).1;
          }

module _ (working : PointTable) (sets : List ℕ) (count bounds : ℕ) (times plan loads prices : List ℕ)
    (small : SmallBounds bounds times) (few : count ≤ max_jobs) (planned : Planned count bounds plan loads)
    (intervals : ℕ) (counted : intervals ≡ bounds - 1)
    (processor : Processor) (is-working : working_of processor ≡ points_of working) (jobs : List Job) where
  abbrev ws : List Point
  ws = points_of working

  abbrev bs : List ℕ
  bs = bounds_in bounds times

  abbrev site : Site
  site = site_in processor jobs times bounds

  abbrev outcome : Outcome (Unit {0})
  outcome = pricing site plan prices passed

  -- what is left to go through after the entries, and after the loads
  abbrev after_fits : Outcome (Unit {0})
  after_fits = by_entry (step_count plan) (cheaper_fault site plan prices) passed

  abbrev after_entries : Outcome (Unit {0})
  after_entries = by_entry (interval_count bs) (price_fault site plan prices) after_fits

  all_intervals : interval_count bs ≡ intervals
  all_intervals = intervals_in bounds times ∙ sym counted

  pub wrong_length_refused : wrong_length_in intervals prices ≡ true → Err (record { fault = PricesLength; place = 0 }) ≡ verdict_of outcome
  unfolding pricing
  wrong_length_refused wrong = rw (all_intervals, wrong)

  module _ (right : wrong_length_in intervals prices ≡ false) where
    past_lengths : outcome ≡ by_entry (interval_count bs) (entry_fault site plan prices) after_entries
    unfolding pricing
    past_lengths = rw ((price-length site plan prices).1 (rw all_intervals (lengths bounds times prices small.rising.few intervals counted right)))

    module _ (numbers : List ℕ) (filled : numbers ≡ column_of max_intervals intervals (λ i. get_or prices (2 + 4 * intervals + i) 0)) where
      price_here : (i : ℕ) → i < intervals → prices_of prices i ≡ get_or numbers i 0
      price_here = price_at bounds times prices small.rising.few intervals counted right numbers filled

      module _ (entries : Result (Unit {0}) Refusal)
          (went : entries ≡ verdict_of (by_entry intervals (entry_fault_in (working.count - 1) times prices numbers) passed)) where
        same_entry : (i : ℕ) → i < intervals → entry_fault site plan prices i ≡ entry_fault_in (working.count - 1) times prices numbers i
        unfolding entry_fault
        same_entry i below = rw (is-working, end_in bounds times i (omega arith), price_here i below, length_points_of working)

        entered : outcome ≡ by_entry intervals (entry_fault_in (working.count - 1) times prices numbers) after_entries
        entered = past_lengths ∙ rw all_intervals (by_entry_cong intervals _ _ _ same_entry)

        pub entries_refuse : (own : Refusal) → entries ≡ Err own → Err own ≡ verdict_of outcome
        entries_refuse own e = rw entered (refused_returned _ (entries_refused after_entries intervals _ entries went own e))

        module _ (sound : entries ≡ Ok tt) where
          module _
              (jobs_counted : length jobs ≡ count) (opened : SetsHave sets (open_below jobs count times bounds))
              (fits : Result (Unit {0}) Refusal) (tested : fits ≡ verdict_of (by_entry (bounds - 1) (price_fault_in ws times loads numbers) passed)) where
            loaded : (i : ℕ) → i < intervals → load jobs (shares_of plan) i ≡ get_or loads i 0
            loaded i below =
                load_of_steps plan jobs (λ s inside. rw jobs_counted (planned.step_job s inside)) i
                ∙ rw planned.loaded
                (sym (tally_at max_intervals _ _ (step_count plan) i (omega (arith, small.rising.few))))

            same_price : (i : ℕ) → i < intervals → price_fault site plan prices i ≡ price_fault_in ws times loads numbers i
            unfolding price_fault
            same_price i below = rw (is-working, length_in bounds times i (omega arith), loaded i below, price_here i below)

            past_entries : outcome ≡ by_entry (bounds - 1) (price_fault_in ws times loads numbers) after_fits
            past_entries =
                entered
                ∙ entries_passed after_entries intervals _ entries went sound
                ∙ rw (intervals_in bounds times) (by_entry_cong (bounds - 1) _ _ after_fits (λ i below. same_price i (omega arith)))

            pub fits_refuse : (own : Refusal) → fits ≡ Err own → Err own ≡ verdict_of outcome
            fits_refuse own e = rw past_entries (refused_returned _ (entries_refused after_fits (bounds - 1) _ fits tested own e))

            -- the step's job is open in an interval exactly when the interval's set has it
            same_step : (s : ℕ) → s < step_count plan → cheaper_fault site plan prices s ≡ cheaper_fault_in sets bounds numbers plan s
            unfolding cheaper_fault
            same_step s inside =
                let j : ℕ = (step_at plan s).job in
                let interval : (step_at plan s).interval < bounds - 1 = planned.step_interval s inside in
                rw (
                  intervals_in bounds times,
                  some_below_cong (bounds - 1)
                      (λ i. is_open bs (job_of jobs j) i && ltb (prices_of prices i) (prices_of prices (step_at plan s).interval))
                      (λ i. is_member (set_in sets i) j && ltb (get_or numbers i 0) (get_or numbers (step_at plan s).interval 0))
                      (λ i below. rw (
                        open_in bounds times (job_of jobs j) i (omega arith),
                        open_has jobs times bounds count opened i j below (omega (arith, small.rising.few)) (planned.step_job s inside) (omega (arith, planned.step_job s inside)),
                        price_here i (omega arith),
                        price_here (step_at plan s).interval (omega arith),
                      )),
                )

            pub cheapest_decides : fits ≡ Ok tt → (last : Result (Unit {0}) Refusal) → last ≡ verdict_of (by_entry (step_count plan) (cheaper_fault_in sets bounds numbers plan) passed)
                → last ≡ verdict_of outcome
            cheapest_decides fit last found =
                found
                ∙ ap verdict_of
                (sym (past_entries
                ∙ entries_passed after_fits (bounds - 1) _ fits tested fit
                ∙ by_entry_cong (step_count plan) _ _ passed same_step))
