-- Laws of the numbers that a definition refuses by, one for each form of refusal, and the numbers of each operation.
-- Assumes nothing.
use mathlib.Core.Path.{◌≡◌, refl}
use mathlib.Core.Bool.{Bool, true, false, cond, not, ◌||◌, ◌&&◌}
use mathlib.Core.Logic.{◌⊎◌, inl, inr}
use mathlib.Core.List.{List, map}
use mathlib.Core.Option.{Option, none, some}
use Prim.Native.Nat.{ℕ, zero, suc, ◌+◌, ◌-◌, ◌*◌}
use native.Mathlib.Omega.{arith}
use lib.ListN.{length}
use lib.Dec.{ltb, leb, eqb}
use Rattle.model.specs.declared.Level.{Level}
use Rattle.model.specs.declared.Job.{Job}
use Rattle.model.specs.declared.Parameters.{Parameters}
use Rattle.model.specs.Limits.{max_levels, max_jobs, max_marks, max_deadline}
use Rattle.model.specs.Outcome.{Outcome, refused, answer, and_then, refuse_when, refuse_at, refuse_under, by_entry_from, by_entry, From, RefusesBy}
use Rattle.model.specs.Entries.{list_of}
use Rattle.model.specs.Levels.{level_of, wrong_frequency, wrong_voltage, fault_of_level, level_fault}
use Rattle.model.specs.Points.{power_of}
use Rattle.model.specs.LevelTables.{level_count, level_entries, idle_entries, idle_power_of, running_levels, stands_alone}
use Rattle.model.specs.LevelTables.{or_fault, draw_fault, running_fault, table_fault, read_levels, LevelNumbers}
use Rattle.model.specs.Jobs.{job_of, job_count, job_entries, wrong_window, wrong_cycles as wrong_job_cycles, fault_of_job, job_fault, read_jobs}
use Rattle.model.specs.SiteParameters.{wrong_highest, levels_up_to, alter_levels, wrong_free, wrong_margin, altered_job, is_emptied, has_too_many_cycles, altered_fault, alter_jobs}
use Rattle.model.specs.Processors.{working_of, top_of, processor_of, read_processor}
use Rattle.model.specs.Setting.{setting_of, setting}
use Rattle.model.specs.Search.{some_below}
use Rattle.model.specs.Intervals.{interval_count, bound_at, length_of, is_open}
use Rattle.model.specs.Marks.{mark_count, mark_entries, not_rising, read_marks}
use Rattle.model.specs.Sites.{Given, read_given, tables_of, alter_tables, read_tables, Site, site_of, read_site, read_given_site}
use Rattle.model.specs.Sites.{GivenNumbers, GivenSiteNumbers, TableNumbers, SiteNumbers}
use Rattle.model.specs.Windows.{Window, spare_of, earliest_overfull, wrong_span, spare}
use Rattle.model.specs.Plans.{load}
use Rattle.model.specs.Prices.{is_band_number, fits_load}
use Rattle.model.specs.Steps.{plan_intervals, step_count, step_at, wrong_plan_length, walk, job_sum, shares_of}
use Rattle.model.specs.PriceBytes.{end_at, prices_of}
use Rattle.model.specs.Checking.{
  wrong_cell,
  wrong_cycles,
  step_fault,
  stepping,
  job_sum_fault,
  load_fault,
  fitting,
  wrong_price_length,
  entry_fault,
  price_fault,
  cheaper_fault,
  pricing,
  figure_of,
  fits_for,
  fits,
  check_for,
  check,
}
use Rattle.model.specs.Planning.{PlanOutcome, refusal, after_reading, unless_overfull, wants, plan_length, price_length, share_count, plan_for, planning}

-- A fault number is 0, for none, or one of the numbers.
abbrev pub FaultBy : (numbers : ℕ → Type 0) → ℕ → Type 0
FaultBy numbers fault = (fault ≡ 0) ⊎ numbers fault

module _ (numbers : ℕ → Type 0) where
  pub fault_cond : (test : Bool) (number other : ℕ) → numbers number → FaultBy numbers other → FaultBy numbers (cond test number other)
  fault_cond true number other mine rest = inr mine
  fault_cond false number other mine rest = rest

  or-fault : (fault next : ℕ) → FaultBy numbers fault → FaultBy numbers next → FaultBy numbers (or_fault fault next)
  or-fault zero next mine rest = rest
  or-fault (suc number) next mine rest = mine

  fault_past : (test : Bool) (fault : ℕ) → FaultBy numbers fault → FaultBy numbers (cond test 0 fault)
  fault_past true fault mine = inl refl
  fault_past false fault mine = mine

  fault_unless : (test : Bool) (number : ℕ) → numbers number → FaultBy numbers (cond test 0 number)
  fault_unless true number mine = inl refl
  fault_unless false number mine = inr mine

  module _ {A : Type 0} where
    pub by_answer : (a : A) → RefusesBy numbers (answer a)
    by_answer a number place e = let z : ◌≡◌ {A = ℕ} 0 1 = cc e in absurd (omega (arith, z))

    pub by_refused : (own at : ℕ) → numbers own → RefusesBy {A = A} numbers (refused own at)
    by_refused own at mine number place e = let same : own ≡ number = cc e in rw same at mine

    pub by_when : (condition : Bool) (own : ℕ) {next : Outcome A} → numbers own → RefusesBy numbers next → RefusesBy numbers (refuse_when condition own next)
    by_when true own mine rest = by_refused own 0 mine
    by_when false own mine rest = rest

    pub by_under : (wanted own room : ℕ) {next : Outcome A} → numbers own → RefusesBy numbers next → RefusesBy numbers (refuse_under wanted own room next)
    by_under wanted own room {next} mine rest = go (ltb room wanted)
      where
        go : (short : Bool) → RefusesBy numbers (cond short (refused own wanted) next)
        go true = by_refused own wanted mine
        go false = rest

    by_at : (own at : ℕ) {next : Outcome A} → FaultBy numbers own → RefusesBy numbers next → RefusesBy numbers (refuse_at own at next)
    by_at zero at fault rest = rest
    by_at (suc n) at (inl e) rest = absurd (omega (arith, e))
    by_at (suc n) at (inr mine) rest = by_refused (suc n) at mine

    pub by_entries : (first count : ℕ) (fault : ℕ → ℕ) {next : Outcome A} → ((i : ℕ) → FaultBy numbers (fault i)) → RefusesBy numbers next
        → RefusesBy numbers (by_entry_from first count fault next)
    unfolding by_entry_from
    by_entries first zero fault each rest = rest
    by_entries first (suc count) fault each rest = by_at (fault first) first (each first) (by_entries (suc first) count fault each rest)

    pub by_then : {B : Type 0} (first : Outcome B) (next : B → Outcome A) → RefusesBy numbers first → ((b : B) → RefusesBy numbers (next b))
        → RefusesBy numbers (and_then first next)
    by_then (refused own at) next mine rest = by_refused own at (mine own at refl)
    by_then (answer b) next mine rest = rest b

-- numbers among more numbers
pub widen : {A : Type 0} {few many : ℕ → Type 0} {outcome : Outcome A} → ((n : ℕ) → few n → many n) → RefusesBy few outcome → RefusesBy many outcome
widen wider by number place e = wider number (by number place e)

level-fault : (before this : Level) → FaultBy LevelNumbers (fault_of_level before this)
unfolding fault_of_level
level-fault before this =
    fault_cond LevelNumbers (wrong_frequency before this) 4 (cond (wrong_voltage before this) 5 0) (inl (omega arith))
    (fault_cond LevelNumbers (wrong_voltage before this) 5 0 (inl (omega arith)) (inl refl))

draw-fault : (idle_power : ℕ) (first : Level) → FaultBy LevelNumbers (draw_fault idle_power first)
draw-fault idle_power first = fault_cond LevelNumbers (leb (power_of first) idle_power) 32 0 (inr (omega arith)) (inl refl)

running-fault : (idle_power : ℕ) (levels : List Level) (j : ℕ) → FaultBy LevelNumbers (running_fault idle_power levels j)
unfolding running_fault
running-fault idle_power levels zero = or-fault LevelNumbers (level_fault levels 0) _ (level-fault _ _) (draw-fault idle_power (level_of levels 0))
running-fault idle_power levels (suc j) = level-fault _ _

table-fault : (entries : List Level) (i : ℕ) → FaultBy LevelNumbers (table_fault entries i)
unfolding table_fault
table-fault entries i =
    fault_past LevelNumbers (ltb i (idle_entries entries)) _
    (running-fault (idle_power_of entries) (running_levels entries) (i - idle_entries entries))

pub levels_by : (bytes : List ℕ) → RefusesBy LevelNumbers (read_levels bytes)
unfolding read_levels
levels_by bytes =
    by_when LevelNumbers (ltb (length bytes) 2) 1 (inl (omega arith))
    (by_when LevelNumbers (not (leb 1 (level_count bytes) && leb (level_count bytes) max_levels)) 2 (inl (omega arith))
    (by_when LevelNumbers (not (eqb (length bytes) (2 + 4 * level_count bytes))) 3 (inl (omega arith))
    (by_when LevelNumbers (stands_alone (level_entries bytes)) 31 (inr (omega arith))
    (by_entries LevelNumbers 0 (level_count bytes) (table_fault (level_entries bytes)) (table-fault (level_entries bytes))
    (by_answer LevelNumbers (level_entries bytes))))))

job-fault : (job : Job) → FaultBy (From 6 10) (fault_of_job job)
unfolding fault_of_job
job-fault job =
    fault_cond (From 6 10) (wrong_window job) 9 (cond (wrong_job_cycles job) 10 0) (omega arith)
    (fault_cond (From 6 10) (wrong_job_cycles job) 10 0 (omega arith) (inl refl))

pub jobs_by : (bytes : List ℕ) → RefusesBy (From 6 10) (read_jobs bytes)
unfolding read_jobs
jobs_by bytes =
    by_when (From 6 10) (ltb (length bytes) 2) 6 (omega arith)
    (by_when (From 6 10) (ltb max_jobs (job_count bytes)) 7 (omega arith)
    (by_when (From 6 10) (not (eqb (length bytes) (2 + 12 * job_count bytes))) 8 (omega arith)
    (by_entries (From 6 10) 0 (job_count bytes) (job_fault (job_entries bytes)) (λ j. job-fault _)
    (by_answer (From 6 10) (job_entries bytes)))))

-- altering refuses by 35 and 36, whatever else may follow
module _ (numbers : ℕ → Type 0) (ranged : numbers 35) where
  pub alter_levels_by : (highest : ℕ) (entries : List Level) → RefusesBy numbers (alter_levels highest entries)
  unfolding alter_levels
  alter_levels_by highest entries = by_when numbers (wrong_highest entries highest) 35 ranged (by_answer numbers (levels_up_to highest entries))

  module _ (lasting : numbers 36) where
    altered-fault : (job : Job) → FaultBy numbers (altered_fault job)
    unfolding altered_fault
    altered-fault job = fault_cond numbers (is_emptied job || has_too_many_cycles job) 36 0 lasting (inl refl)

    pub alter_jobs_by : (free margin : ℕ) (jobs : List Job) → RefusesBy numbers (alter_jobs free margin jobs)
    unfolding alter_jobs
    alter_jobs_by free margin jobs =
        let altered : List Job = map (altered_job free margin) jobs in
        by_when numbers (wrong_free free || wrong_margin margin) 35 ranged
        (by_entries numbers 0 (length jobs) (λ j. altered_fault (job_of altered j)) (λ j. altered-fault (job_of altered j))
        (by_answer numbers altered))

    alter_by : (parameters : Parameters) (given : Given) → RefusesBy numbers (alter_tables parameters given)
    unfolding alter_tables
    alter_by parameters given =
        by_then numbers (alter_levels parameters.highest given.levels) _ (alter_levels_by parameters.highest given.levels) λ levels.
        by_then numbers (alter_jobs parameters.free parameters.margin given.jobs) _
        (alter_jobs_by parameters.free parameters.margin given.jobs) λ jobs.
        by_answer numbers (tables_of (record { levels = levels; jobs = jobs }))

abbrev SettingNumbers : ℕ → Type 0
SettingNumbers n = (LevelNumbers n ⊎ From 35 35 n) ⊎ From 25 26 n

pub setting_by : (levels : List ℕ) (highest size load : ℕ) → RefusesBy SettingNumbers (setting levels highest size load)
unfolding setting
setting_by levels highest size load =
    by_then SettingNumbers (read_processor levels highest) _
    (by_then SettingNumbers (read_levels levels) _ (widen (λ n low. inl (inl low)) (levels_by levels)) λ entries.
    by_then SettingNumbers (alter_levels highest entries) _ (alter_levels_by SettingNumbers (inl (inr (omega arith))) highest entries) λ altered.
    by_answer SettingNumbers (processor_of altered)) λ processor.
    by_when SettingNumbers (not (leb 1 size && leb size max_deadline)) 25 (inr (omega arith))
    (by_when SettingNumbers (ltb (size * top_of processor) load) 26 (inr (omega arith))
    (by_answer SettingNumbers (setting_of (working_of processor) size load)))

pub marks_by : (bytes : List ℕ) → RefusesBy (From 34 34) (read_marks bytes)
unfolding read_marks
marks_by bytes =
    by_when (From 34 34) (ltb (length bytes) 2) 34 (omega arith)
    (by_when (From 34 34) (ltb max_marks (mark_count bytes)) 34 (omega arith)
    (by_when (From 34 34) (not (eqb (length bytes) (2 + 4 * mark_count bytes))) 34 (omega arith)
    (by_when (From 34 34) (not_rising (mark_entries bytes)) 34 (omega arith)
    (by_answer (From 34 34) (mark_entries bytes)))))

-- the numbers of both tables
level_numbers : (n : ℕ) → LevelNumbers n → GivenNumbers n
level_numbers n (inl low) = inl (omega (arith, low))
level_numbers n (inr new) = inr new

pub given_by : (levels jobs : List ℕ) → RefusesBy GivenNumbers (read_given levels jobs)
unfolding read_given
given_by levels jobs =
    by_then GivenNumbers (read_levels levels) _ (widen level_numbers (levels_by levels)) λ read.
    by_then GivenNumbers (read_jobs jobs) _ (widen (λ n low. inl (omega (arith, low))) (jobs_by jobs)) λ own.
    by_answer GivenNumbers (record { levels = read; jobs = own })

pub given_site_by : (levels jobs marks : List ℕ) → RefusesBy GivenSiteNumbers (read_given_site levels jobs marks)
given_site_by levels jobs marks =
    by_then GivenSiteNumbers (read_given levels jobs) _ (widen (λ n low. inl low) (given_by levels jobs)) λ given.
    by_then GivenSiteNumbers (read_marks marks) _ (widen (λ n new. inr new) (marks_by marks)) λ ticks.
    by_answer GivenSiteNumbers (site_of (tables_of given) ticks)

-- and those of a site
pub site_by : (levels jobs marks : List ℕ) (parameters : Parameters) → RefusesBy SiteNumbers (read_site levels jobs marks parameters)
unfolding read_site
site_by levels jobs marks parameters =
    by_then SiteNumbers (read_given levels jobs) _ (widen (λ n low. inl low) (given_by levels jobs)) λ given.
    by_then SiteNumbers (read_marks marks) _ (widen (λ n new. inr (omega (arith, new))) (marks_by marks)) λ ticks.
    by_then SiteNumbers (alter_tables parameters given) _ (alter_by SiteNumbers (inr (omega arith)) (inr (omega arith)) parameters given) λ tables.
    by_answer SiteNumbers (site_of tables ticks)

-- an operation that reads a site refuses as reading does, or by its own numbers
site_then : (levels jobs marks : List ℕ) (parameters : Parameters) (past : ℕ → Type 0)
    → RefusesBy (λ n. SiteNumbers n ⊎ past n) (read_site levels jobs marks parameters)
site_then levels jobs marks parameters past = widen (λ n low. inl low) (site_by levels jobs marks parameters)

-- those of tables without marks
pub tables_by : (levels jobs : List ℕ) (parameters : Parameters) → RefusesBy TableNumbers (read_tables levels jobs parameters)
unfolding read_tables
tables_by levels jobs parameters =
    by_then TableNumbers (read_given levels jobs) _ (widen (λ n low. inl low) (given_by levels jobs))
    (alter_by TableNumbers (inr (omega arith)) (inr (omega arith)) parameters)

pub spare_by : (levels jobs : List ℕ) (parameters : Parameters) (start end : ℕ)
    → RefusesBy (λ n. TableNumbers n ⊎ From 27 27 n) (spare levels jobs parameters start end)
unfolding spare
spare_by levels jobs parameters start end =
    let numbers : ℕ → Type 0 = λ n. TableNumbers n ⊎ From 27 27 n in
    by_then numbers (read_tables levels jobs parameters) _ (widen (λ n low. inl low) (tables_by levels jobs parameters)) λ tables.
    by_when numbers (wrong_span start end) 27 (inr (omega arith))
    (by_answer numbers (spare_of (top_of tables.processor) tables.jobs start end))

pub walk_by : (plan : List ℕ) → RefusesBy (From 15 15) (walk plan)
unfolding walk
walk_by plan = by_when (From 15 15) (wrong_plan_length plan) 15 (omega arith) (by_answer (From 15 15) (list_of (step_count plan) (step_at plan)))

abbrev CheckNumbers : ℕ → Type 0
CheckNumbers n = SiteNumbers n ⊎ From 15 24 n

-- the steps refuse by 15 to 18, whatever else may follow
module _ (numbers : ℕ → Type 0) (has : (n : ℕ) → From 15 18 n → numbers n) (jobs : List Job) (bounds plan : List ℕ) where
  step-fault : (s : ℕ) → FaultBy numbers (step_fault jobs bounds plan s)
  unfolding step_fault
  step-fault s =
      fault_cond numbers (wrong_cell jobs bounds plan s) 17 (cond (wrong_cycles jobs bounds plan s) 18 0) (has 17 (omega arith, omega arith))
      (fault_cond numbers (wrong_cycles jobs bounds plan s) 18 0 (has 18 (omega arith, omega arith)) (inl refl))

  pub stepping_by : {A : Type 0} {next : Outcome A} → RefusesBy numbers next → RefusesBy numbers (stepping jobs bounds plan next)
  stepping_by rest =
      by_when numbers (wrong_plan_length plan) 15 (has 15 (omega arith, omega arith))
      (by_when numbers (not (eqb (plan_intervals plan) (interval_count bounds))) 16 (has 16 (omega arith, omega arith))
      (by_entries numbers 0 (step_count plan) (step_fault jobs bounds plan) step-fault
      rest))

-- the sums refuse by 19 and 20, whatever else may follow
module _ (numbers : ℕ → Type 0) (has : (n : ℕ) → From 19 20 n → numbers n) (site : Site) (plan : List ℕ) where
  job-sum-fault : (j : ℕ) → FaultBy numbers (job_sum_fault site plan j)
  unfolding job_sum_fault
  job-sum-fault j = fault_unless numbers (eqb (job_sum plan j) (job_of site.jobs j).cycles) 19 (has 19 (omega arith, omega arith))

  load-fault : (i : ℕ) → FaultBy numbers (load_fault site plan i)
  unfolding load_fault
  load-fault i =
      fault_unless numbers (leb (load site.jobs (shares_of plan) i) (length_of site.bounds i * top_of site.processor)) 20
      (has 20 (omega arith, omega arith))

  sums_by : {A : Type 0} {next : Outcome A} → RefusesBy numbers next
      → RefusesBy numbers (by_entry (length site.jobs) (job_sum_fault site plan) (by_entry (interval_count site.bounds) (load_fault site plan) next))
  sums_by rest =
      by_entries numbers 0 (length site.jobs) (job_sum_fault site plan) job-sum-fault
      (by_entries numbers 0 (interval_count site.bounds) (load_fault site plan) load-fault
      rest)

abbrev FitsNumbers : ℕ → Type 0
FitsNumbers n = SiteNumbers n ⊎ From 15 20 n

pub fits_by : (levels jobs marks : List ℕ) (parameters : Parameters) (plan : List ℕ) → RefusesBy FitsNumbers (fits levels jobs marks parameters plan)
unfolding fits fits_for fitting
fits_by levels jobs marks parameters plan =
    by_then FitsNumbers (read_site levels jobs marks parameters) _ (site_then levels jobs marks parameters (From 15 20)) λ site.
    stepping_by FitsNumbers (λ n from. inr (from.0, omega (arith, from.1))) site.jobs site.bounds plan
    (sums_by FitsNumbers (λ n from. inr (omega (arith, from.0), from.1)) site plan
    (by_answer FitsNumbers (figure_of site plan)))

-- What comes after the steps refuses by 19 to 24, and the prices by 21 to 24.
module _ (site : Site) (plan prices : List ℕ) where
  entry-fault : (i : ℕ) → FaultBy (From 21 24) (entry_fault site plan prices i)
  unfolding entry_fault
  entry-fault i =
      fault_unless (From 21 24) (eqb (end_at prices i) (bound_at site.bounds (suc i)) && is_band_number (working_of site.processor) (prices_of prices i)) 22 (omega arith)

  price-fault : (i : ℕ) → FaultBy (From 21 24) (price_fault site plan prices i)
  unfolding price_fault
  price-fault i =
      fault_unless (From 21 24) (fits_load (working_of site.processor) (length_of site.bounds i) (load site.jobs (shares_of plan) i) (prices_of prices i)) 23 (omega arith)

  cheaper-fault : (s : ℕ) → FaultBy (From 21 24) (cheaper_fault site plan prices s)
  unfolding cheaper_fault
  cheaper-fault s =
      fault_cond (From 21 24)
      (some_below (interval_count site.bounds)
      (λ i. is_open site.bounds (job_of site.jobs (step_at plan s).job) i && ltb (prices_of prices i) (prices_of prices (step_at plan s).interval)))
      24 0 (omega arith) (inl refl)

  pub pricing_by : {A : Type 0} {next : Outcome A} → RefusesBy (From 21 24) next → RefusesBy (From 21 24) (pricing site plan prices next)
  unfolding pricing
  pricing_by rest =
      by_when (From 21 24) (wrong_price_length site plan prices) 21 (omega arith)
      (by_entries (From 21 24) 0 (interval_count site.bounds) (entry_fault site plan prices) entry-fault
      (by_entries (From 21 24) 0 (interval_count site.bounds) (price_fault site plan prices) price-fault
      (by_entries (From 21 24) 0 (step_count plan) (cheaper_fault site plan prices) cheaper-fault
      rest)))

  -- the check of a site is its steps, and then something that refuses so
  pub check_past_steps : (rest : Outcome ℕ) × (check_for site plan prices ≡ stepping site.jobs site.bounds plan rest) × RefusesBy (From 19 24) rest
  unfolding check_for fitting
  check_past_steps = (
    _,
    refl,
    sums_by (From 19 24) (λ n from. (from.0, omega (arith, from.1))) site plan
        (widen (λ n from. (omega (arith, from.0), from.1)) (pricing_by (by_answer (From 21 24) (figure_of site plan)))),
  )

pub check_by : (levels jobs marks : List ℕ) (parameters : Parameters) (plan prices : List ℕ) → RefusesBy CheckNumbers (check levels jobs marks parameters plan prices)
unfolding check
check_by levels jobs marks parameters plan prices =
    by_then CheckNumbers (read_site levels jobs marks parameters) _ (site_then levels jobs marks parameters (From 15 24)) λ site.
    let (rest, is, past) = check_past_steps site plan prices in
    rw is
    (stepping_by CheckNumbers (λ n from. inr (from.0, omega (arith, from.1))) site.jobs site.bounds plan
    (widen (λ n from. inr (omega (arith, from.0), from.1)) past))

-- planning's own form of outcome
abbrev PlanNumbers : ℕ → Type 0
PlanNumbers n = SiteNumbers n ⊎ From 12 14 n

abbrev PlanRefusesBy : PlanOutcome → Type 0
PlanRefusesBy outcome = (number place : ℕ) → outcome ≡ refusal number place → PlanNumbers number

after-reading : {A : Type 0} (first : Outcome A) (next : A → PlanOutcome) → RefusesBy PlanNumbers first
    → ((a : A) → PlanRefusesBy (next a)) → PlanRefusesBy (after_reading first next)
after-reading (refused own at) next by rest = λ number place e. let same : own ≡ number = cc e in rw same at (by own at refl)
after-reading (answer a) next by rest = rest a

unless-overfull : (site : Site) (found : Option Window) {next : PlanOutcome} → PlanRefusesBy next
    → PlanRefusesBy (unless_overfull site found next)
unless-overfull site (some window) rest = λ number place e. let z : ◌≡◌ {A = ℕ} 0 1 = cc e in absurd (omega (arith, z))
unless-overfull site none rest = rest

wanted : (own wants-length room : ℕ) {next : PlanOutcome} → PlanNumbers own → PlanRefusesBy next → PlanRefusesBy (wants own wants-length room next)
wanted own length room {next} by rest = go (ltb room length)
  where
    go : (short : Bool) → PlanRefusesBy (cond short (refusal own length) next)
    go true = λ number place e. let same : own ≡ number = cc e in rw same at by
    go false = rest

pub planning_by : (levels jobs marks : List ℕ) (parameters : Parameters) (plan_room price_room share_room : ℕ) → PlanRefusesBy (planning levels jobs marks parameters plan_room price_room share_room)
unfolding planning plan_for
planning_by levels jobs marks parameters plan_room price_room share_room =
    after-reading (read_site levels jobs marks parameters) _ (site_then levels jobs marks parameters (From 12 14)) λ site.
    unless-overfull site (earliest_overfull (top_of site.processor) site.jobs)
    (wanted 12 (plan_length site) plan_room (inr (omega arith))
    (wanted 13 (price_length site) price_room (inr (omega arith))
    (wanted 14 (share_count site) share_room (inr (omega arith))
    (λ number place e. let z : ◌≡◌ {A = ℕ} 0 1 = cc e in absurd (omega (arith, z))))))
