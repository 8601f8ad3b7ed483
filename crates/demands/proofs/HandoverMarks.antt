-- Handover marks cut intervals, over the tables in bytes and the calls themselves.
-- Assumes nothing.
use mathlib.Core.Path.{◌≡◌, refl, sym, ◌∙◌, ap, subst}
use mathlib.Core.Bool.{Bool, true, false, not}
use mathlib.Core.Logic.{◌⊎◌, inl, inr, ◌↔◌}
use mathlib.Core.List.{List, []}
use mathlib.Core.Option.{Option, none, some}
use Prim.Native.Nat.{ℕ, ◌+◌, ◌*◌}
use native.Mathlib.Omega.{arith}
use lib.ListN.{length}
use lib.Dec.{ltb, eqb}
use lib.IntN.{ℤ}
use Rattle.std.specs.Prelude.{Ok, Err}
use Rattle.model.specs.declared.Level.{Level}
use Rattle.model.specs.declared.Job.{Job}
use Rattle.model.specs.declared.Parameters.{Parameters}
use Rattle.model.specs.Limits.{max_marks}
use Rattle.model.specs.Outcome.{Outcome, refused, answer, and_then, refuse_when}
use Rattle.model.specs.Bytes.{IsBytes}
use Rattle.model.specs.Jobs.{read_jobs}
use Rattle.model.specs.SiteParameters.{alter_levels, alter_jobs}
use Rattle.model.specs.Processors.{top_of}
use Rattle.model.specs.Intervals.{bounds_of, earliest_release, latest_deadline}
use Rattle.model.specs.Marks.{mark_count, mark_entries, not_rising, read_marks, encode_marks, no_marks, insert_marks, bounds_with}
use Rattle.model.specs.LevelTables.{read_levels}
use Rattle.model.specs.Sites.{Given, read_given, Tables, tables_of, alter_tables, read_tables, Site, site_of, read_site, ValidSite}
use Rattle.model.specs.Windows.{Window, earliest_overfull, wrong_span}
use Rattle.model.specs.Steps.{shares_of}
use Rattle.model.specs.PriceBytes.{prices_of}
use Rattle.model.specs.Checking.{fits, check}
use Rattle.model.specs.Accepted.{Accepted, exact_for, gaps_of}
use Rattle.model.specs.Planning.{
  PlanOutcome,
  refusal,
  overfull,
  comes_out,
  wants,
  unless_overfull,
  plan_length,
  price_length,
  share_count,
  plan_for,
  planning,
}
use Rattle.model.specs.Demands.{ValidTables, CanBeServed}
use Rattle.model.proofs.Outcome.{refused≢answer, answer_injective}
use Rattle.model.proofs.Sites.{sites_are_valid, sound_site}
use Rattle.model.proofs.BoundsOf.{bound_in_jobs, release_in_bounds, deadline_in_bounds}
use Rattle.model.proofs.Marks.{marks_read_back, no_marks_read}
use Rattle.model.proofs.MarkedBounds.{marked_keeps, marked_there, marked_only, marked_none}
use Rattle.model.proofs.LeastEnergy.{least_energy_is_one}
use Rattle.model.proofs.Accepted.{check_accepts, check_read}
use Rattle.spare.specs.declared.unmet.NoAnswer.TheVariants.{Overfull as OverfullWindow, Refused as RefusedBy}
use Rattle.planning.specs.PlanAnswers.{PlanAnswer, Plan, Overfull, outcome_of}
use Rattle.planning.proofs.PlanStages.{planned_as}
use Rattle.ordering.specs.Ordering.{order}
use Rattle.touching.specs.Touching.{Lists, touching_for, touching}
use Rattle.demands.specs.ThreeDemands.{Call, PlanComesOut, plan_written}
use Rattle.demands.specs.HandoverMarks.{AreMarks, IsBound, OfAJob, Cuts, SameWith, SiteRefused, OtherMarks, Roomy, HandoverMarks}
use Rattle.demands.proofs.SiteParts.{site_tables}
use Rattle.demands.proofs.PlanRefusals.{refused_answer}
use Rattle.demands.proofs.SameSites.{contract_kept, fits_kept, checks_kept, orders_kept}

-- what was read is marks, and marks are what is read
are_marks : (bytes marks : List ℕ) → IsBytes bytes → (read_marks bytes ≡ answer marks) ↔ (AreMarks marks × (bytes ≡ encode_marks marks))
are_marks bytes marks small = (
  λ e.
      let (valid, fit, encoded) = (marks_read_back bytes marks small).0 e in
      (record { few = valid.few; rising = valid.rises; ticks_fit = λ i below. omega (arith, fit i below) }, encoded),
  λ (marks_are, encoded).
      (marks_read_back bytes marks small).1
      (record { few = marks_are.few; rises = marks_are.rising }, λ i below. omega (arith, marks_are.ticks_fit i below), encoded),
)

-- every refusal has this number and this place
abbrev Only34 : Outcome (List ℕ) → Type 0
Only34 outcome = (number place : ℕ) → outcome ≡ refused number place → (number ≡ 34) × (place ≡ 0)

only_34 : (condition : Bool) {next : Outcome (List ℕ)} → Only34 next → Only34 (refuse_when condition 34 next)
only_34 true later number place e =
    let same_number : 34 ≡ number = cc e in
    let same_place : 0 ≡ place = cc e in
    (sym same_number, sym same_place)
only_34 false later number place e = later number place e

by_34 : (bytes : List ℕ) → Only34 (read_marks bytes)
unfolding read_marks
by_34 bytes =
    only_34 (ltb (length bytes) 2)
    (only_34 (ltb max_marks (mark_count bytes))
    (only_34 (not (eqb (length bytes) (2 + 4 * mark_count bytes)))
    (only_34 (not_rising (mark_entries bytes))
    (λ number place e. absurd (refused≢answer (sym e))))))

-- levels and jobs first, then marks
tables_first : (level_bytes job_bytes mark_bytes : List ℕ) (parameters : Parameters) (number place : ℕ) → read_given level_bytes job_bytes ≡ refused number place
    → read_site level_bytes job_bytes mark_bytes parameters ≡ refused number place
unfolding read_site
tables_first level_bytes job_bytes mark_bytes parameters number place e = rw e

marks_next : (level_bytes job_bytes mark_bytes : List ℕ) (parameters : Parameters) (given : Given) → read_given level_bytes job_bytes ≡ answer given
    → (number place : ℕ) → read_marks mark_bytes ≡ refused number place → read_site level_bytes job_bytes mark_bytes parameters ≡ refused 34 0
unfolding read_site
marks_next level_bytes job_bytes mark_bytes parameters given read number place e =
    let (is-34, no_place) = by_34 mark_bytes number place e in
    rw (read, e, is-34, no_place)

-- a refusal of planning is no plan
refused_is_no_plan : (answered : PlanAnswer) (number place : ℕ) → outcome_of answered ≡ refusal number place → outcome_of answered ≡ comes_out → ⊥
refused_is_no_plan answered number place e is = let z : ◌≡◌ {A = ℕ} 0 1 = cc (sym e ∙ is) in omega (arith, z)

pub site_refused : (level_bytes job_bytes mark_bytes : List ℕ) (parameters : Parameters) (number place : ℕ)
    → read_site level_bytes job_bytes mark_bytes parameters ≡ refused number place → SiteRefused level_bytes job_bytes mark_bytes parameters number place
unfolding fits check order planning
site_refused level_bytes job_bytes mark_bytes parameters number place e =
    record {
      fitting = λ plan. rw e;
      checks = λ plan prices. rw e;
      orders = λ plan prices room. rw e;
      plans = λ before after answered contract.
          let is : outcome_of answered ≡ refusal number place = contract.outcome ∙ rw e in
          (refused_answer answered number place is, contract.untouched (refused_is_no_plan answered number place is));
    }

-- the bounds of jobs with marks: the jobs' own times, and the marks that cut
bounds_are : (jobs : List Job) (marks : List ℕ) (time : ℕ) → IsBound (bounds_with marks jobs) time ↔ (OfAJob jobs time ⊎ Cuts jobs marks time)
unfolding bounds_with
bounds_are jobs marks time = (λ found. forth (marked_only first last marks (bounds_of jobs) time found), back)
  where
    first : ℕ
    first = earliest_release jobs

    last : ℕ
    last = latest_deadline jobs

    forth : IsBound (bounds_of jobs) time ⊎ Cuts jobs marks time → OfAJob jobs time ⊎ Cuts jobs marks time
    forth (inl own) = inl (bound_in_jobs jobs time own)
    forth (inr cuts) = inr cuts

    back : OfAJob jobs time ⊎ Cuts jobs marks time → IsBound (insert_marks first last marks (bounds_of jobs)) time
    back (inl (j, below, inl release)) = marked_keeps first last marks (bounds_of jobs) time (rw release at (release_in_bounds jobs j below))
    back (inl (j, below, inr deadline)) = marked_keeps first last marks (bounds_of jobs) time (rw deadline at (deadline_in_bounds jobs j below))
    back (inr cuts) = marked_there first last marks (bounds_of jobs) time cuts

-- where no mark cuts, the bounds are those without marks
uncut : (jobs : List Job) (marks : List ℕ) → ((time : ℕ) → Cuts jobs marks time → ⊥) → bounds_with marks jobs ≡ bounds_with [] jobs
unfolding bounds_with insert_marks
uncut jobs marks none-cut = marked_none (earliest_release jobs) (latest_deadline jobs) marks (bounds_of jobs) none-cut

module _ (job_bytes mark_bytes : List ℕ) (parameters : Parameters) (given jobs : List Job) (marks : List ℕ)
    (jobs_read : read_jobs job_bytes ≡ answer given) (marks_read : read_marks mark_bytes ≡ answer marks)
    (altered : alter_jobs parameters.free parameters.margin given ≡ answer jobs) (none-cut : (time : ℕ) → Cuts jobs marks time → ⊥) where
  same_touching : (plan : List ℕ) (start end : ℕ) (before : Lists)
      → touching job_bytes mark_bytes parameters.free parameters.margin plan start end before
      ≡ touching job_bytes no_marks parameters.free parameters.margin plan start end before
  unfolding touching
  same_touching plan start end before = rw (jobs_read, marks_read, no_marks_read, altered, uncut jobs marks none-cut)

  same_site : (level_bytes : List ℕ) → read_site level_bytes job_bytes mark_bytes parameters ≡ read_site level_bytes job_bytes no_marks parameters
  unfolding read_site read_given alter_tables
  same_site level_bytes = rw (jobs_read, marks_read, no_marks_read) (go (read_levels level_bytes))
    where
      last : (levels : Outcome (List Level))
          → (and_then (and_then levels λ levels. answer (tables_of (record { levels = levels; jobs = jobs }))) λ tables. answer (site_of tables marks))
          ≡ (and_then (and_then levels λ levels. answer (tables_of (record { levels = levels; jobs = jobs }))) λ tables. answer (site_of tables []))
      last (refused number place) = refl
      last (answer levels) = rw (uncut jobs marks none-cut)

      go : (levels : Outcome (List Level))
          → (and_then (and_then levels λ entries. answer (record { levels = entries; jobs = given })) λ read.
          and_then (alter_tables parameters read) λ tables. answer (site_of tables marks))
          ≡ (and_then (and_then levels λ entries. answer (record { levels = entries; jobs = given })) λ read.
          and_then (alter_tables parameters read) λ tables. answer (site_of tables []))
      go (refused number place) = refl
      go (answer entries) = rw altered (last (alter_levels parameters.highest entries))

  same_with : (level_bytes : List ℕ) → SameWith level_bytes job_bytes mark_bytes no_marks parameters
  same_with level_bytes =
      let same = same_site level_bytes in
      record {
        sites = same;
        fitting = fits_kept _ _ _ _ _ _ _ _ same;
        checks = checks_kept _ _ _ _ _ _ _ _ same;
        orders = orders_kept _ _ _ _ _ _ _ _ same;
        touches = same_touching;
        plans = λ before after answered.
            (contract_kept _ _ _ _ _ _ _ _ same before after answered, contract_kept _ _ _ _ _ _ _ _ (sym same) before after answered);
      }

-- the site of levels and jobs with the jobs' own bounds alone
abbrev uncut_site : Tables → Site
uncut_site tables = record { processor = tables.processor; jobs = tables.jobs; bounds = bounds_of tables.jobs }

as_before : (level_bytes job_bytes : List ℕ) (parameters : Parameters) → read_site level_bytes job_bytes no_marks parameters
    ≡ (and_then (read_tables level_bytes job_bytes parameters) λ tables.
    answer (record { processor = tables.processor; jobs = tables.jobs; bounds = bounds_of tables.jobs }))
unfolding read_site read_tables bounds_with insert_marks
as_before level_bytes job_bytes parameters = rw no_marks_read (go (read_given level_bytes job_bytes))
  where
    go : (read : Outcome Given)
        → and_then {B = Site} read (λ given. and_then (alter_tables parameters given) (λ tables. answer (uncut_site tables)))
        ≡ and_then {B = Site} (and_then read (alter_tables parameters)) (λ tables. answer (uncut_site tables))
    go (refused number place) = refl
    go (answer given) = refl

touched_as_before : (job_bytes : List ℕ) (free margin : ℕ) (plan : List ℕ) (start end : ℕ) (before : Lists)
    → touching job_bytes no_marks free margin plan start end before
    ≡ refuse_when (wrong_span start end) 33
    (and_then (read_jobs job_bytes) λ given.
    and_then (alter_jobs free margin given) λ jobs.
    touching_for jobs (bounds_of jobs) plan start end before)
unfolding touching bounds_with insert_marks
touched_as_before job_bytes free margin plan start end before = rw no_marks_read

-- buffers never make a window
no_window_wanted : (own wanted room : ℕ) (next : PlanOutcome) (start end : ℕ) (spare : ℤ) → (next ≡ overfull start end spare → ⊥)
    → wants own wanted room next ≡ overfull start end spare → ⊥
no_window_wanted own wanted room next start end spare never e = go (ltb room wanted) refl
  where
    go : (short : Bool) → ltb room wanted ≡ short → ⊥
    go true is = let z : ◌≡◌ {A = ℕ} 0 1 = cc (rw is at e) in omega (arith, z)
    go false is = never (rw is at e)

-- the window of 11 moves with levels and jobs, whatever the marks and the buffers
overfull_moves : (tables : Tables) (marks others : List ℕ) (a b c d e f start end : ℕ) (spare : ℤ)
    → plan_for (site_of tables marks) a b c ≡ overfull start end spare → plan_for (site_of tables others) d e f ≡ overfull start end spare
unfolding plan_for
overfull_moves tables marks others a b c d e f start end spare = go (earliest_overfull (top_of tables.processor) tables.jobs)
  where
    go : (found : Option Window)
        → unless_overfull (site_of tables marks) found
        (wants 12 (plan_length (site_of tables marks)) a (wants 13 (price_length (site_of tables marks)) b (wants 14 (share_count (site_of tables marks)) c comes_out)))
        ≡ overfull start end spare
        → unless_overfull (site_of tables others) found
        (wants 12 (plan_length (site_of tables others)) d (wants 13 (price_length (site_of tables others)) e (wants 14 (share_count (site_of tables others)) f comes_out)))
        ≡ overfull start end spare
    go (some window) is = is
    go none is =
        absurd (no_window_wanted 12 _ a _ start end spare
        (no_window_wanted 13 _ b _ start end spare
        (no_window_wanted 14 _ c _ start end spare (λ z. let w : ◌≡◌ {A = ℕ} 0 1 = cc z in omega (arith, w)))) is)

-- the least exact energy is one, whatever the marks
energy_moves : (tables : Tables) (marks others : List ℕ) (site other : Site) → site ≡ site_of tables marks → other ≡ site_of tables others
    → ValidSite site → ValidSite other
    → (plan prices : List ℕ) → Accepted site plan prices → (other_plan other_prices : List ℕ) → Accepted other other_plan other_prices
    → (exact_for site plan ≡ exact_for other other_plan) × (gaps_of site ≡ gaps_of other)
energy_moves tables marks others site other is other_is valid other-valid plan prices accepted other_plan other_prices other-accepted =
    let sound = rw is at valid in
    let other-sound = rw other_is at other-valid in
    let first = rw is at accepted in
    let second = rw other_is at other-accepted in
    rw (is, other_is) (
      least_energy_is_one tables.processor.idle_power tables.processor.levels tables.jobs (sound_site sound)
          (bounds_with marks tables.jobs) (bounds_with others tables.jobs) sound.bounds other-sound.bounds
          (shares_of plan) (shares_of other_plan) first.gives second.gives
          (prices_of prices) first.fitting (prices_of other_prices) second.fitting,
      refl,
    )

-- Two sites of the same levels and jobs, with any marks.
module _ (level_bytes job_bytes one two : List ℕ) (parameters : Parameters) (site other : Site)
    (read : ValidTables level_bytes job_bytes one parameters site) (other-read : ValidTables level_bytes job_bytes two parameters other) where
  -- they differ in their bounds alone
  record Alike : Type 0 where
    tables : Tables
    marks : List ℕ
    other_marks : List ℕ
    is : site ≡ site_of tables marks
    other_is : other ≡ site_of tables other_marks

  alike : Alike
  alike =
      let (given, tables, marks, given_read, marks_read, altered, is) = site_tables level_bytes job_bytes one parameters site read in
      let (there, others, other_marks, there-read, other-marks-read, other-altered, other_is) = site_tables level_bytes job_bytes two parameters other other-read in
      let same-given : there ≡ given = answer_injective (sym there-read ∙ given_read) in
      let same : others ≡ tables = answer_injective (sym other-altered ∙ ap (alter_tables parameters) same-given ∙ altered) in
      record { tables = tables; marks = marks; other_marks = other_marks; is = is; other_is = rw same at other_is }

  -- two plans with fitting prices have one exact energy
  same_energy : (plan prices : List ℕ) → Accepted site plan prices → (other_plan other_prices : List ℕ) → Accepted other other_plan other_prices
      → (exact_for site plan ≡ exact_for other other_plan) × (gaps_of site ≡ gaps_of other)
  same_energy plan prices accepted other_plan other_prices other-accepted =
      let found = alike in
      energy_moves found.tables found.marks found.other_marks site other found.is found.other_is
      (sites_are_valid level_bytes job_bytes one parameters site read) (sites_are_valid level_bytes job_bytes two parameters other other-read)
      plan prices accepted other_plan other_prices other-accepted

  -- a schedule for the one is a schedule for the other
  same_served : CanBeServed site → CanBeServed other
  same_served served =
      let found = alike in
      let here : CanBeServed (site_of found.tables found.marks) = rw found.is at served in
      subst CanBeServed (sym found.other_is) here

  -- whether a window is overfull, and which, hangs on levels and jobs alone
  same-overfull : (plan_room price_room share_room other_plan_room other_price_room other_share_room start end : ℕ) (spare : ℤ)
      → plan_for site plan_room price_room share_room ≡ overfull start end spare
      → plan_for other other_plan_room other_price_room other_share_room ≡ overfull start end spare
  same-overfull plan_room price_room share_room other_plan_room other_price_room other_share_room start end spare e =
      let found = alike in
      let here : plan_for (site_of found.tables found.marks) plan_room price_room share_room ≡ overfull start end spare = rw found.is at e in
      subst (λ (s : Site). plan_for s other_plan_room other_price_room other_share_room ≡ overfull start end spare) (sym found.other_is)
      (overfull_moves found.tables found.marks found.other_marks plan_room price_room share_room other_plan_room other_price_room other_share_room start end spare here)

-- a window of planning has no other answer
overfull-answer : (answered : PlanAnswer) (start end : ℕ) (spare : ℤ) → outcome_of answered ≡ overfull start end spare → answered ≡ Overfull start end spare
overfull-answer (Ok written) start end spare e = let z : ◌≡◌ {A = ℕ} 0 1 = cc e in absurd (omega (arith, z))
overfull-answer (Err (OverfullWindow first last found)) start end spare e = cc e
overfull-answer (Err (RefusedBy own)) start end spare e = let z : ◌≡◌ {A = ℕ} 0 1 = cc e in absurd (omega (arith, z))

-- Two calls of planning with the same levels and jobs.
module _ (call other : Call) (alike-calls : OtherMarks call other)
    (site : Site) (tables : ValidTables call.level_bytes call.job_bytes call.mark_bytes call.parameters site)
    (other_site : Site) (other-tables : ValidTables other.level_bytes other.job_bytes other.mark_bytes other.parameters other_site) where
  -- the other's site, read with the one's levels, jobs and parameters
  moved : ValidTables call.level_bytes call.job_bytes other.mark_bytes call.parameters other_site
  moved = rw (alike-calls.0, alike-calls.1, alike-calls.2) other-tables

  served_too : CanBeServed site → CanBeServed other_site
  served_too = same_served call.level_bytes call.job_bytes call.mark_bytes other.mark_bytes call.parameters site other_site tables moved

  served_back : CanBeServed other_site → CanBeServed site
  served_back = same_served call.level_bytes call.job_bytes other.mark_bytes call.mark_bytes call.parameters other_site site moved tables

  comes_out_too : Roomy call site → Roomy other other_site → PlanComesOut call ↔ PlanComesOut other
  comes_out_too room other-room =
      let here = call.contract.exactly_when_served site tables room in
      let there = other.contract.exactly_when_served other_site other-tables other-room in
      (λ out. there.1 (served_too (here.0 out)), λ out. here.1 (served_back (there.0 out)))

  energy_too : (intervals steps energy : ℕ) → call.answered ≡ Plan intervals steps energy
      → (other_intervals other_steps other_energy : ℕ) → other.answered ≡ Plan other_intervals other_steps other_energy
      → exact_for site (plan_written call steps) ≡ exact_for other_site (plan_written other other_steps)
  energy_too intervals steps energy is other_intervals other_steps other_energy other_is =
      (same_energy call.level_bytes call.job_bytes call.mark_bytes other.mark_bytes call.parameters site other_site tables moved
      _ _ (call.contract.best site tables intervals steps energy is).placed_and_priced
      _ _ (other.contract.best other_site other-tables other_intervals other_steps other_energy other_is).placed_and_priced).0

  window_too : (start end : ℕ) (spare : ℤ) → call.answered ≡ Overfull start end spare → other.answered ≡ Overfull start end spare
  window_too start end spare is =
      let here = sym (planned_as _ _ _ _ site tables _ _ _) ∙ sym call.contract.outcome ∙ ap outcome_of is in
      let there = same-overfull call.level_bytes call.job_bytes call.mark_bytes other.mark_bytes call.parameters site other_site tables moved
      _ _ _ (length other.before.plan) (length other.before.prices) (length other.before.shares) start end spare here in
      overfull-answer other.answered start end spare (other.contract.outcome ∙ planned_as _ _ _ _ other_site other-tables _ _ _ ∙ there)

pub handover_marks : HandoverMarks
handover_marks =
    record {
      read = are_marks;
      refused_by_34 = by_34;
      tables_first = tables_first;
      then_marks = λ level_bytes job_bytes mark_bytes parameters given read number place e.
          site_refused level_bytes job_bytes mark_bytes parameters 34 0 (marks_next level_bytes job_bytes mark_bytes parameters given read number place e);
      bounds = λ level_bytes job_bytes mark_bytes parameters site tables marks marks_read time.
          let (given, found, ticks, given_read, ticks-read, altered, is) = site_tables level_bytes job_bytes mark_bytes parameters site tables in
          let same : ticks ≡ marks = answer_injective (sym ticks-read ∙ marks_read) in
          subst (λ (s : Site). IsBound s.bounds time ↔ (OfAJob s.jobs time ⊎ Cuts s.jobs marks time))
          (sym (is ∙ ap (site_of found) same)) (bounds_are found.jobs marks time);
      bounds_rise = λ level_bytes job_bytes mark_bytes parameters site tables. (sites_are_valid level_bytes job_bytes mark_bytes parameters site tables).bounds.rises;
      few_intervals = λ level_bytes job_bytes mark_bytes parameters site tables.
          omega (arith, (sites_are_valid level_bytes job_bytes mark_bytes parameters site tables).few_bounds);
      no_effect = λ level_bytes job_bytes mark_bytes parameters given jobs marks jobs_read marks_read altered none-cut.
          same_with job_bytes mark_bytes parameters given jobs marks jobs_read marks_read altered none-cut level_bytes;
      none_read = no_marks_read;
      no-marks = as_before;
      no_marks_touched = touched_as_before;
      same_least_energy = λ level_bytes job_bytes one two parameters site other read other-read plan prices figure checked other_plan other_prices other_figure other-checked.
          same_energy level_bytes job_bytes one two parameters site other read other-read
          plan prices ((check_accepts site plan prices figure).0 (sym (check_read _ _ _ _ plan prices site read) ∙ checked)).0
          other_plan other_prices ((check_accepts other other_plan other_prices other_figure).0 (sym (check_read _ _ _ _ other_plan other_prices other other-read) ∙ other-checked)).0;
      same_energy_planned = λ call other same site tables other_site other-tables. energy_too call other same site tables other_site other-tables;
      comes-out = λ call other same site tables room other_site other-tables other-room.
          comes_out_too call other same site tables other_site other-tables room other-room;
      same_window = λ call other same site tables other_site other-tables start end spare. (
        window_too call other same site tables other_site other-tables start end spare,
        window_too other call (sym same.0, sym same.1, sym same.2) other_site other-tables site tables start end spare,
      );
    }
