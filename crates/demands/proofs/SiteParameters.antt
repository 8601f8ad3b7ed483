-- The three parameters of a site alter its tables, over the tables in bytes and the calls themselves.
-- Assumes nothing.
use mathlib.Core.Path.{◌≡◌, refl, sym, ◌∙◌, ap}
use mathlib.Core.Bool.{true, false, or-true}
use mathlib.Core.Logic.{◌⊎◌, inl, inr}
use mathlib.Core.List.{List, map}
use Prim.Native.Nat.{ℕ, ◌<◌, ◌≤◌}
use native.Mathlib.Omega.{arith}
use lib.ListN.{length}
use borrow.Author.Tests.{ltb-false, lt-ltb, le-ltb, le-leb}
use Rattle.model.specs.declared.Level.{Level}
use Rattle.model.specs.declared.Job.{Job}
use Rattle.model.specs.declared.Parameters.{Parameters}
use Rattle.model.specs.Limits.{max_free, max_margin, max_cycles}
use Rattle.model.specs.Outcome.{Outcome, refused, answer, and_then, refuse_when, refuse_under}
use Rattle.model.specs.Bytes.{IsBytes}
use Rattle.model.specs.LevelTables.{running_levels, read_levels, encode_levels}
use Rattle.model.specs.Jobs.{job_of, read_jobs, encode_jobs, ValidJobs}
use Rattle.model.specs.Marks.{read_marks, bounds_with}
use Rattle.model.specs.SiteParameters.{wrong_highest, alter_levels, wrong_free, altered_job, altered_fault, alter_jobs, as_given}
use Rattle.model.specs.Processors.{processor_of, read_processor}
use Rattle.model.specs.Setting.{setting_for, setting}
use Rattle.model.specs.Sites.{Given, read_given, tables_of, alter_tables, read_tables, Site, site_of, read_site, read_given_site}
use Rattle.model.specs.Intervals.{interval_count}
use Rattle.model.specs.Sum.{sum}
use Rattle.model.specs.Steps.{shares_of}
use Rattle.model.specs.Windows.{wrong_span, spare_for, spare}
use Rattle.model.specs.Checking.{fits, check_for, check}
use Rattle.model.specs.Planning.{planning}
use Rattle.model.specs.Demands.{ValidTables}
use Rattle.model.proofs.Numbers.{true_or_false, lt_or_le}
use Rattle.model.proofs.Outcome.{answer_injective, by_entry_stops}
use Rattle.model.proofs.Tests.{in-range}
use Rattle.model.proofs.LevelTables.{levels_valid, levels_read_back}
use Rattle.model.proofs.Jobs.{jobs_valid, jobs_read_back}
use Rattle.model.proofs.SiteParameters.{levels_altered, jobs_altered, altered_sound, altered-at, altered_are_valid, full_count_alters_nothing}
use Rattle.model.proofs.Sites.{as_given_processor, as_given_tables, as_given_alters_nothing}
use Rattle.model.proofs.Accepted.{check_accepts, check_read}
use Rattle.reading.proofs.Encodings.{encodings_are_bytes}
use Rattle.ordering.specs.OrderedPlan.{ordered_plan}
use Rattle.ordering.specs.Ordering.{order}
use Rattle.touching.specs.Touching.{Lists, touching_for, touching}
use Rattle.nearest.specs.Nearest.{nearest}
use Rattle.demands.specs.HandoverMarks.{SiteRefused}
use Rattle.demands.specs.SiteParameters.{AlteredTo, WorksOnAltered, AsBefore, OutOfRange, CannotBeAltered, FirstOf, SiteParameters}
use Rattle.demands.proofs.SiteParts.{site_parts}
use Rattle.demands.proofs.SameSites.{contract_kept, fits_kept, checks_kept, orders_kept}
use Rattle.demands.proofs.HandoverMarks.{site_refused}

-- Tables that are altered are read back from their bytes, and are then not altered.
module _ (level_bytes job_bytes : List ℕ) (small : IsBytes level_bytes) (parameters : Parameters) (levels : List Level) (jobs : List Job)
    (to : AlteredTo level_bytes job_bytes parameters levels jobs) where
  abbrev levels_after : List ℕ
  levels_after = encode_levels levels

  abbrev jobs_after : List ℕ
  jobs_after = encode_jobs jobs

  levels_back : read_levels levels_after ≡ answer levels
  levels_back =
      let law = (levels_altered parameters.highest to.entries levels).0 to.levels_altered in
      let valid = altered_are_valid.0 parameters.highest to.entries levels (levels_valid level_bytes to.entries to.levels_read) to.levels_altered in
      let drawn = ((levels_read_back level_bytes to.entries small).0 to.levels_read).1 in
      (levels_read_back levels_after levels (encodings_are_bytes.0 levels)).1 (valid, omega (arith, drawn, law.same_idling), refl)

  jobs_sound : ValidJobs jobs
  jobs_sound =
      altered_are_valid.1 parameters.free parameters.margin to.given jobs (jobs_valid job_bytes to.given to.jobs_read) to.jobs_altered

  jobs_back : read_jobs jobs_after ≡ answer jobs
  jobs_back = (jobs_read_back jobs_after jobs (encodings_are_bytes.1 jobs)).1 (jobs_sound, refl)

  same_sites : (marks : List ℕ) → read_site level_bytes job_bytes marks parameters ≡ read_site levels_after jobs_after marks (as_given levels_after)
  unfolding read_site read_given alter_tables
  same_sites marks = rw (to.levels_read, to.jobs_read) (go (read_marks marks)) ∙ sym (as_given_alters_nothing levels_after jobs_after marks)
    where
      go : (read : Outcome (List ℕ))
          → (and_then read λ ticks. and_then (alter_tables parameters (record { levels = to.entries; jobs = to.given })) λ tables. answer (site_of tables ticks))
          ≡ (and_then (and_then (read_levels levels_after) λ entries. and_then (read_jobs jobs_after) λ jobs. answer (record { levels = entries; jobs = jobs })) λ given.
          and_then read λ ticks. answer (site_of (tables_of given) ticks))
      go (refused number place) = rw (levels_back, jobs_back)
      go (answer ticks) = rw (levels_back, jobs_back, to.levels_altered, to.jobs_altered)

  same_processors : read_processor level_bytes parameters.highest ≡ read_processor levels_after (as_given levels_after).highest
  same_processors = rw (as_given_processor levels_after, to.levels_read, to.levels_altered, levels_back)

  same_settings : (length load : ℕ) → setting level_bytes parameters.highest length load ≡ setting levels_after (as_given levels_after).highest length load
  unfolding setting
  same_settings length load = rw same_processors

  same_spares : (start end : ℕ) → spare level_bytes job_bytes parameters start end ≡ spare levels_after jobs_after (as_given levels_after) start end
  unfolding spare read_tables read_given alter_tables
  same_spares start end =
      rw (as_given_tables levels_after jobs_after, to.levels_read, to.jobs_read, to.levels_altered, to.jobs_altered, levels_back, jobs_back)

  same_nearests : (room : ℕ) → nearest level_bytes job_bytes parameters room ≡ nearest levels_after jobs_after (as_given levels_after) room
  unfolding nearest read_tables read_given alter_tables
  same_nearests room =
      rw (as_given_tables levels_after jobs_after, to.levels_read, to.jobs_read, to.levels_altered, to.jobs_altered, levels_back, jobs_back)

  same_touched : (marks plan : List ℕ) (start end : ℕ) (before : Lists)
      → touching job_bytes marks parameters.free parameters.margin plan start end before ≡ touching jobs_after marks 0 0 plan start end before
  unfolding touching
  same_touched marks plan start end before =
      rw (to.jobs_read, jobs_back, to.jobs_altered, full_count_alters_nothing.1 jobs jobs_sound)

  works_on_altered : WorksOnAltered level_bytes job_bytes parameters levels jobs
  works_on_altered =
      record {
        sites = same_sites;
        processors = same_processors;
        settings = same_settings;
        spares = same_spares;
        nearests = same_nearests;
        fitting = λ marks. fits_kept _ _ _ _ _ _ _ _ (same_sites marks);
        checks = λ marks. checks_kept _ _ _ _ _ _ _ _ (same_sites marks);
        orders = λ marks. orders_kept _ _ _ _ _ _ _ _ (same_sites marks);
        touches = same_touched;
        plans = λ marks before after answered. (
          contract_kept _ _ _ _ _ _ _ _ (same_sites marks) before after answered,
          contract_kept _ _ _ _ _ _ _ _ (sym (same_sites marks)) before after answered,
        );
      }

-- With all running levels, 0 and 0 each operation is what it was.
module _ (levels jobs marks : List ℕ) where
  settings_before : (length load : ℕ)
      → setting levels (as_given levels).highest length load ≡ (and_then (read_levels levels) λ entries. setting_for (processor_of entries) length load)
  unfolding setting
  settings_before length load = rw (as_given_processor levels) (go (read_levels levels))
    where
      go : (read : Outcome (List Level))
          → and_then (and_then read (λ entries. answer (processor_of entries))) (λ processor. setting_for processor length load)
          ≡ and_then read (λ entries. setting_for (processor_of entries) length load)
      go (refused number place) = refl
      go (answer entries) = refl

  spares_before : (start end : ℕ) → spare levels jobs (as_given levels) start end ≡ (and_then (read_given levels jobs) λ given. spare_for (tables_of given) start end)
  unfolding spare
  spares_before start end = rw (as_given_tables levels jobs) (go (read_given levels jobs))
    where
      go : (read : Outcome Given)
          → and_then (and_then read (λ given. answer (tables_of given))) (λ tables. spare_for tables start end)
          ≡ and_then read (λ given. spare_for (tables_of given) start end)
      go (refused number place) = refl
      go (answer given) = refl

  touched_before : (plan : List ℕ) (start end : ℕ) (before : Lists) → touching jobs marks 0 0 plan start end before
      ≡ refuse_when (wrong_span start end) 33
      (and_then (read_jobs jobs) λ given.
      and_then (read_marks marks) λ ticks.
      touching_for given (bounds_with ticks given) plan start end before)
  unfolding touching
  touched_before plan start end before = ap (refuse_when (wrong_span start end) 33) (go (read_jobs jobs) (jobs_valid jobs) (read_marks marks))
    where
      go : (read : Outcome (List Job)) → ((given : List Job) → read ≡ answer given → ValidJobs given) → (marks_read : Outcome (List ℕ))
          → (and_then read λ given.
          and_then marks_read λ ticks.
          and_then (alter_jobs 0 0 given) λ altered.
          touching_for altered (bounds_with ticks altered) plan start end before)
          ≡ (and_then read λ given.
          and_then marks_read λ ticks.
          touching_for given (bounds_with ticks given) plan start end before)
      go (refused number place) valid marks_read = refl
      go (answer given) valid (refused number place) = refl
      go (answer given) valid (answer ticks) = rw (full_count_alters_nothing.1 given (valid given refl))

  orders_before : (plan prices : List ℕ) (room : ℕ) → order levels jobs marks (as_given levels) plan prices room
      ≡ (and_then (read_given_site levels jobs marks) λ site.
      and_then (check_for site plan prices) λ figure.
      refuse_under (length plan) 12 room
      (answer (ordered_plan plan)))
  unfolding order check
  orders_before plan prices room = rw (as_given_alters_nothing levels jobs marks) (go (read_given_site levels jobs marks))
    where
      ordered : ℕ → Outcome (List ℕ)
      ordered figure = refuse_under (length plan) 12 room (answer (ordered_plan plan))

      go : (read : Outcome Site)
          → and_then (and_then read (λ site. check_for site plan prices)) ordered ≡ and_then read (λ site. and_then (check_for site plan prices) ordered)
      go (refused number place) = refl
      go (answer site) = refl

  as_before : AsBefore levels jobs marks
  unfolding fits check planning nearest
  as_before =
      let same = as_given_alters_nothing levels jobs marks in
      record {
        sites = same;
        processors = as_given_processor levels;
        settings = settings_before;
        spares = spares_before;
        nearests = λ room. rw (as_given_tables levels jobs);
        fitting = λ plan. rw same;
        checks = λ plan prices. rw same;
        orders = orders_before;
        touches = touched_before;
        plans = λ plan_room price_room share_room. rw same;
      }

-- levels, jobs and marks are refused as they were
tables_first : (levels jobs marks : List ℕ) (parameters : Parameters) (number place : ℕ)
    → read_given_site levels jobs marks ≡ refused number place → read_site levels jobs marks parameters ≡ refused number place
unfolding read_site
tables_first levels jobs marks parameters number place e = go (read_given levels jobs) (read_marks marks) e
  where
    go : (read : Outcome Given) (marks_read : Outcome (List ℕ))
        → (and_then read λ given. and_then marks_read λ ticks. answer (site_of (tables_of given) ticks)) ≡ refused number place
        → (and_then read λ given. and_then marks_read λ ticks. and_then (alter_tables parameters given) λ tables. answer (site_of tables ticks)) ≡ refused number place
    go (refused n p) marks_read e = cc e
    go (answer given) (refused n p) e = cc e
    go (answer given) (answer ticks) e = let z : ◌≡◌ {A = ℕ} 0 1 = cc e in absurd (omega (arith, z))

-- what the parameters refuse, where all tables are read
module _ (levels jobs marks : List ℕ) (parameters : Parameters) (entries : List Level) (given : List Job) (ticks : List ℕ)
    (levels_read : read_levels levels ≡ answer entries) (jobs_read : read_jobs jobs ≡ answer given) (marks_read : read_marks marks ≡ answer ticks) where
  abbrev tables : Given
  tables = record { levels = entries; jobs = given }

  refused_so : (number place : ℕ) → alter_tables parameters tables ≡ refused number place → SiteRefused levels jobs marks parameters number place
  unfolding read_site read_given
  refused_so number place e = site_refused levels jobs marks parameters number place (rw (levels_read, jobs_read, marks_read, e))

  -- 35, of any of the three
  out_of_range : OutOfRange parameters entries → alter_tables parameters tables ≡ refused 35 0
  unfolding alter_tables alter_levels alter_jobs
  out_of_range wrong = go (true_or_false (wrong_highest entries parameters.highest))
    where
      rest : (wrong_free parameters.free ≡ true) ⊎ (wrong_free parameters.free ≡ false) → (wrong_highest entries parameters.highest ≡ false)
          → alter_tables parameters tables ≡ refused 35 0
      rest (inl high) ranged = rw (ranged, high)
      rest (inr free-ranged) ranged =
          let (low, upto) = in-range parameters.highest (length (running_levels entries)) ranged in
          let high : max_margin < parameters.margin = margin_high wrong low upto (ltb-false max_free parameters.free free-ranged) in
          rw (ranged, free-ranged, lt-ltb max_margin parameters.margin high)
        where
          margin_high : OutOfRange parameters entries → 1 ≤ parameters.highest → parameters.highest ≤ length (running_levels entries) → parameters.free ≤ max_free
              → max_margin < parameters.margin
          margin_high (inl (inl none)) low upto free = absurd (omega (arith, none, low))
          margin_high (inl (inr past)) low upto free = absurd (omega (arith, past, upto))
          margin_high (inr (inl much)) low upto free = absurd (omega (arith, much, free))
          margin_high (inr (inr high)) low upto free = high

      go : (wrong_highest entries parameters.highest ≡ true) ⊎ (wrong_highest entries parameters.highest ≡ false) → alter_tables parameters tables ≡ refused 35 0
      go (inl wrong-highest) = rw wrong-highest
      go (inr ranged) = rest (true_or_false (wrong_free parameters.free)) ranged

  -- 36, of the first job
  module _ (ranged : OutOfRange parameters entries → ⊥) (place : ℕ) (first : FirstOf given parameters.free parameters.margin place) where
    at : (j : ℕ) → j < length given → job_of (map (altered_job parameters.free parameters.margin) given) j ≡ altered_job parameters.free parameters.margin (job_of given j)
    at j below = altered-at parameters.free parameters.margin given j below

    can : (job : Job) → (CannotBeAltered parameters.free parameters.margin job → ⊥)
        → altered_fault (altered_job parameters.free parameters.margin job) ≡ 0
    unfolding altered_job
    can job able = go (lt_or_le altered.release altered.deadline) (lt_or_le max_cycles altered.cycles)
      where
        altered : Job
        altered = altered_job parameters.free parameters.margin job

        go : (altered.release < altered.deadline) ⊎ (altered.deadline ≤ altered.release) → (max_cycles < altered.cycles) ⊎ (altered.cycles ≤ max_cycles)
            → altered_fault altered ≡ 0
        go (inr emptied) cycles = absurd (able (inl emptied))
        go (inl window) (inl many) = absurd (able (inr many))
        go (inl window) (inr few) = (altered_sound altered).1 (window, few)

    cannot : (job : Job) → CannotBeAltered parameters.free parameters.margin job
        → altered_fault (altered_job parameters.free parameters.margin job) ≡ 36
    unfolding altered_fault altered_job
    cannot job (inl emptied) = rw (le-leb _ _ emptied)
    cannot job (inr many) = rw (lt-ltb _ _ many, or-true)

    emptied_or_more : alter_tables parameters tables ≡ refused 36 place
    unfolding alter_tables alter_levels alter_jobs
    emptied_or_more =
        let low : 1 ≤ parameters.highest = never_below parameters.highest 1 (λ none. ranged (inl (inl none))) in
        let upto : parameters.highest ≤ length (running_levels entries) = never_below _ _ (λ past. ranged (inl (inr past))) in
        let free : parameters.free ≤ max_free = never_below _ _ (λ much. ranged (inr (inl much))) in
        let margin : parameters.margin ≤ max_margin = never_below _ _ (λ high. ranged (inr (inr high))) in
        let fault : ℕ → ℕ = λ j. altered_fault (job_of (map (altered_job parameters.free parameters.margin) given) j) in
        let here : fault place ≡ 36 = ap altered_fault (at place first.is_job) ∙ cannot (job_of given place) first.cannot in
        rw (
          le-leb 1 parameters.highest low,
          le-leb parameters.highest (length (running_levels entries)) upto,
          le-ltb max_free parameters.free free,
          le-ltb max_margin parameters.margin margin,
          by_entry_stops fault (answer (map (altered_job parameters.free parameters.margin) given)) (length given) place
              (λ j before. ap altered_fault (at j (omega (arith, first.is_job))) ∙ can (job_of given j) (first.earlier_can j before)) first.is_job (omega (arith, here)),
          here,
        )
      where
        never_below : (a b : ℕ) → (a < b → ⊥) → b ≤ a
        never_below a b never = go (lt_or_le a b)
          where
            go : (a < b) ⊎ (b ≤ a) → b ≤ a
            go (inl below) = absurd (never below)
            go (inr above) = above

-- Two plans' cycles of a job are those that the plan has for it.
module _ (levels jobs marks : List ℕ) (one two : Parameters) (site other : Site)
    (read : ValidTables levels jobs marks one site) (other-read : ValidTables levels jobs marks two other) where
  as_many : length site.jobs ≡ length other.jobs
  as_many =
      let (given, ticks, jobs_read, marks_read, altered, bounds) = site_parts levels jobs marks one site read in
      let (there, others, there-read, others-read, other-altered, other-bounds) = site_parts levels jobs marks two other other-read in
      let same : there ≡ given = answer_injective (sym there-read ∙ jobs_read) in
      ((jobs_altered _ _ given site.jobs).0 altered).as_many ∙ ap length (sym same) ∙ sym ((jobs_altered _ _ there other.jobs).0 other-altered).as_many

  not_with_others : (plan prices other_prices : List ℕ) (figure other_figure : ℕ)
      → check levels jobs marks one plan prices ≡ answer figure → check levels jobs marks two plan other_prices ≡ answer other_figure
      → (j : ℕ) → j < length site.jobs → (job_of site.jobs j).cycles ≡ (job_of other.jobs j).cycles
  not_with_others plan prices other_prices figure other_figure checked other-checked j below =
      let here = ((check_accepts site plan prices figure).0 (sym (check_read levels jobs marks one plan prices site read) ∙ checked)).0 in
      let there = ((check_accepts other plan other_prices other_figure).0 (sym (check_read levels jobs marks two plan other_prices other other-read) ∙ other-checked)).0 in
      let same : interval_count site.bounds ≡ interval_count other.bounds = sym here.is-plan.intervals ∙ there.is-plan.intervals in
      sym (here.gives.whole j below) ∙ ap (λ (n : ℕ). sum n (λ i. shares_of plan i j)) same ∙ there.gives.whole j (rw as_many at below)

pub site_parameters : SiteParameters
site_parameters =
    record {
      levels = levels_altered;
      jobs = jobs_altered;
      altered_are_valid = altered_are_valid;
      works_on_altered = works_on_altered;
      as_before = as_before;
      tables_first = tables_first;
      then_35 = λ levels jobs marks parameters entries given ticks levels_read jobs_read marks_read wrong.
          refused_so levels jobs marks parameters entries given ticks levels_read jobs_read marks_read 35 0
          (out_of_range levels jobs marks parameters entries given ticks levels_read jobs_read marks_read wrong);
      then_36 = λ levels jobs marks parameters entries given ticks levels_read jobs_read marks_read ranged place first.
          refused_so levels jobs marks parameters entries given ticks levels_read jobs_read marks_read 36 place
          (emptied_or_more levels jobs marks parameters entries given ticks levels_read jobs_read marks_read ranged place first);
      not_with_others = not_with_others;
    }
