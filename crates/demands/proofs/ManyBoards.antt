-- One plan serves all boards with the same working frequencies, over the tables in bytes and the calls themselves.
-- Assumes nothing.
use mathlib.Core.Path.{◌≡◌, refl, sym, ◌∙◌, ap, subst}
use mathlib.Core.List.{List}
use mathlib.Core.Option.{Option, none, some}
use Prim.Native.Nat.{ℕ}
use lib.ListN.{length}
use Rattle.model.specs.declared.Level.{Level}
use Rattle.model.specs.declared.Job.{Job}
use Rattle.model.specs.declared.Parameters.{Parameters}
use Rattle.model.specs.Outcome.{Outcome, refused, answer, and_then}
use Rattle.model.specs.LevelTables.{read_levels}
use Rattle.model.specs.Jobs.{read_jobs}
use Rattle.model.specs.Marks.{read_marks}
use Rattle.model.specs.SiteParameters.{alter_levels, alter_jobs}
use Rattle.model.specs.Processors.{Processor, top_of, processor_of, read_processor}
use Rattle.model.specs.Setting.{setting}
use Rattle.model.specs.Sites.{read_given, Tables, tables_of, alter_tables, read_tables, Site, site_of, read_site}
use Rattle.model.specs.Windows.{Window, spare_of, spare_for, spare, earliest_overfull}
use Rattle.model.specs.Steps.{shares_of}
use Rattle.model.specs.Checking.{figure_of, fits_for, fits, check_for, check}
use Rattle.model.specs.Planning.{comes_out, after_reading, step_limit, plan_for, planning, Planned}
use Rattle.model.specs.Demands.{ValidTables}
use Rattle.model.specs.Boards.{working_frequencies, on_board, Alike}
use Rattle.model.proofs.Outcome.{answer_injective, and_then_answered}
use Rattle.model.proofs.Sites.{processors_are_valid, sites_are_valid}
use Rattle.model.proofs.Accepted.{check_accepts, check_read, check_reads, accepted_is_least}
use Rattle.model.proofs.Boards.{boards_are_alike}
use Rattle.planning.specs.MadePlans.{Written}
use Rattle.planning.specs.declared.operation.WrittenPlan.{WrittenPlan}
use Rattle.planning.specs.PlanAnswers.{Plan, outcome_of, PlanContract}
use Rattle.planning.proofs.PlanStages.{planned_as, site_contract, plan_read}
use Rattle.ordering.specs.Ordering.{order}
use Rattle.job_rooms.specs.SetOutcomes.{overfull, after_tables, unless_found}
use Rattle.nearest.specs.Nearest.{list_fitting, nearest_for, nearest}
use Rattle.demands.specs.ThreeDemands.{Call, plan_written, prices_written, SuchAPlan}
use Rattle.demands.specs.ManyBoards.{LimitedBoard, on_site, SameWorkingFrequencies, ServesOn, SameOnBoth, board_of, as_there, OnePlanManyBoards}
use Rattle.demands.proofs.ThreeDemands.{demand_two, demand_three}

-- a board in place of the one that tables were read with
abbrev with_board : Processor → Tables → Tables
with_board processor tables = record { processor = processor; jobs = tables.jobs }

-- what jobs and marks make of a board's processor
abbrev tables_with : Processor → (jobs : List ℕ) → (free margin : ℕ) → Outcome Tables
tables_with processor jobs free margin =
    and_then (read_jobs jobs) λ given.
    and_then (alter_jobs free margin given) λ altered.
    answer (record { processor = processor; jobs = altered })

abbrev site_with : Processor → (jobs marks : List ℕ) → (free margin : ℕ) → Outcome Site
site_with processor jobs marks free margin =
    and_then (read_jobs jobs) λ given.
    and_then (read_marks marks) λ ticks.
    and_then (alter_jobs free margin given) λ altered.
    answer (site_of (record { processor = processor; jobs = altered }) ticks)

-- where the levels are read and altered, the rest of a site is read and altered
module _ (board : LimitedBoard) {processor : Processor} (read : read_processor board.bytes board.highest ≡ answer processor) (free margin : ℕ) where
  tables-with : (jobs : List ℕ) → read_tables board.bytes jobs (on_site board free margin) ≡ tables_with processor jobs free margin
  unfolding read_tables read_given alter_tables
  tables-with jobs =
      let (entries, levels_read, is) = and_then_answered (read_levels board.bytes) _ read in
      let (levels, altered, is) = and_then_answered (alter_levels board.highest entries) _ is in
      rw levels_read (go entries levels altered (answer_injective is) (read_jobs jobs))
    where
      go : (entries levels : List Level) → alter_levels board.highest entries ≡ answer levels → processor_of levels ≡ processor → (jobs_read : Outcome (List Job))
          → and_then (and_then jobs_read (λ jobs. answer (record { levels = entries; jobs = jobs }))) (alter_tables (on_site board free margin))
          ≡ (and_then jobs_read λ given.
          and_then (alter_jobs free margin given) λ altered.
          answer (record { processor = processor; jobs = altered }))
      go entries levels altered is (refused number place) = refl
      go entries levels altered is (answer jobs) = rw (altered, ← is)

  site-with : (jobs marks : List ℕ) → read_site board.bytes jobs marks (on_site board free margin) ≡ site_with processor jobs marks free margin
  unfolding read_site read_given alter_tables
  site-with jobs marks =
      let (entries, levels_read, is) = and_then_answered (read_levels board.bytes) _ read in
      let (levels, altered, is) = and_then_answered (alter_levels board.highest entries) _ is in
      rw levels_read (go entries levels altered (answer_injective is) (read_jobs jobs) (read_marks marks))
    where
      last : (levels : List Level) → processor_of levels ≡ processor → (ticks : List ℕ) (altered : Outcome (List Job))
          → and_then (and_then altered (λ jobs. answer (tables_of (record { levels = levels; jobs = jobs })))) (λ tables. answer (site_of tables ticks))
          ≡ and_then altered (λ jobs. answer (site_of (record { processor = processor; jobs = jobs }) ticks))
      last levels is ticks (refused number place) = refl
      last levels is ticks (answer jobs) = rw (← is)

      go : (entries levels : List Level) → alter_levels board.highest entries ≡ answer levels → processor_of levels ≡ processor
          → (jobs_read : Outcome (List Job)) (marks_read : Outcome (List ℕ))
          → (and_then (and_then jobs_read (λ jobs. answer (record { levels = entries; jobs = jobs }))) λ given.
          and_then marks_read λ ticks.
          and_then (alter_tables (on_site board free margin) given) λ tables.
          answer (site_of tables ticks))
          ≡ (and_then jobs_read λ given.
          and_then marks_read λ ticks.
          and_then (alter_jobs free margin given) λ altered.
          answer (site_of (record { processor = processor; jobs = altered }) ticks))
      go entries levels altered is (refused number place) marks_read = refl
      go entries levels altered is (answer jobs) (refused number place) = refl
      go entries levels altered is (answer jobs) (answer ticks) = rw altered (last levels is ticks (alter_jobs free margin jobs))

-- Whatever board is read with jobs, marks, free ticks and a margin, another that is read makes the same site, on its own board.
module _ (one two : LimitedBoard) {processor other : Processor}
    (read_one : read_processor one.bytes one.highest ≡ answer processor) (read-two : read_processor two.bytes two.highest ≡ answer other)
    (free margin : ℕ) where
  tables_on : (jobs : List ℕ) → read_tables two.bytes jobs (on_site two free margin)
      ≡ (and_then (read_tables one.bytes jobs (on_site one free margin)) λ tables. answer (with_board other tables))
  tables_on jobs = rw (tables-with one read_one free margin jobs, tables-with two read-two free margin jobs) (go (read_jobs jobs))
    where
      last : (altered : Outcome (List Job))
          → and_then altered (λ jobs. answer (record { processor = other; jobs = jobs }))
          ≡ and_then (and_then altered (λ jobs. answer (record { processor = processor; jobs = jobs }))) (λ tables. answer (with_board other tables))
      last (refused number place) = refl
      last (answer jobs) = refl

      go : (jobs_read : Outcome (List Job))
          → and_then jobs_read (λ given. and_then (alter_jobs free margin given) (λ jobs. answer (record { processor = other; jobs = jobs })))
          ≡ and_then (and_then jobs_read (λ given. and_then (alter_jobs free margin given) (λ jobs. answer (record { processor = processor; jobs = jobs }))))
          (λ tables. answer (with_board other tables))
      go (refused number place) = refl
      go (answer given) = last (alter_jobs free margin given)

  site_on : (jobs marks : List ℕ) → read_site two.bytes jobs marks (on_site two free margin)
      ≡ (and_then (read_site one.bytes jobs marks (on_site one free margin)) λ site. answer (on_board other site))
  site_on jobs marks = rw (site-with one read_one free margin jobs marks, site-with two read-two free margin jobs marks) (go (read_jobs jobs) (read_marks marks))
    where
      last : (ticks : List ℕ) (altered : Outcome (List Job))
          → and_then altered (λ jobs. answer (site_of (record { processor = other; jobs = jobs }) ticks))
          ≡ and_then (and_then altered (λ jobs. answer (site_of (record { processor = processor; jobs = jobs }) ticks))) (λ site. answer (on_board other site))
      last ticks (refused number place) = refl
      last ticks (answer jobs) = refl

      go : (jobs_read : Outcome (List Job)) (marks_read : Outcome (List ℕ))
          → (and_then jobs_read λ given.
          and_then marks_read λ ticks.
          and_then (alter_jobs free margin given) λ jobs.
          answer (site_of (record { processor = other; jobs = jobs }) ticks))
          ≡ and_then
          (and_then jobs_read λ given.
          and_then marks_read λ ticks.
          and_then (alter_jobs free margin given) λ jobs.
          answer (site_of (record { processor = processor; jobs = jobs }) ticks))
          (λ site. answer (on_board other site))
      go (refused number place) marks_read = refl
      go (answer given) (refused number place) = refl
      go (answer given) (answer ticks) = last ticks (alter_jobs free margin given)

-- a site has the processor that its board is read as
own_board : (board : LimitedBoard) {processor : Processor} → read_processor board.bytes board.highest ≡ answer processor → (free margin : ℕ)
    → (jobs marks : List ℕ) (site : Site) → read_site board.bytes jobs marks (on_site board free margin) ≡ answer site → site ≡ on_board processor site
own_board board {processor} read free margin jobs marks site site_read =
    answer_injective
    (sym site_read ∙ site_on board board read read free margin jobs marks
    ∙ ap (λ (s : Outcome Site). and_then s λ site. answer (on_board processor site)) site_read)

-- Two boards of one type.
module _ (one two : LimitedBoard) {processor other : Processor} (read_one : read_processor one.bytes one.highest ≡ answer processor) (read-two : read_processor two.bytes two.highest ≡ answer other)
    (same : working_frequencies processor ≡ working_frequencies other) where
  alike : Alike processor other
  alike =
      boards_are_alike processor other
      (processors_are_valid one.bytes one.highest processor read_one).rising (processors_are_valid two.bytes two.highest other read-two).rising same

  settings_on : (length load : ℕ) → setting one.bytes one.highest length load ≡ setting two.bytes two.highest length load
  unfolding setting
  settings_on length load = rw (read_one, read-two) (sym (alike.settings length load))

  -- with the same free ticks and margin
  module _ (free margin : ℕ) where
    -- An operation that is alike on both boards but for a plan's figure: that of the other is that of the one, with its own figure.
    module _ (plan : List ℕ) (run : Site → Outcome ℕ)
        (runs-alike : (site : Site) → run (on_board other site) ≡ (and_then (run (on_board processor site)) λ figure. answer (figure_of (on_board other site) plan)))
        (jobs marks : List ℕ) where
      ran_on : and_then (read_site two.bytes jobs marks (on_site two free margin)) run
          ≡ (and_then (read_site one.bytes jobs marks (on_site one free margin)) λ site.
          and_then (run site) λ figure.
          answer (figure_of (on_board other site) plan))
      ran_on = rw (site_on one two read_one read-two free margin jobs marks) (go (read_site one.bytes jobs marks (on_site one free margin)) (own_board one read_one free margin jobs marks))
        where
          go : (read : Outcome Site) → ((site : Site) → read ≡ answer site → site ≡ on_board processor site)
              → and_then (and_then read (λ site. answer (on_board other site))) run
              ≡ (and_then read λ site.
              and_then (run site) λ figure.
              answer (figure_of (on_board other site) plan))
          go (refused number place) its = refl
          go (answer site) its =
              runs-alike site
              ∙ ap (λ (s : Site). and_then (run s) λ figure. answer (figure_of (on_board other site) plan)) (sym (its site refl))

      refused_run : (number place : ℕ) → and_then (read_site one.bytes jobs marks (on_site one free margin)) run ≡ refused number place
          → and_then (read_site two.bytes jobs marks (on_site two free margin)) run ≡ refused number place
      refused_run number place e = ran_on ∙ go (read_site one.bytes jobs marks (on_site one free margin)) e
        where
          go : (read : Outcome Site) → and_then read run ≡ refused number place
              → (and_then read λ site.
              and_then (run site) λ figure.
              answer (figure_of (on_board other site) plan)) ≡ refused number place
          go (refused n p) e = e
          go (answer site) e = rw e

    -- the check, accepting or not
    check_on : (jobs marks plan prices : List ℕ) → check two.bytes jobs marks (on_site two free margin) plan prices
        ≡ (and_then (read_site one.bytes jobs marks (on_site one free margin)) λ site.
        and_then (check_for site plan prices) λ figure.
        answer (figure_of (on_board other site) plan))
    unfolding check
    check_on jobs marks plan prices = ran_on plan (λ site. check_for site plan prices) (λ site. alike.checks site plan prices) jobs marks

    -- of refused plans
    refused_on : (jobs marks plan prices : List ℕ) (number place : ℕ) → check one.bytes jobs marks (on_site one free margin) plan prices ≡ refused number place
        → check two.bytes jobs marks (on_site two free margin) plan prices ≡ refused number place
    unfolding check
    refused_on jobs marks plan prices = refused_run plan (λ site. check_for site plan prices) (λ site. alike.checks site plan prices) jobs marks

    -- of plans that do not fit
    unfitting_on : (jobs marks plan : List ℕ) (number place : ℕ) → fits one.bytes jobs marks (on_site one free margin) plan ≡ refused number place
        → fits two.bytes jobs marks (on_site two free margin) plan ≡ refused number place
    unfolding fits
    unfitting_on jobs marks plan = refused_run plan (λ site. fits_for site plan) (λ site. alike.fits site plan) jobs marks

    -- and of accepted ones
    accepted_on : (jobs marks plan prices : List ℕ) (figure : ℕ) → check one.bytes jobs marks (on_site one free margin) plan prices ≡ answer figure
        → (figure' : ℕ) × (check two.bytes jobs marks (on_site two free margin) plan prices ≡ answer figure')
    accepted_on jobs marks plan prices figure e =
        let (site, read, checked) = check_reads one.bytes jobs marks (on_site one free margin) plan prices figure e in
        (figure_of (on_board other site) plan, check_on jobs marks plan prices ∙ rw (read, checked))

    spares_on : (jobs : List ℕ) (start end : ℕ) → spare one.bytes jobs (on_site one free margin) start end ≡ spare two.bytes jobs (on_site two free margin) start end
    unfolding spare
    spares_on jobs start end = rw (tables_on one two read_one read-two free margin jobs, tables_on one one read_one read_one free margin jobs) (go (read_tables one.bytes jobs (on_site one free margin)))
      where
        go : (read : Outcome Tables)
            → and_then (and_then read (λ tables. answer (with_board processor tables))) (λ tables. spare_for tables start end)
            ≡ and_then (and_then (and_then read (λ tables. answer (with_board processor tables))) (λ tables. answer (with_board other tables)))
            (λ tables. spare_for tables start end)
        go (refused number place) = refl
        go (answer tables) = sym (alike.spares tables start end)

    nearests_on : (jobs : List ℕ) (room : ℕ) → nearest one.bytes jobs (on_site one free margin) room ≡ nearest two.bytes jobs (on_site two free margin) room
    unfolding nearest nearest_for
    nearests_on jobs room = rw (tables_on one two read_one read-two free margin jobs, tables_on one one read_one read_one free margin jobs) (go (read_tables one.bytes jobs (on_site one free margin)))
      where
        go : (read : Outcome Tables)
            → after_tables (and_then read (λ tables. answer (with_board processor tables))) (λ tables. nearest_for tables room)
            ≡ after_tables (and_then (and_then read (λ tables. answer (with_board processor tables))) (λ tables. answer (with_board other tables)))
            (λ tables. nearest_for tables room)
        go (refused number place) = refl
        go (answer tables) =
            ap (λ (top : ℕ). unless_found (with_board processor tables) (earliest_overfull top tables.jobs) (list_fitting (top_of processor) tables.jobs room)) (sym alike.tops)
            ∙ by_top (earliest_overfull (top_of other) tables.jobs)
          where
            -- the window and the list hang on the top frequency alone
            by_top : (found : Option Window)
                → unless_found (with_board processor tables) found (list_fitting (top_of processor) tables.jobs room)
                ≡ unless_found (with_board other tables) found (list_fitting (top_of other) tables.jobs room)
            by_top none = ap (λ (top : ℕ). list_fitting top tables.jobs room) (sym alike.tops)
            by_top (some w) = ap (λ (top : ℕ). overfull w.start w.end (spare_of top tables.jobs w.start w.end)) (sym alike.tops)

    orders_on : (jobs marks plan prices : List ℕ) (room : ℕ) → order one.bytes jobs marks (on_site one free margin) plan prices room ≡ order two.bytes jobs marks (on_site two free margin) plan prices room
    unfolding order
    orders_on jobs marks plan prices room = go (check one.bytes jobs marks (on_site one free margin) plan prices) refl
      where
        go : (checked : Outcome ℕ) → check one.bytes jobs marks (on_site one free margin) plan prices ≡ checked → order one.bytes jobs marks (on_site one free margin) plan prices room ≡ order two.bytes jobs marks (on_site two free margin) plan prices room
        go (refused number place) e = rw (e, refused_on jobs marks plan prices number place e)
        go (answer figure) e = rw (e, (accepted_on jobs marks plan prices figure e).1)

    plans_on : (jobs marks : List ℕ) (plan_room price_room share_room : ℕ)
        → planning one.bytes jobs marks (on_site one free margin) plan_room price_room share_room ≡ planning two.bytes jobs marks (on_site two free margin) plan_room price_room share_room
    unfolding planning
    plans_on jobs marks plan_room price_room share_room =
        rw (site_on one two read_one read-two free margin jobs marks, site_on one one read_one read_one free margin jobs marks) (go (read_site one.bytes jobs marks (on_site one free margin)))
      where
        go : (read : Outcome Site)
            → after_reading (and_then read (λ site. answer (on_board processor site))) (λ site. plan_for site plan_room price_room share_room)
            ≡ after_reading (and_then (and_then read (λ site. answer (on_board processor site))) (λ site. answer (on_board other site)))
            (λ site. plan_for site plan_room price_room share_room)
        go (refused number place) = refl
        go (answer site) = sym (alike.plans site plan_room price_room share_room)

    -- the sites of both
    sites_on : (jobs marks : List ℕ) (site second : Site) → read_site one.bytes jobs marks (on_site one free margin) ≡ answer site → read_site two.bytes jobs marks (on_site two free margin) ≡ answer second
        → (site ≡ on_board processor site) × (second ≡ on_board other site)
    sites_on jobs marks site second read second-read = (
      own_board one read_one free margin jobs marks site read,
      answer_injective (sym second-read ∙ site_on one two read_one read-two free margin jobs marks
          ∙ ap (λ (s : Outcome Site). and_then s λ site. answer (on_board other site)) read),
    )

  same_on_both : (reverse : (free margin : ℕ) (jobs marks plan prices : List ℕ) (number place : ℕ)
      → check two.bytes jobs marks (on_site two free margin) plan prices ≡ refused number place
      → check one.bytes jobs marks (on_site one free margin) plan prices ≡ refused number place)
      → (reverse-fits : (free margin : ℕ) (jobs marks plan : List ℕ) (number place : ℕ)
      → fits two.bytes jobs marks (on_site two free margin) plan ≡ refused number place
      → fits one.bytes jobs marks (on_site one free margin) plan ≡ refused number place)
      → SameOnBoth one two
  same_on_both reverse reverse-fits =
      record {
        refusals = λ jobs marks free margin plan prices number place.
            (refused_on free margin jobs marks plan prices number place, reverse free margin jobs marks plan prices number place);
        unfitting = λ jobs marks free margin plan number place.
            (unfitting_on free margin jobs marks plan number place, reverse-fits free margin jobs marks plan number place);
        settings = settings_on;
        spares = λ jobs free margin. spares_on free margin jobs;
        nearests = λ jobs free margin. nearests_on free margin jobs;
        orders = λ jobs marks free margin. orders_on free margin jobs marks;
        plans = λ jobs marks free margin. plans_on free margin jobs marks;
        bands = λ jobs marks free margin site second read second-read plan k.
            let (its, others) = sites_on free margin jobs marks site second read second-read in
            rw (its, others) (sym (alike.gaps k), sym (alike.bands site (shares_of plan) k));
      }

  -- what planning wrote for a site of the one is what it may write for that of the other
  module _ (site : Site) (its : site ≡ on_board processor site) (intervals steps energy : ℕ) (plan prices shares : List ℕ)
      (planned : Planned site intervals steps energy plan prices shares) where
    check-site : (others : List ℕ) → check_for (on_board other site) plan others
        ≡ (and_then (check_for site plan others) λ figure. answer (figure_of (on_board other site) plan))
    check-site others =
        alike.checks site plan others
        ∙ ap (λ (s : Site). and_then (check_for s plan others) λ figure. answer (figure_of (on_board other site) plan)) (sym its)

    -- every list that is accepted there is accepted here, with the figure of here
    accepted_here : (others : List ℕ) {figure : ℕ} → check_for (on_board other site) plan others ≡ answer figure → check_for site plan others ≡ answer energy
    accepted_here others e =
        let (figure, checked, is) = and_then_answered (check_for site plan others) _ (sym (check-site others) ∙ e) in
        let own : figure ≡ figure_of site plan = ((check_accepts site plan others figure).0 checked).1 in
        let its_own : energy ≡ figure_of site plan = ((check_accepts site plan prices energy).0 planned.accepted).1 in
        checked ∙ ap answer (own ∙ sym its_own)

    planned_on : Planned (on_board other site) intervals steps (figure_of (on_board other site) plan) plan prices shares
    unfolding step_limit
    planned_on =
        record {
          interval-count = planned.interval-count;
          plan_size = planned.plan_size;
          step_count_is = planned.step_count_is;
          few = planned.few;
          price_size = planned.price_size;
          accepted = check-site prices ∙ rw planned.accepted;
          smallest = λ others e. planned.smallest others (accepted_here others e);
          share-count = planned.share-count;
          same_shares = planned.same_shares;
        }

-- an accepted plan is least, with the figure of its own site
serving : (levels jobs marks : List ℕ) (parameters : Parameters) (plan prices : List ℕ) (figure : ℕ)
    → check levels jobs marks parameters plan prices ≡ answer figure → ServesOn levels jobs marks parameters plan prices
serving levels jobs marks parameters plan prices figure e =
    let acceptable = (demand_two.accepts levels jobs marks parameters plan prices figure).0 e in
    let site : Site = acceptable.site in
    let own = acceptable.such_a_plan.energy-figure in
    let accepted = e ∙ ap answer own in
    record {
      site = site;
      tables = acceptable.tables;
      accepted = accepted;
      such_a_plan = subst (SuchAPlan site plan) own acceptable.such_a_plan;
      least =
          accepted_is_least site (sites_are_valid levels jobs marks parameters site acceptable.tables) plan prices (figure_of site plan)
          (sym (check_read levels jobs marks parameters plan prices site acceptable.tables) ∙ accepted);
    }

-- two boards of one type, with the processors that they are read as
boards : (one two : LimitedBoard) → SameWorkingFrequencies one two
    → (processor other : Processor) × (read_processor one.bytes one.highest ≡ answer processor) × (read_processor two.bytes two.highest ≡ answer other)
    × (working_frequencies processor ≡ working_frequencies other)
boards one two (frequencies, has-one, has-two) =
    let (processor, read_one, is) = and_then_answered (read_processor one.bytes one.highest) _ has-one in
    let (other, read-two, are) = and_then_answered (read_processor two.bytes two.highest) _ has-two in
    (processor, other, read_one, read-two, answer_injective is ∙ sym (answer_injective are))

serves : (one two : LimitedBoard) → SameWorkingFrequencies one two
    → (jobs marks : List ℕ) (free margin : ℕ) (plan prices : List ℕ) (figure : ℕ)
    → check one.bytes jobs marks (on_site one free margin) plan prices ≡ answer figure
    → ServesOn two.bytes jobs marks (on_site two free margin) plan prices
serves one two alike jobs marks free margin plan prices figure e =
    let (processor, other, read_one, read-two, same) = boards one two alike in
    let (own, accepted) = accepted_on one two read_one read-two same free margin jobs marks plan prices figure e in
    serving two.bytes jobs marks (on_site two free margin) plan prices own accepted

-- a call that answers a plan
module _ (call : Call) (intervals steps energy : ℕ) (told : call.answered ≡ Plan intervals steps energy) where
  its_site : (site : Site) × ValidTables call.level_bytes call.job_bytes call.mark_bytes call.parameters site
  its_site = plan_read call.contract intervals steps energy told

  planned_serves : (two : LimitedBoard) → SameWorkingFrequencies (board_of call) two
      → ServesOn two.bytes call.job_bytes call.mark_bytes (as_there call two) (plan_written call steps) (prices_written call intervals)
  planned_serves two alike =
      let (site, tables) = its_site in
      serves (board_of call) two alike _ _ _ _ _ _ energy (demand_three.written call site tables intervals steps energy told).checked

  module _ (two : LimitedBoard) (alike : SameWorkingFrequencies (board_of call) two) (second : Site)
      (second-read : ValidTables two.bytes call.job_bytes call.mark_bytes (as_there call two) second) where
    its_figure : ℕ
    its_figure = figure_of second (plan_written call steps)

    written_there : Written second intervals steps its_figure call.before call.after
    unfolding its_figure
    written_there =
        let (site, read) = its_site in
        let (processor, other, read_one, read-two, same) = boards (board_of call) two alike in
        let (its, on-other) = sites_on (board_of call) two read_one read-two same call.parameters.free call.parameters.margin call.job_bytes call.mark_bytes site second read second-read in
        let written = call.contract.written site read intervals steps energy told in
        rw on-other (
        record {
          planned = planned_on (board_of call) two read_one read-two same site its intervals steps energy _ _ _ written.planned;
          plan-kept = written.plan-kept;
          prices-kept = written.prices-kept;
          shares-kept = written.shares-kept;
        }
        )

    comes_out_there : comes_out ≡ plan_for second (length call.before.plan) (length call.before.prices) (length call.before.shares)
    comes_out_there =
        let (processor, other, read_one, read-two, same) = boards (board_of call) two alike in
        sym (ap outcome_of told) ∙ call.contract.outcome
        ∙ plans_on (board_of call) two read_one read-two same call.parameters.free call.parameters.margin call.job_bytes call.mark_bytes _ _ _
        ∙ planned_as two.bytes call.job_bytes call.mark_bytes (as_there call two) second second-read _ _ _

    written_for_both : PlanContract two.bytes call.job_bytes call.mark_bytes (as_there call two) call.before call.after (Plan intervals steps its_figure)
    written_for_both =
        site_contract two.bytes call.job_bytes call.mark_bytes (as_there call two) second second-read (
        record {
          outcome = comes_out_there;
          untouched = λ no_plan. absurd (no_plan refl);
          written = λ intervals' steps' energy' same.
              let written : ◌≡◌ {A = WrittenPlan} (record { intervals = intervals; steps = steps; energy = its_figure })
              (record { intervals = intervals'; steps = steps'; energy = energy' }) = cc same in
              let same-intervals : intervals ≡ intervals' = ap (λ (w : WrittenPlan). w.intervals) written in
              let same_steps : steps ≡ steps' = ap (λ (w : WrittenPlan). w.steps) written in
              let same_energy : its_figure ≡ energy' = ap (λ (w : WrittenPlan). w.energy) written in
              rw (← same-intervals, ← same_steps, ← same_energy) written_there;
        }
        )

pub one_plan_many_boards : OnePlanManyBoards
unfolding its_figure
one_plan_many_boards =
    record {
      serves = serves;
      planned = λ call two alike intervals steps energy told. planned_serves call intervals steps energy told two alike;
      written_for_both = λ call two alike intervals steps energy told second second-read.
          written_for_both call intervals steps energy told two alike second second-read;
      same = λ one two alike.
          let (processor, other, read_one, read-two, same) = boards one two alike in
          same_on_both one two read_one read-two same
          (refused_on two one read-two read_one (sym same)) (unfitting_on two one read-two read_one (sym same));
      every_pair = λ one two processor other read_one read-two same. (
        working_frequencies other,
        rw (read_one, same),
        rw read-two,
      );
    }
