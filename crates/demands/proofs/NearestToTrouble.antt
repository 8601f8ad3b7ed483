-- The job nearest to trouble, over the tables in bytes and the calls themselves.
-- Assumes nothing.
use mathlib.Core.Path.{◌≡◌, refl, sym, ◌∙◌, ap}
use mathlib.Core.Logic.{◌⊎◌, inl, inr}
use mathlib.Core.List.{List}
use mathlib.Core.Option.{Option, none, some}
use Prim.Native.Nat.{ℕ, zero, suc, ◌+◌, ◌-◌, ◌*◌, ◌<◌, ◌≤◌}
use native.Mathlib.Omega.{arith}
use lib.ListN.{length, get_or, drop}
use lib.IntN.{ℤ}
use lib.Seq.{ext_get_or, take_at, drop_at}
use borrow.Author.Tests.{lt-ltb, le-ltb}
use Rattle.model.specs.declared.Job.{Job}
use Rattle.model.specs.declared.Parameters.{Parameters}
use Rattle.model.specs.Limits.{max_frequency}
use Rattle.model.specs.Outcome.{Outcome, refused, answer}
use Rattle.model.specs.Jobs.{ValidJobs}
use Rattle.model.specs.Processors.{ValidProcessor, top_of}
use Rattle.model.specs.Marks.{read_marks}
use Rattle.model.specs.Sites.{read_given, alter_tables, Tables, read_tables, site_of, read_site}
use Rattle.model.specs.Windows.{Window, spare_of, earliest_overfull}
use Rattle.model.specs.Planning.{overfull as planned, plan_for, planning}
use Rattle.model.proofs.Numbers.{lt_or_le}
use Rattle.model.proofs.Outcome.{and_then_answered}
use Rattle.model.proofs.Sites.{tables_are_valid}
use Rattle.model.proofs.Windows.{overfull_iff, spare_negative, earliest_overfull_found}
use Rattle.spans.proofs.Listed.{length_listed}
use Rattle.room_order.specs.RoomOrder.{job_at_place}
use Rattle.room_order.specs.Ordered.{Ordered}
use Rattle.room_order.proofs.Inserting.{differ}
use Rattle.room_order.proofs.Places.{job-at, ordered_places, length_room_list, room_list_job, room_list_room}
use Rattle.job_rooms.specs.AddedCycles.{room_of}
use Rattle.job_rooms.specs.SetOutcomes.{SetOutcome, refusal, overfull, answered}
use Rattle.nearest.specs.Nearest.{nearest_list, list_fitting, nearest_for, nearest, list_after}
use Rattle.nearest.specs.NearestAnswers.{Listed, Overfull, nearest_job_answer}
use Rattle.nearest.proofs.NearestStages.{room_small}
use Rattle.demands.specs.NearestToTrouble.{NearestCall, ReadAs, list_written, job_at, cycles_at, NearestFirst, ListComesOut, NoList, RefusedCall, NearestToTrouble}
use Rattle.demands.proofs.MostCycles.{room_most, most_one, most_fits, never_served}

-- tables and marks that were read make a site
tables_site : (level_bytes job_bytes mark_bytes : List ℕ) (parameters : Parameters) (tables : Tables) (ticks : List ℕ)
    → read_tables level_bytes job_bytes parameters ≡ answer tables → read_marks mark_bytes ≡ answer ticks
    → read_site level_bytes job_bytes mark_bytes parameters ≡ answer (site_of tables ticks)
unfolding read_site read_tables
tables_site level_bytes job_bytes mark_bytes parameters tables ticks read marks_read =
    let (given, given_read, altered) = and_then_answered (read_given level_bytes job_bytes) (alter_tables parameters) read in
    rw (given_read, marks_read, altered)

-- what comes out for tables that were read: a window, a refusal for want of room, or the list
data Way (tables : Tables) (room : ℕ) : SetOutcome (List ℕ) → Type 0 where
  window : (w : Window) → earliest_overfull (top_of tables.processor) tables.jobs ≡ some w
      → Way tables room (overfull w.start w.end (spare_of (top_of tables.processor) tables.jobs w.start w.end))
  short : earliest_overfull (top_of tables.processor) tables.jobs ≡ none → room < 2 * length tables.jobs
      → Way tables room (refusal 14 (2 * length tables.jobs))
  long : earliest_overfull (top_of tables.processor) tables.jobs ≡ none → 2 * length tables.jobs ≤ room
      → Way tables room (answered (nearest_list (top_of tables.processor) tables.jobs))

way : (tables : Tables) (room : ℕ) → Way tables room (nearest_for tables room)
unfolding nearest_for list_fitting
way tables room = found (earliest_overfull (top_of tables.processor) tables.jobs) refl
  where
    found : (w : Option Window) → earliest_overfull (top_of tables.processor) tables.jobs ≡ w → Way tables room (nearest_for tables room)
    found (some w) e = rw e (window w e)
    found none e = rw e (fits (lt_or_le room (2 * length tables.jobs)))
      where
        fits : (room < 2 * length tables.jobs) ⊎ (2 * length tables.jobs ≤ room) → Way tables room (list_fitting (top_of tables.processor) tables.jobs room)
        fits (inl less) = rw (lt-ltb room (2 * length tables.jobs) less) (short e less)
        fits (inr enough) = rw (le-ltb room (2 * length tables.jobs) enough) (long e enough)

-- the outcome of a call whose tables are read, or refused
module _ (call : NearestCall) where
  abbrev outcome : SetOutcome (List ℕ)
  outcome = nearest call.level_bytes call.job_bytes call.parameters (length call.before)

  read_outcome : (tables : Tables) → ReadAs call tables → outcome ≡ nearest_for tables (length call.before)
  unfolding nearest
  read_outcome tables read = rw read

  refused_outcome : (number place : ℕ) → read_tables call.level_bytes call.job_bytes call.parameters ≡ refused number place → outcome ≡ refusal number place
  unfolding nearest
  refused_outcome number place e = rw e

  -- what a call answered and left, by its outcome
  answer_as : (own : SetOutcome (List ℕ)) → outcome ≡ own → (call.answered ≡ nearest_job_answer own) × (call.after ≡ list_after own call.before)
  answer_as own is = (call.contract.answer_is ∙ ap nearest_job_answer is, call.contract.list_is ∙ ap (λ (o : SetOutcome (List ℕ)). list_after o call.before) is)

  refused_call : (number place : ℕ) → outcome ≡ refusal number place → RefusedCall call number place
  refused_call number place is = let (told, left) = answer_as (refusal number place) is in record { refusal = told; untouched = left }

-- the list of a fitting set
module _ (tables : Tables) (processor : ValidProcessor tables.processor) (valid : ValidJobs tables.jobs) where
  abbrev jobs : List Job
  jobs = tables.jobs

  abbrev top : ℕ
  top = top_of tables.processor

  abbrev count : ℕ
  count = length jobs

  slow : top ≤ max_frequency
  slow =
      let last : length tables.processor.levels - 1 < length tables.processor.levels = omega (arith, processor.levels.some) in
      processor.levels.frequency_high (length tables.processor.levels - 1) last

  abbrev room : ℕ → ℕ
  room = room_of top jobs

  -- at each place a job and its room
  is_job : (p : ℕ) → p < count → job_at (nearest_list top jobs) p ≡ job_at_place room count p
  is_job p below = room_list_job room count p below

  is_room : (p : ℕ) → p < count → cycles_at (nearest_list top jobs) p ≡ room (job_at_place room count p)
  is_room p below = room_list_room room count p below

  order : Ordered room count (job_at_place room count)
  order = ordered_places room count

  -- no job has two places
  places_differ : (p q : ℕ) → p < count → q < count → job_at_place room count p ≡ job_at_place room count q → p ≡ q
  places_differ p q p-below q-below same = go (lt_or_le p q) (lt_or_le q p)
    where
      go : (p < q) ⊎ (q ≤ p) → (q < p) ⊎ (p ≤ q) → p ≡ q
      go (inl less) _ = absurd (differ room _ _ (order.rising p q less q-below) same)
      go (inr _) (inl less) = absurd (differ room _ _ (order.rising q p less p-below) (sym same))
      go (inr most) (inr least) = omega arith

  list_nearest : earliest_overfull top jobs ≡ none → NearestFirst tables (nearest_list top jobs)
  list_nearest fits =
      record {
        two_numbers = length_room_list room count;
        each_job = λ j below. let (p, inside, is) = order.every j below in (p, inside, is_job p inside ∙ is);
        nothing_else = λ p below. rw (is_job p below) (order.within p below);
        once = λ p q p-below q-below same. places_differ p q p-below q-below (sym (is_job p p-below) ∙ same ∙ is_job q q-below);
        most = λ p below. rw (is_job p below, is_room p below) (room_most tables processor valid fits (job_at_place room count p) (order.within p below));
        smallest_first = λ p q less below.
            rw (is_job p (omega arith), is_job q below, is_room p (omega arith), is_room q below) (order.rising p q less below);
        small = λ p below. rw (is_room p below) (room_small top jobs valid slow (job_at_place room count p) (order.within p below));
      }

  -- a list of which all this holds is that one
  list_is : (list : List ℕ) → NearestFirst tables list → list ≡ nearest_list top jobs
  list_is list law = ext_get_or 0 list (nearest_list top jobs) (law.two_numbers ∙ sym (length_room_list room count)) (λ i below. at i (rw law.two_numbers at below))
    where
      fits : (p : ℕ) → p < count → earliest_overfull top jobs ≡ none
      fits p below = most_fits tables (job_at list p) (cycles_at list p) (law.nothing_else p below) (law.most p below)

      -- each number of cycles is the job's room
      has_room : (p : ℕ) → p < count → cycles_at list p ≡ room (job_at list p)
      has_room p below =
          most_one tables (job_at list p) (cycles_at list p) (room (job_at list p)) (law.most p below)
          (room_most tables processor valid (fits p below) (job_at list p) (law.nothing_else p below))

      own_order : Ordered room count (job_at list)
      own_order =
          record {
            within = law.nothing_else;
            rising = λ p q less below. rw (has_room p (omega arith), has_room q below) at (law.smallest_first p q less below);
            every = law.each_job;
          }

      same_job : (p : ℕ) → p < count → job_at list p ≡ job_at (nearest_list top jobs) p
      same_job p below = sym (is_job p below ∙ job-at room own_order p below)

      same_cycles : (p : ℕ) → p < count → cycles_at list p ≡ cycles_at (nearest_list top jobs) p
      same_cycles p below = has_room p below ∙ ap room (same_job p below ∙ is_job p below) ∙ sym (is_room p below)

      at : (i : ℕ) → i < 2 * count → get_or list i 0 ≡ get_or (nearest_list top jobs) i 0
      at i below = even_or_odd (half i)
        where
          half : (n : ℕ) → (p : ℕ) × ((n ≡ 2 * p) ⊎ (n ≡ 2 * p + 1))
          half zero = (0, inl refl)
          half (suc n) = next (half n)
            where
              next : (p : ℕ) × ((n ≡ 2 * p) ⊎ (n ≡ 2 * p + 1)) → (p : ℕ) × ((suc n ≡ 2 * p) ⊎ (suc n ≡ 2 * p + 1))
              next (p, inl e) = (p, inr (omega arith))
              next (p, inr e) = (p + 1, inl (omega arith))

          even_or_odd : (p : ℕ) × ((i ≡ 2 * p) ⊎ (i ≡ 2 * p + 1)) → get_or list i 0 ≡ get_or (nearest_list top jobs) i 0
          even_or_odd (p, inl e) = rw e (same_job p (omega arith))
          even_or_odd (p, inr e) = rw e (same_cycles p (omega arith))

-- a call with its tables
module _ (call : NearestCall) (tables : Tables) (read : ReadAs call tables) where
  processor : ValidProcessor tables.processor
  processor = (tables_are_valid call.level_bytes call.job_bytes call.parameters tables read).0

  valid : ValidJobs tables.jobs
  valid = (tables_are_valid call.level_bytes call.job_bytes call.parameters tables read).1

  own_way : Way tables (length call.before) (outcome call)
  own_way = rw (read_outcome call tables read) (way tables (length call.before))

  -- a list comes out
  comes-out : (size : ℕ) → call.answered ≡ Listed size → ListComesOut call tables size
  comes-out size told = go (outcome call) refl own_way
    where
      go : (own : SetOutcome (List ℕ)) → outcome call ≡ own → Way tables (length call.before) own → ListComesOut call tables size
      go own is (window w e) = let z : ◌≡◌ {A = ℕ} 0 1 = cc (sym told ∙ (answer_as call own is).0) in absurd (omega (arith, z))
      go own is (short fits less) = let z : ◌≡◌ {A = ℕ} 0 1 = cc (sym told ∙ (answer_as call own is).0) in absurd (omega (arith, z))
      go own is (long fits enough) =
          let list : List ℕ = nearest_list (top_of tables.processor) tables.jobs in
          let same : size ≡ length (nearest_list (top_of tables.processor) tables.jobs) = cc (sym told ∙ (answer_as call own is).0) in
          let sized : length (nearest_list (top_of tables.processor) tables.jobs) ≡ 2 * length tables.jobs = length_room_list (room_of (top_of tables.processor) tables.jobs) (length tables.jobs) in
          let left = (answer_as call own is).1 in
          let written : list_written call size ≡ nearest_list (top_of tables.processor) tables.jobs = rw left (take_at list (drop (length list) call.before) size (sym same)) in
          record {
            size_is = same ∙ sized;
            long_enough = omega (arith, same, sized);
            nearest_first = rw written (list_nearest tables processor valid fits);
            same_length = rw left (length_listed list call.before (omega (arith, sized)));
            rest_stays = rw left (drop_at list (drop (length list) call.before) size (sym same) ∙ ap (λ (n : ℕ). drop n call.before) (sym same));
          }

  comes_out_when : ((size : ℕ) × (call.answered ≡ Listed size))
      → (earliest_overfull (top_of tables.processor) tables.jobs ≡ none) × (2 * length tables.jobs ≤ length call.before)
  comes_out_when (size, told) = go (outcome call) refl own_way
    where
      go : (own : SetOutcome (List ℕ)) → outcome call ≡ own → Way tables (length call.before) own
          → (earliest_overfull (top_of tables.processor) tables.jobs ≡ none) × (2 * length tables.jobs ≤ length call.before)
      go own is (window w e) = let z : ◌≡◌ {A = ℕ} 0 1 = cc (sym told ∙ (answer_as call own is).0) in absurd (omega (arith, z))
      go own is (short fits less) = let z : ◌≡◌ {A = ℕ} 0 1 = cc (sym told ∙ (answer_as call own is).0) in absurd (omega (arith, z))
      go own is (long fits enough) = (fits, enough)

  when_comes_out : (earliest_overfull (top_of tables.processor) tables.jobs ≡ none) × (2 * length tables.jobs ≤ length call.before)
      → (size : ℕ) × (call.answered ≡ Listed size)
  when_comes_out (fits, enough) = go (outcome call) refl own_way
    where
      go : (own : SetOutcome (List ℕ)) → outcome call ≡ own → Way tables (length call.before) own → (size : ℕ) × (call.answered ≡ Listed size)
      go own is (window w e) = let z : ◌≡◌ {A = ℕ} 0 1 = cc (sym fits ∙ e) in absurd (omega (arith, z))
      go own is (short fits' less) = absurd (omega (arith, less, enough))
      go own is (long fits' enough') = (_, (answer_as call own is).0)

  too_short : earliest_overfull (top_of tables.processor) tables.jobs ≡ none → length call.before < 2 * length tables.jobs
      → RefusedCall call 14 (2 * length tables.jobs)
  too_short fits less = go (outcome call) refl own_way
    where
      go : (own : SetOutcome (List ℕ)) → outcome call ≡ own → Way tables (length call.before) own → RefusedCall call 14 (2 * length tables.jobs)
      go own is (window w e) = let z : ◌≡◌ {A = ℕ} 0 1 = cc (sym fits ∙ e) in absurd (omega (arith, z))
      go own is (short fits' less') = refused_call call 14 (2 * length tables.jobs) is
      go own is (long fits' enough) = absurd (omega (arith, less, enough))

  -- an overfull window comes out
  module _ (start end : ℕ) (spare : ℤ) (told : call.answered ≡ Overfull start end spare) where
    -- it is the earliest one
    found_window : (earliest_overfull (top_of tables.processor) tables.jobs ≡ some (record { start = start; end = end }))
        × (spare ≡ spare_of (top_of tables.processor) tables.jobs start end) × (call.after ≡ call.before)
    found_window = go (outcome call) refl own_way
      where
        go : (own : SetOutcome (List ℕ)) → outcome call ≡ own → Way tables (length call.before) own
            → (earliest_overfull (top_of tables.processor) tables.jobs ≡ some (record { start = start; end = end }))
            × (spare ≡ spare_of (top_of tables.processor) tables.jobs start end) × (call.after ≡ call.before)
        go own is (window w e) =
            let starts : w.start ≡ start = cc (sym told ∙ (answer_as call own is).0) in
            let ends : w.end ≡ end = cc (sym told ∙ (answer_as call own is).0) in
            let spares : spare ≡ spare_of (top_of tables.processor) tables.jobs w.start w.end = cc (sym told ∙ (answer_as call own is).0) in
            (rw (← starts, ← ends) e, rw (← starts, ← ends) spares, (answer_as call own is).1)
        go own is (short fits less) = let z : ◌≡◌ {A = ℕ} 0 1 = cc (sym told ∙ (answer_as call own is).0) in absurd (omega (arith, z))
        go own is (long fits enough) = let z : ◌≡◌ {A = ℕ} 0 1 = cc (sym told ∙ (answer_as call own is).0) in absurd (omega (arith, z))

    no_list : NoList call start end spare
    no_list =
        let (found, is-spare, left) = found_window in
        let law = earliest_overfull_found (top_of tables.processor) tables.jobs (record { start = start; end = end }) found in
        let more = (overfull_iff (top_of tables.processor) tables.jobs start end).0 law.overfull in
        let (n, negative) = (spare_negative (top_of tables.processor) tables.jobs start end).0 law.overfull in
        record {
          tables = tables;
          read = read;
          needs_more = more;
          negative = (n, is-spare ∙ negative);
          no_schedule = never_served tables processor valid tables.jobs valid.release_before_deadline start end more;
          untouched = left;
        }

    -- planning answers the same window
    same_window : (mark_bytes ticks : List ℕ) → read_marks mark_bytes ≡ answer ticks → (plan_room price_room share_room : ℕ)
        → planning call.level_bytes call.job_bytes mark_bytes call.parameters plan_room price_room share_room ≡ planned start end spare
    unfolding planning plan_for
    same_window mark_bytes ticks marks_read plan_room price_room share_room =
        let (found, is-spare, left) = found_window in
        rw (site_read mark_bytes ticks marks_read, found, is-spare)
      where
        site_read : (mark_bytes ticks : List ℕ) → read_marks mark_bytes ≡ answer ticks
            → read_site call.level_bytes call.job_bytes mark_bytes call.parameters ≡ answer (site_of tables ticks)
        site_read mark_bytes ticks marks_read = tables_site call.level_bytes call.job_bytes mark_bytes call.parameters tables ticks read marks_read

pub nearest_to_trouble : NearestToTrouble
nearest_to_trouble =
    record {
      listed = comes-out;
      exactly_when = λ call tables read. (comes_out_when call tables read, when_comes_out call tables read);
      one_list = λ call tables read one two first second.
          let (processor, valid) = tables_are_valid call.level_bytes call.job_bytes call.parameters tables read in
          list_is tables processor valid one first ∙ sym (list_is tables processor valid two second);
      overfull_set = λ call start end spare told. let (tables, read) = window_read call start end spare told in no_list call tables read start end spare told;
      window_of_planning = λ call start end spare told. let (tables, read) = window_read call start end spare told in same_window call tables read start end spare told;
      short_list = too_short;
      tables_first = λ call number place e. refused_call call number place (refused_outcome call number place e);
      every_call = λ level_bytes job_bytes parameters before after given contract. (
        record {
          level_bytes = level_bytes;
          job_bytes = job_bytes;
          parameters = parameters;
          before = before;
          after = after;
          answered = given;
          contract = contract;
        },
        refl,
        refl,
        refl,
        refl,
        refl,
        refl,
      );
    }
  where
    -- a window says that the tables were read
    window_read : (call : NearestCall) (start end : ℕ) (spare : ℤ) → call.answered ≡ Overfull start end spare → (tables : Tables) × ReadAs call tables
    window_read call start end spare told = go (read_tables call.level_bytes call.job_bytes call.parameters) refl
      where
        go : (own : Outcome Tables) → read_tables call.level_bytes call.job_bytes call.parameters ≡ own → (tables : Tables) × ReadAs call tables
        go (refused number place) e =
            let z : ◌≡◌ {A = ℕ} 0 1 = cc (sym told ∙ (answer_as call (refusal number place) (refused_outcome call number place e)).0) in
            absurd (omega (arith, z))
        go (answer tables) e = (tables, e)
