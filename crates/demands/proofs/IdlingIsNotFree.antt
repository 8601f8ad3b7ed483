-- Idling is not free, over the tables in bytes and the calls themselves.
-- Assumes nothing.
use mathlib.Core.Path.{◌≡◌, refl, sym, ◌∙◌, ap, ap₂, subst}
use mathlib.Core.Bool.{true, false}
use mathlib.Core.Logic.{◌⊎◌, inl, inr}
use mathlib.Core.List.{List, [], ◌∷◌}
use Prim.Native.Nat.{ℕ, ◌*◌, ◌≤◌}
use native.Mathlib.Omega.{arith}
use lib.ListN.{length}
use borrow.Author.Tests.{eqb-true}
use Rattle.model.specs.declared.Level.{Level}
use Rattle.model.specs.declared.Job.{Job}
use Rattle.model.specs.declared.Parameters.{Parameters}
use Rattle.model.specs.Outcome.{Outcome, refused, answer, and_then}
use Rattle.model.specs.Bytes.{IsBytes}
use Rattle.model.specs.Levels.{ValidLevels}
use Rattle.model.specs.Jobs.{read_jobs}
use Rattle.model.specs.LevelTables.{begins_idle, idle_entry, idle_power_of, running_levels, read_levels, ValidLevelTable, DrawFits, encode_levels}
use Rattle.model.specs.SiteParameters.{alter_levels, alter_jobs}
use Rattle.model.specs.Marks.{read_marks}
use Rattle.model.specs.Processors.{Processor, processor_of, processor_up_to, read_processor}
use Rattle.model.specs.Setting.{setting}
use Rattle.model.specs.Sites.{read_given, Tables, tables_of, alter_tables, read_tables, site_of, read_site}
use Rattle.model.specs.Windows.{spare}
use Rattle.model.proofs.Numbers.{true_or_false}
use Rattle.model.proofs.Outcome.{and_then_answered, answer_injective}
use Rattle.model.proofs.Points.{power_some, points_rise}
use Rattle.model.proofs.LevelTables.{running_length, plain_begins, plain_table, idle_table, levels_read_back}
use Rattle.model.proofs.SiteParameters.{same_up_to}
use Rattle.model.proofs.Sites.{sites_are_valid, as_given_processor}
use Rattle.model.proofs.IdleDraw.{idling_is_a_point, draw_keeps_levels, energies_gain_the_draw, schedules_pay_the_draw, draw_moves_no_window}
use Rattle.reading.proofs.Encodings.{encodings_are_bytes}
use Rattle.nearest.specs.Nearest.{nearest}
use Rattle.demands.specs.IdlingIsNotFree.{TableOf, with_entry, without_entry, SameAnswers, IdlingIsNotFree}
use Rattle.demands.proofs.SameSites.{contract_kept, fits_kept, checks_kept, orders_kept}
use Rattle.demands.proofs.RepeatedRounds.{repeated_rounds}

-- a valid table has an idle entry before its running levels, or none
table_of : (entries : List Level) → ValidLevelTable entries → DrawFits entries → TableOf (encode_levels entries) (processor_of entries)
table_of [] valid fits = absurd (omega (arith, valid.running.some, running_length []))
table_of (first ∷ rest) valid fits = go (true_or_false (begins_idle (first ∷ rest)))
  where
    go : (begins_idle (first ∷ rest) ≡ true) ⊎ (begins_idle (first ∷ rest) ≡ false) → TableOf (encode_levels (first ∷ rest)) (processor_of (first ∷ rest))
    go (inl idle) =
        let drawn : idle_power_of (first ∷ rest) ≡ 1_000 * first.voltage = rw idle in
        let runs : running_levels (first ∷ rest) ≡ rest = rw idle in
        let none : first.frequency ≡ 0 = eqb-true _ _ idle in
        let entry : first ≡ idle_entry first.voltage = ap (λ (f : ℕ). record { frequency = f; voltage = first.voltage }) none in
        with_entry first.voltage
        (record {
          valid = valid.running;
          few = rw runs (omega (arith, valid.few));
          draw_fits = omega (arith, drawn, fits);
          draw_low = omega (arith, drawn, valid.draw_low);
        })
        drawn
        (ap encode_levels (ap₂ (λ (level : Level) (levels : List Level). level ∷ levels) entry (sym runs)))
    go (inr runs) = without_entry valid.running (rw runs) (rw runs)

-- and such bytes are read so
module _ (bytes : List ℕ) (small : IsBytes bytes) (processor : Processor) where
  -- the processor of the entries as they are given
  abbrev given_processor : Outcome Processor
  given_processor =
      and_then (read_levels bytes) λ entries.
      answer (processor_of entries)

  read_table : given_processor ≡ answer processor → TableOf bytes processor
  read_table e =
      let (entries, read, is) = and_then_answered (read_levels bytes) _ e in
      let (valid, fits, encoded) = (levels_read_back bytes entries small).0 read in
      subst (TableOf bytes) (answer_injective is)
      (subst (λ (encoding : List ℕ). TableOf encoding (processor_of entries)) (sym encoded) (table_of entries valid fits))

  table_read : TableOf bytes processor → given_processor ≡ answer processor
  table_read (with_entry draw board drawn encoded) =
      let (valid, fits) = idle_table draw processor.levels board.valid board.few board.draw_fits board.draw_low in
      rw ((levels_read_back bytes _ small).1 (valid, fits, encoded))
      (ap (λ (power : ℕ). answer (record { idle_power = power; levels = processor.levels })) (sym drawn))
  table_read (without_entry valid drawn encoded) =
      let (table, fits) = plain_table processor.levels valid in
      rw ((levels_read_back bytes _ small).1 (table, fits, encoded), plain_begins processor.levels valid)
      (ap (λ (power : ℕ). answer (record { idle_power = power; levels = processor.levels })) (sym drawn))

-- Two level tables whose altered levels make the same processor have the same answers.
module _ (one two : List ℕ) (entries others : List Level) (read_one : read_levels one ≡ answer entries) (read-two : read_levels two ≡ answer others)
    (same : (highest : ℕ) → processor_up_to highest entries ≡ processor_up_to highest others) where
  processors : (highest : ℕ) → read_processor one highest ≡ read_processor two highest
  processors highest = rw (read_one, read-two) (same highest)

  altered : (parameters : Parameters) (jobs : List Job)
      → alter_tables parameters (record { levels = entries; jobs = jobs }) ≡ alter_tables parameters (record { levels = others; jobs = jobs })
  unfolding alter_tables
  altered parameters jobs =
      after (alter_levels parameters.highest entries) ∙ ap next (same parameters.highest) ∙ sym (after (alter_levels parameters.highest others))
    where
      next : Outcome Processor → Outcome Tables
      next outcome =
          and_then outcome λ processor.
          and_then (alter_jobs parameters.free parameters.margin jobs) λ altered.
          answer (record { processor = processor; jobs = altered })

      after : (levels : Outcome (List Level))
          → (and_then levels λ levels.
          and_then (alter_jobs parameters.free parameters.margin jobs) λ altered.
          answer (tables_of (record { levels = levels; jobs = altered })))
          ≡ next (and_then levels λ levels. answer (processor_of levels))
      after (refused number place) = refl
      after (answer levels) = refl

  tables : (jobs : List ℕ) (parameters : Parameters) → read_tables one jobs parameters ≡ read_tables two jobs parameters
  unfolding read_tables read_given
  tables jobs parameters = rw (read_one, read-two) (go (read_jobs jobs))
    where
      go : (jobs_read : Outcome (List Job))
          → and_then (and_then jobs_read (λ jobs. answer (record { levels = entries; jobs = jobs }))) (alter_tables parameters)
          ≡ and_then (and_then jobs_read (λ jobs. answer (record { levels = others; jobs = jobs }))) (alter_tables parameters)
      go (refused number place) = refl
      go (answer jobs) = altered parameters jobs

  sites : (jobs marks : List ℕ) (parameters : Parameters) → read_site one jobs marks parameters ≡ read_site two jobs marks parameters
  unfolding read_site read_given
  sites jobs marks parameters = rw (read_one, read-two) (go (read_jobs jobs) (read_marks marks))
    where
      go : (jobs_read : Outcome (List Job)) (marks_read : Outcome (List ℕ))
          → (and_then (and_then jobs_read (λ jobs. answer (record { levels = entries; jobs = jobs }))) λ given.
          and_then marks_read λ ticks.
          and_then (alter_tables parameters given) λ tables.
          answer (site_of tables ticks))
          ≡ (and_then (and_then jobs_read (λ jobs. answer (record { levels = others; jobs = jobs }))) λ given.
          and_then marks_read λ ticks.
          and_then (alter_tables parameters given) λ tables.
          answer (site_of tables ticks))
      go (refused number place) marks_read = refl
      go (answer jobs) (refused number place) = refl
      go (answer jobs) (answer ticks) = rw (altered parameters jobs)

  same-answers : SameAnswers one two
  unfolding setting spare nearest
  same-answers =
      record {
        processors = processors;
        tables = tables;
        sites = sites;
        settings = λ highest length load. rw (processors highest);
        spares = λ jobs parameters start end. rw (tables jobs parameters);
        nearests = λ jobs parameters room. rw (tables jobs parameters);
        fitting = λ jobs marks parameters. fits_kept one jobs marks parameters two jobs marks parameters (sites jobs marks parameters);
        checks = λ jobs marks parameters. checks_kept one jobs marks parameters two jobs marks parameters (sites jobs marks parameters);
        orders = λ jobs marks parameters. orders_kept one jobs marks parameters two jobs marks parameters (sites jobs marks parameters);
        plans = λ jobs marks parameters before after answered. (
          contract_kept one jobs marks parameters two jobs marks parameters (sites jobs marks parameters) before after answered,
          contract_kept two jobs marks parameters one jobs marks parameters (sym (sites jobs marks parameters)) before after answered,
        );
      }

-- a draw of 0 makes the processor of the running levels alone
module _ (levels : List Level) (valid : ValidLevels levels) (few : length levels ≤ 7) where
  with_nothing : read_levels (encode_levels (idle_entry 0 ∷ levels)) ≡ answer (idle_entry 0 ∷ levels)
  with_nothing =
      let (table, fits) = idle_table 0 levels valid few (omega arith) (power_some levels valid) in
      (levels_read_back _ _ (encodings_are_bytes.0 (idle_entry 0 ∷ levels))).1 (table, fits, refl)

  without : read_levels (encode_levels levels) ≡ answer levels
  without = let (table, fits) = plain_table levels valid in (levels_read_back _ _ (encodings_are_bytes.0 levels)).1 (table, fits, refl)

  same_processor : processor_of (idle_entry 0 ∷ levels) ≡ processor_of levels
  same_processor = rw (plain_begins levels valid)

  nothing_drawn : SameAnswers (encode_levels (idle_entry 0 ∷ levels)) (encode_levels levels)
  nothing_drawn = same-answers _ _ _ _ with_nothing without (same_up_to (idle_entry 0 ∷ levels) levels same_processor)

pub idling_is_not_free : IdlingIsNotFree
idling_is_not_free =
    record {
      read = λ bytes small processor. (
        λ e. read_table bytes small processor (sym (as_given_processor bytes) ∙ e),
        λ table. as_given_processor bytes ∙ table_read bytes small processor table,
      );
      point = idling_is_a_point;
      gained = λ level_bytes job_bytes mark_bytes parameters site tables plan figure such.
          let valid = sites_are_valid level_bytes job_bytes mark_bytes parameters site tables in
          let gains = energies_gain_the_draw _ site.processor.levels site.jobs site.bounds valid.bounds _ in
          record { exact = gains.0; reported = such.energy-figure ∙ gains.1 };
      schedules_pay = λ site schedule. schedules_pay_the_draw _ _ _ schedule;
      between_repeats = λ laid length multiple told level_bytes mark_bytes parameters plan prices figure accepted site tables r.
          let repeated = repeated_rounds.checked laid length multiple told level_bytes mark_bytes parameters plan prices figure accepted site tables r in
          record {
            apart = repeated.apart;
            plan_pays = repeated.repeated_plan.energy;
            schedules_pay = λ schedule. schedules_pay_the_draw _ _ _ schedule;
          };
      keeps_levels = λ draw levels board.
          draw_keeps_levels 0 (1_000 * draw) (omega arith) levels (points_rise (1_000 * draw) levels board.valid board.draw_low);
      moves_no_window = draw_moves_no_window;
      draw_of_nothing = nothing_drawn;
    }
