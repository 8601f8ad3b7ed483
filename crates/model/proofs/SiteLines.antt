-- Every line of the table holds, by computing the definitions.
-- Assumes nothing.
use mathlib.Core.Path.{◌≡◌, refl, ap}
use mathlib.Core.Bool.{true}
use mathlib.Core.List.{[], ◌∷◌}
use Prim.Native.Nat.{ℕ}
use borrow.Author.Tests.{eqb-true}
use Rattle.model.specs.SiteLines.{job, T, full, p_lines, worked_lines, same_number, holds, all_hold}
use Rattle.model.specs.ChangeLines.{draw_lines, mark_lines, board_lines, halves_plan, early_plan, half_lines, limit_lines}
use Rattle.model.specs.Outcome.{Outcome, refused, answer, by_entry_from}
use Rattle.model.specs.Bytes.{number_at, bytes_of}
use Rattle.model.specs.Entries.{list_of, encode_each}
use Rattle.model.specs.Levels.{fault_of_level}
use Rattle.model.specs.LevelTables.{running_fault, table_fault, read_levels, level_at, encode_levels}
use Rattle.model.specs.Jobs.{read_jobs, job_at, fault_of_job, encode_jobs}
use Rattle.model.specs.Sum.{sum, product}
use Rattle.model.specs.Search.{some_below, first_from, least_below}
use Rattle.model.specs.Points.{points, drops, dropped, select_from, working}
use Rattle.model.specs.Bands.{gap, rise, scale, price}
use Rattle.model.specs.Setting.{band_of, setting_of, setting}
use Rattle.model.specs.Marks.{read_marks, encode_marks, insert_marks, bounds_with}
use Rattle.model.specs.Intervals.{earliest_release, latest_deadline, insert_time, bounds_of, length_of, is_open, open_count, open_pairs}
use Rattle.model.specs.Windows.{cycles_inside, spare_of, is_overfull, overfull_to, earliest_start, earliest_end, earliest_overfull, spare}
use Rattle.model.specs.Plans.{load}
use Rattle.model.specs.Energy.{band_cycles, interval_energy, exact_energy, band_total, energy_figure}
use Rattle.model.specs.Prices.{fits_load}
use Rattle.model.specs.Steps.{step_at, job_sum, shares_of}
use Rattle.model.specs.PriceBytes.{prices_of}
use Rattle.model.specs.Sites.{read_given, alter_tables, read_tables, read_site}
use Rattle.model.specs.SiteParameters.{alter_levels, margin_on, altered_job, altered_fault, alter_jobs, as_given}
use Rattle.model.specs.Checking.{
  step_fault,
  job_sum_fault,
  load_fault,
  fitting,
  entry_fault,
  price_fault,
  cheaper_fault,
  pricing,
  fits_for,
  fits,
  check_for,
  check,
}
use Rattle.model.specs.Planning.{step_limit, plan_for, planning}
use Rattle.model.proofs.Numbers.{both_true}

pub lines_hold : (all_hold p_lines ≡ true) × (all_hold worked_lines ≡ true) × (all_hold draw_lines ≡ true) × (all_hold mark_lines ≡ true)
    × (all_hold board_lines ≡ true) × (all_hold half_lines ≡ true) × (all_hold limit_lines ≡ true)
unfolding all_hold same_number holds p_lines worked_lines draw_lines mark_lines board_lines half_lines limit_lines read_marks encode_marks insert_marks bounds_with earliest_release latest_deadline read_given alter_levels margin_on altered_job altered_fault alter_jobs as_given alter_tables read_tables by_entry_from number_at bytes_of list_of encode_each read_levels level_at fault_of_level running_fault table_fault encode_levels read_jobs job_at fault_of_job encode_jobs sum product some_below first_from least_below points drops dropped select_from working gap rise scale price band_of setting_of setting insert_time bounds_of length_of cycles_inside spare_of is_overfull overfull_to earliest_start earliest_end earliest_overfull spare load band_cycles interval_energy exact_energy band_total energy_figure is_open fits_load step_at shares_of prices_of step_fault job_sum job_sum_fault load_fault fitting entry_fault price_fault cheaper_fault pricing read_site fits_for fits check_for check open_count open_pairs step_limit plan_for planning
lines_hold = (refl, refl, refl, refl, refl, refl, refl)

-- an outcome that a line says to be a number is that answer
answered : (outcome : Outcome ℕ) (wanted : ℕ) → same_number outcome wanted ≡ true → outcome ≡ answer wanted
unfolding same_number
answered (refused number place) wanted e = cc e
answered (answer n) wanted e = ap answer (eqb-true n wanted e)

-- The first two lines of Change 8, as equations: two plans that fit the same tables, with figures of 1,600 and 400.
pub two_plans_fit : (fits (encode_levels T) (encode_jobs (job 0 2 4 ∷ [])) (encode_marks (1 ∷ [])) (full T) early_plan ≡ answer 1_600)
    × (fits (encode_levels T) (encode_jobs (job 0 2 4 ∷ [])) (encode_marks (1 ∷ [])) (full T) halves_plan ≡ answer 400)
unfolding all_hold holds half_lines
two_plans_fit =
    let (early, lines) = both_true _ _ lines_hold.5 in
    let (halves, lines) = both_true _ _ lines in
    (answered _ 1_600 early, answered _ 400 halves)
