-- Every line of the table holds, by computing the definitions.
-- Assumes nothing.
use mathlib.Core.Path.{refl}
use Rattle.model.specs.Outcome.{by_entry_from}
use Rattle.model.specs.Bytes.{number_at, bytes_of}
use Rattle.model.specs.Entries.{list_of, encode_each}
use Rattle.model.specs.Levels.{fault_of_level}
use Rattle.model.specs.LevelTables.{running_fault, table_fault, read_levels, level_at, encode_levels}
use Rattle.model.specs.Jobs.{read_jobs, job_at, fault_of_job, encode_jobs}
use Rattle.model.specs.Sum.{sum, product}
use Rattle.model.specs.Search.{some_below, first_from, least_below}
use Rattle.model.specs.Points.{points, drops, dropped, select_from, working}
use Rattle.model.specs.Bands.{gap, rise, scale, price}
use Rattle.model.specs.Setting.{band_of, setting_of, setting}
use Rattle.model.specs.Marks.{read_marks, encode_marks, insert_marks, bounds_with}
use Rattle.model.specs.Intervals.{earliest_release, latest_deadline, insert_time, bounds_of, length_of, is_open, open_count, open_pairs}
use Rattle.model.specs.Windows.{cycles_inside, spare_of, is_overfull, overfull_to, earliest_start, earliest_end, earliest_overfull, spare}
use Rattle.model.specs.Plans.{load}
use Rattle.model.specs.Energy.{band_cycles, interval_energy, exact_energy, band_total, energy_figure}
use Rattle.model.specs.Prices.{fits_load}
use Rattle.model.specs.Steps.{step_at, job_sum, shares_of}
use Rattle.model.specs.PriceBytes.{prices_of}
use Rattle.model.specs.Sites.{read_given, alter_tables, read_tables, read_site}
use Rattle.model.specs.SiteParameters.{alter_levels, margin_on, altered_job, altered_fault, alter_jobs, as_given}
use Rattle.model.specs.Checking.{step_fault, job_sum_fault, load_fault, fitting, entry_fault, price_fault, cheaper_fault, pricing, fits_for, fits, check_for, check}
use Rattle.model.specs.Planning.{step_limit, plan_for, planning}
use Rattle.model.specs.ParameterLines.{ParameterLines}

pub parameter_lines : ParameterLines
unfolding read_marks encode_marks insert_marks bounds_with earliest_release latest_deadline read_given alter_levels margin_on altered_job altered_fault alter_jobs as_given alter_tables read_tables by_entry_from number_at bytes_of list_of encode_each read_levels level_at fault_of_level running_fault table_fault encode_levels read_jobs job_at fault_of_job encode_jobs sum product some_below first_from least_below points drops dropped select_from working gap rise scale price band_of setting_of setting insert_time bounds_of length_of cycles_inside spare_of is_overfull overfull_to earliest_start earliest_end earliest_overfull spare load band_cycles interval_energy exact_energy band_total energy_figure is_open fits_load step_at shares_of prices_of step_fault job_sum job_sum_fault load_fault fitting entry_fault price_fault cheaper_fault pricing read_site fits_for fits check_for check open_count open_pairs step_limit plan_for planning
parameter_lines =
    record {
      no_level = refl;
      one_level = refl;
      all_levels = refl;
      level_past = refl;
      one_after_idle = refl;
      all_after_idle = refl;
      past_after_idle = refl;
      one_tick_left = refl;
      emptied = refl;
      second_emptied = refl;
      more_than_the_deadline = refl;
      rounded_up = refl;
      just_whole = refl;
      one_above = refl;
      doubled = refl;
      just_enough = refl;
      too_many = refl;
      free_in_range = refl;
      free_out_of_range = refl;
      margin_out_of_range = refl;
      range_first = refl;
      marks_first = refl;
      before_the_plan = refl;
      job_before_the_plan = refl;
      set_lower = refl;
      spare_lower = refl;
      overfull_lower = refl;
      plans_altered = refl;
      accepted_altered = refl;
      refused_as_given = refl;
      refused_without_free = refl;
      refused_overfull = refl;
    }
