-- Every line of the table holds, by computing the definitions.
-- Assumes nothing.
use mathlib.Core.Path.{refl}
use Rattle.model.specs.Outcome.{by_entry_from}
use Rattle.model.specs.Bytes.{number_at, bytes_of}
use Rattle.model.specs.Entries.{list_of, encode_each, joined}
use Rattle.model.specs.Jobs.{read_jobs, job_at, fault_of_job, encode_jobs}
use Rattle.model.specs.SiteParameters.{margin_on, altered_job, altered_fault, alter_jobs}
use Rattle.model.specs.Search.{some_below, least_below}
use Rattle.model.specs.Intervals.{insert_time, bounds_of, is_open, earliest_release, latest_deadline}
use Rattle.model.specs.Marks.{read_marks, encode_marks, insert_marks, bounds_with}
use Rattle.model.specs.Steps.{step_at}
use Rattle.model.specs.Checking.{step_fault}
use Rattle.spans.specs.Spans.{touched}
use Rattle.touching.specs.Touching.{touching_for, touching}
use Rattle.touching.specs.TouchingLines.{TouchingLines}

pub lines_hold : TouchingLines
unfolding by_entry_from number_at bytes_of list_of encode_each joined read_jobs job_at fault_of_job encode_jobs margin_on altered_job altered_fault alter_jobs some_below least_below insert_time bounds_of is_open earliest_release latest_deadline read_marks encode_marks insert_marks bounds_with step_at step_fault touched touching_for touching
lines_hold =
    record {
      whole = refl;
      longest = refl;
      ends_at_release = refl;
      starts_at_deadline = refl;
      one_tick = refl;
      own_tick = refl;
      first_two = refl;
      last_two = refl;
      at_last_deadline = refl;
      past_all = refl;
      deadline_past_end = refl;
      no_tick = refl;
      falling = refl;
      too_late = refl;
      span_first = refl;
      jobs_next = refl;
      marks_next = refl;
      ranges_next = refl;
      emptied_next = refl;
      no_plan = refl;
      other-intervals = refl;
      not_open = refl;
      again = refl;
      no_cycles = refl;
      more_cycles = refl;
      unfinished = refl;
      open_short = refl;
      inside_short = refl;
      steps_short = refl;
      exact_room = refl;
      rest_stays = refl;
      up_to_the_mark = refl;
      from_the_mark = refl;
      over_the_mark = refl;
      no-jobs = refl;
      deadline_earlier = refl;
      not_as_given = refl;
    }
