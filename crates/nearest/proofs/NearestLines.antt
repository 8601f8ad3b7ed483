-- Every line of the table holds, by computing the definitions.
-- Assumes nothing.
use mathlib.Core.Path.{refl}
use Rattle.model.specs.Sum.{sum}
use Rattle.model.specs.Outcome.{by_entry_from}
use Rattle.model.specs.Bytes.{number_at, bytes_of}
use Rattle.model.specs.Entries.{list_of, encode_each, joined}
use Rattle.model.specs.Search.{some_below, first_from, least_below}
use Rattle.model.specs.Levels.{fault_of_level}
use Rattle.model.specs.LevelTables.{running_fault, table_fault, read_levels, level_at, encode_levels}
use Rattle.model.specs.Jobs.{read_jobs, job_at, fault_of_job, encode_jobs}
use Rattle.model.specs.SiteParameters.{margin_on, altered_job, altered_fault, alter_jobs, alter_levels}
use Rattle.model.specs.Sites.{read_given, alter_tables, read_tables}
use Rattle.model.specs.Windows.{cycles_inside, spare_of, is_overfull, overfull_to, earliest_start, earliest_end, earliest_overfull}
use Rattle.room_order.specs.RoomOrder.{place_of, job_at_place, room_list}
use Rattle.job_rooms.specs.AddedCycles.{with_added, room_of}
use Rattle.nearest.specs.Nearest.{list_fitting, nearest_for, nearest}
use Rattle.nearest.specs.NearestLines.{NearestLines}

pub lines_hold : NearestLines
unfolding nearest nearest_for list_fitting room_of with_added room_list job_at_place place_of read_tables alter_tables read_given alter_levels alter_jobs margin_on altered_job altered_fault read_levels level_at fault_of_level running_fault table_fault encode_levels read_jobs job_at fault_of_job encode_jobs by_entry_from number_at bytes_of list_of encode_each joined sum some_below first_from least_below cycles_inside spare_of is_overfull overfull_to earliest_start earliest_end earliest_overfull
lines_hold =
    record {
      listed_site = refl;
      no-jobs = refl;
      falling = refl;
      tied = refl;
      too_many = refl;
      exact_room = refl;
      one_short = refl;
      levels_first = refl;
      jobs_next = refl;
      ranges_next = refl;
      emptied_next = refl;
      first_level = refl;
      tick_free = refl;
      with-margin = refl;
      rest_stays = refl;
      all_stays = refl;
    }
