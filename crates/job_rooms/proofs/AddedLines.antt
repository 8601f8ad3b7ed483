-- The table of rooms holds: each line is computed.
-- Assumes nothing.
use mathlib.Core.Path.{refl}
use Rattle.model.specs.Sum.{sum}
use Rattle.model.specs.Entries.{list_of}
use Rattle.model.specs.Search.{some_below, first_from, least_below}
use Rattle.model.specs.Windows.{cycles_inside, is_overfull, overfull_to, earliest_start, earliest_end, earliest_overfull}
use Rattle.job_rooms.specs.AddedCycles.{with_added, room_of}
use Rattle.job_rooms.specs.AddedLines.{AddedLines}

pub added_lines : AddedLines
unfolding room_of with_added earliest_overfull earliest_start earliest_end overfull_to is_overfull cycles_inside sum some_below first_from least_below list_of
added_lines =
    record {
      no-jobs = refl;
      one-job = refl;
      full = refl;
      listed = refl;
      tied = refl;
      not_its_own = refl;
      one-release = refl;
      two_classes = refl;
      longer_window = refl;
      apart = refl;
    }
