-- The table of additions holds: each line is computed.
-- Assumes nothing.
use mathlib.Core.Path.{refl}
use Rattle.model.specs.Sum.{sum}
use Rattle.model.specs.Search.{some_below}
use Rattle.windows.specs.Additions.{released_from, is_new_release, additions_before, additions}
use Rattle.windows.specs.AdditionLines.{AdditionLines}

pub addition_lines : AdditionLines
unfolding additions additions_before released_from is_new_release sum some_below
addition_lines =
    record {
      no-jobs = refl;
      one-job = refl;
      two_equal = refl;
      three_equal = refl;
      listed = refl;
      listed_backwards = refl;
      two_releases_before = refl;
      two_releases = refl;
    }
