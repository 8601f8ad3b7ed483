-- Document 01's listing, by computing the definitions: for T and jobs 0 4 6 and 2 3 4 the eight lines are the bytes of the text;
-- further the lines of a window that is overfull and of a site without jobs.
-- Assumes nothing.
use mathlib.Core.Path.{◌≡◌, refl}
use mathlib.Core.List.{List, [], ◌∷◌}
use Prim.Native.Nat.{ℕ, zero, suc}
use lib.IntN.{negsuc}
use Rattle.model.specs.declared.Job.{Job}
use Rattle.model.specs.Entries.{encode_each, joined}
use Rattle.model.specs.Search.{first_from, some_below}
use Rattle.model.specs.Sum.{sum}
use Rattle.model.specs.Points.{points, drops, dropped, select_from, working}
use Rattle.model.specs.Bands.{gap}
use Rattle.model.specs.Setting.{band_of, setting_of}
use Rattle.model.specs.Intervals.{insert_time, bounds_of}
use Rattle.model.specs.Marks.{insert_marks, bounds_with}
use Rattle.model.specs.Processors.{processor_of}
use Rattle.model.specs.Sites.{site_of}
use Rattle.model.specs.Prices.{PriceList}
use Rattle.model.specs.SiteLines.{T, job, listed_shares}
use Rattle.writing.specs.StepList.{step_of, steps_of}
use Rattle.listing_lines.specs.TextLines.{places_of, decimal, signed_decimal, line, overfull_line, refused_line}
use Rattle.listing_lines.specs.PlanText.{span_line, step_line, span_lines, step_lines, plan_text, text_of_plan}

abbrev listed_jobs : List Job
listed_jobs = job 0 4 6 ∷ job 2 3 4 ∷ []

-- the prices 1 2 1
abbrev prices : PriceList
prices zero = 1
prices (suc zero) = 2
prices (suc (suc i)) = 1

abbrev eight_lines : List ℕ
eight_lines =
    -- sizes 2 3 3
    115 ∷ 105 ∷ 122 ∷ 101 ∷ 115 ∷ 32 ∷ 50 ∷ 32 ∷ 51 ∷ 32 ∷ 51 ∷ 10
    -- span 0 2 4 1 4 2 1
    ∷ 115 ∷ 112 ∷ 97 ∷ 110 ∷ 32 ∷ 48 ∷ 32 ∷ 50 ∷ 32 ∷ 52 ∷ 32 ∷ 49 ∷ 32 ∷ 52 ∷ 32 ∷ 50 ∷ 32 ∷ 49 ∷ 10
    -- span 2 3 4 2 2 2 2
    ∷ 115 ∷ 112 ∷ 97 ∷ 110 ∷ 32 ∷ 50 ∷ 32 ∷ 51 ∷ 32 ∷ 52 ∷ 32 ∷ 50 ∷ 32 ∷ 50 ∷ 32 ∷ 50 ∷ 32 ∷ 50 ∷ 10
    -- span 3 4 2 1 2 2 1
    ∷ 115 ∷ 112 ∷ 97 ∷ 110 ∷ 32 ∷ 51 ∷ 32 ∷ 52 ∷ 32 ∷ 50 ∷ 32 ∷ 49 ∷ 32 ∷ 50 ∷ 32 ∷ 50 ∷ 32 ∷ 49 ∷ 10
    -- step 0 0 4
    ∷ 115 ∷ 116 ∷ 101 ∷ 112 ∷ 32 ∷ 48 ∷ 32 ∷ 48 ∷ 32 ∷ 52 ∷ 10
    -- step 1 1 4
    ∷ 115 ∷ 116 ∷ 101 ∷ 112 ∷ 32 ∷ 49 ∷ 32 ∷ 49 ∷ 32 ∷ 52 ∷ 10
    -- step 2 0 2
    ∷ 115 ∷ 116 ∷ 101 ∷ 112 ∷ 32 ∷ 50 ∷ 32 ∷ 48 ∷ 32 ∷ 50 ∷ 10
    -- energy 2200
    ∷ 101 ∷ 110 ∷ 101 ∷ 114 ∷ 103 ∷ 121 ∷ 32 ∷ 50 ∷ 50 ∷ 48 ∷ 48 ∷ 10
    ∷ []

pub listing_of_document : text_of_plan (site_of (record { processor = processor_of T; jobs = listed_jobs }) []) prices listed_shares 3 2_200 ≡ eight_lines
unfolding encode_each first_from some_below sum points drops dropped select_from working gap band_of setting_of insert_time bounds_of insert_marks bounds_with joined step_of steps_of places_of decimal line span_line step_line span_lines step_lines plan_text
listing_of_document = refl

-- no jobs: sizes 0 0 0, energy 0
pub listing_without_jobs : text_of_plan (site_of (record { processor = processor_of T; jobs = [] }) []) prices listed_shares 0 0
    ≡ 115 ∷ 105 ∷ 122 ∷ 101 ∷ 115 ∷ 32 ∷ 48 ∷ 32 ∷ 48 ∷ 32 ∷ 48 ∷ 10 ∷ 101 ∷ 110 ∷ 101 ∷ 114 ∷ 103 ∷ 121 ∷ 32 ∷ 48 ∷ 10 ∷ []
unfolding encode_each first_from sum bounds_of insert_marks bounds_with joined steps_of places_of decimal line span_lines step_lines plan_text
listing_without_jobs = refl

-- T, one job 0 1 with 5 cycles: overfull 0 1 -1
pub listing_overfull : overfull_line 0 1 (negsuc 0) ≡ 111 ∷ 118 ∷ 101 ∷ 114 ∷ 102 ∷ 117 ∷ 108 ∷ 108 ∷ 32 ∷ 48 ∷ 32 ∷ 49 ∷ 32 ∷ 45 ∷ 49 ∷ 10 ∷ []
unfolding encode_each first_from places_of decimal signed_decimal overfull_line
listing_overfull = refl

-- two empty files: refused 1 0
pub listing_refused : refused_line 1 0 ≡ 114 ∷ 101 ∷ 102 ∷ 117 ∷ 115 ∷ 101 ∷ 100 ∷ 32 ∷ 49 ∷ 32 ∷ 48 ∷ 10 ∷ []
unfolding encode_each first_from places_of decimal line
listing_refused = refl
