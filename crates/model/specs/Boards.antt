-- Boards of one type: processors with the same working frequencies, whatever their voltages, their dropped levels and their idle
-- draw (document 02, Change 7, "One plan, many boards"). Stated for levels, jobs and bounds of any number. Proved in proofs/Boards.antt.
use Rattle.std.specs.Prelude.{ℕ, ◌≡◌, List, map}
use Rattle.model.specs.Outcome.{Outcome, answer, and_then}
use Rattle.model.specs.Points.{RisingPoints}
use Rattle.model.specs.Bands.{gap, scale}
use Rattle.model.specs.Processors.{Processor, all_points, working_of, top_of, read_processor}
use Rattle.model.specs.Setting.{setting_for}
use Rattle.model.specs.Sites.{Tables, Site}
use Rattle.model.specs.Windows.{spare_for}
use Rattle.model.specs.Plans.{Shares}
use Rattle.model.specs.Energy.{band_total}
use Rattle.model.specs.Checking.{figure_of, fits_for, check_for}
use Rattle.model.specs.Planning.{plan_for}

-- The working frequencies upward, after idling's, which is 0 on every board.
abbrev pub working_frequencies : Processor → List ℕ
working_frequencies processor = map (λ point. point.frequency) (working_of processor)

-- Those of a level table in bytes up to the highest running level allowed: refusals 1 to 5, 31, 32 and 35.
abbrev pub read_frequencies : (level_bytes : List ℕ) → (highest : ℕ) → Outcome (List ℕ)
read_frequencies level_bytes highest =
    and_then (read_processor level_bytes highest) λ processor.
    answer (working_frequencies processor)

-- The same jobs and bounds on a board.
abbrev pub on_board : Processor → Site → Site
on_board processor site = record { processor = processor; jobs = site.jobs; bounds = site.bounds }

-- An outcome with the figure of a plan on another board in place of its own.
abbrev pub with_figure_of : Site → (plan : List ℕ) → Outcome ℕ → Outcome ℕ
with_figure_of site plan outcome =
    and_then outcome λ figure.
    answer (figure_of site plan)

module _ (processor other : Processor) where
  -- What is alike on two boards.
  pub record Alike : Type 0 where
    pub tops : top_of other ≡ top_of processor
    -- every band has the same gap, and all gaps together are the same, by which energies are multiplied out
    pub gaps : (k : ℕ) → gap (working_of other) k ≡ gap (working_of processor) k
    pub scales : scale (working_of other) ≡ scale (working_of processor)
    -- a plan has the same cycles in each band
    pub bands : (site : Site) (shares : Shares) (k : ℕ)
        → band_total (working_of other) site.jobs site.bounds shares k ≡ band_total (working_of processor) site.jobs site.bounds shares k
    pub settings : (length load : ℕ) → setting_for other length load ≡ setting_for processor length load
    pub spares : (tables : Tables) (start end : ℕ)
        → spare_for (record { processor = other; jobs = tables.jobs }) start end ≡ spare_for (record { processor = processor; jobs = tables.jobs }) start end
    -- 11 to 14, and the window of 11
    pub plans : (site : Site) (plan_room price_room share_room : ℕ)
        → plan_for (on_board other site) plan_room price_room share_room ≡ plan_for (on_board processor site) plan_room price_room share_room
    -- a plan fits on both boards, or is refused on both by the same number and with the same place; the figure is the board's own
    pub fits : (site : Site) (plan : List ℕ)
        → fits_for (on_board other site) plan ≡ with_figure_of (on_board other site) plan (fits_for (on_board processor site) plan)
    -- the check refuses a plan and its prices on both boards, by the same number and with the same place, or accepts them on both;
    -- the figure is the board's own
    pub checks : (site : Site) (plan prices : List ℕ)
        → check_for (on_board other site) plan prices ≡ with_figure_of (on_board other site) plan (check_for (on_board processor site) plan prices)

-- Nothing but the working frequencies decides this.
abbrev pub BoardsAreAlike : Type 0
BoardsAreAlike =
    (processor other : Processor) → RisingPoints (all_points processor) → RisingPoints (all_points other)
    → working_frequencies processor ≡ working_frequencies other → Alike processor other
