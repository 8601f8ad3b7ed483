-- One plan, many boards, over the tables in bytes and the calls themselves. What stands in quotes is document 02, Change 7. A board is
-- a level table with the highest running level that is allowed on it: "the working frequencies of Change 7 are those of the altered tables".
-- Proved in proofs/ManyBoards.antt.
use Rattle.std.specs.Prelude.{ℕ, ◌≡◌, ◌↔◌, List}
use Rattle.model.specs.declared.Parameters.{Parameters}
use Rattle.model.specs.Outcome.{refused, answer}
use Rattle.model.specs.Bands.{gap}
use Rattle.model.specs.Processors.{Processor, working_of, read_processor}
use Rattle.model.specs.Setting.{setting}
use Rattle.model.specs.Sites.{Site}
use Rattle.model.specs.Windows.{spare}
use Rattle.model.specs.Energy.{band_total}
use Rattle.model.specs.Steps.{shares_of}
use Rattle.model.specs.Checking.{fits, check, figure_of}
use Rattle.model.specs.Accepted.{LeastPlan}
use Rattle.model.specs.Planning.{planning}
use Rattle.model.specs.Demands.{ValidTables}
use Rattle.model.specs.Boards.{working_frequencies, read_frequencies}
use Rattle.planning.specs.PlanAnswers.{Plan, PlanContract}
use Rattle.ordering.specs.Ordering.{order}
use Rattle.nearest.specs.Nearest.{nearest}
use Rattle.demands.specs.ThreeDemands.{Call, plan_written, prices_written, SuchAPlan}

-- A board: the bytes of its level table, and the highest running level allowed on it.
pub record LimitedBoard : Type 0 where
  pub bytes : List ℕ
  pub highest : ℕ

-- Its parameters at a site that keeps so many ticks free, with such a margin.
abbrev pub on_site : LimitedBoard → (free margin : ℕ) → Parameters
on_site board free margin = record { highest = board.highest; free = free; margin = margin }

-- "with the same working frequencies": both level tables are read and have as many running levels as are allowed, and with these they
-- have the same working frequencies. "Other voltages and idle draw [are] allowed", and other levels that are dropped or not allowed.
abbrev pub SameWorkingFrequencies : (one two : LimitedBoard) → Type 0
SameWorkingFrequencies one two =
    (frequencies : List ℕ) × (read_frequencies one.bytes one.highest ≡ answer frequencies) × (read_frequencies two.bytes two.highest ≡ answer frequencies)

-- What a plan with its price list is on a board.
pub record ServesOn (level_bytes job_bytes mark_bytes : List ℕ) (parameters : Parameters) (plan prices : List ℕ) : Type 0 where
  pub site : Site
  pub tables : ValidTables level_bytes job_bytes mark_bytes parameters site
  -- "the same price list is accepted there", and "the energy figure is worked out per board"
  pub accepted : check level_bytes job_bytes mark_bytes parameters plan prices ≡ answer (figure_of site plan)
  -- "a least-energy plan": it gives each job its cycles and, carried out on this board's levels, meets all deadlines with its exact
  -- energy on this board; and no schedule over these levels that meets all deadlines has less
  pub such_a_plan : SuchAPlan site plan (figure_of site plan)
  pub least : LeastPlan site plan (figure_of site plan)

-- What is the same, whichever of two boards it is asked of.
pub record SameOnBoth (one two : LimitedBoard) : Type 0 where
  -- a refusal of a plan and its prices, 15 to 24, or of the jobs, the marks, the free ticks and the margin, is the same refusal with the same place
  pub refusals : (jobs marks : List ℕ) (free margin : ℕ) (plan prices : List ℕ) (number place : ℕ)
      → (check one.bytes jobs marks (on_site one free margin) plan prices ≡ refused number place) ↔ (check two.bytes jobs marks (on_site two free margin) plan prices ≡ refused number place)
  -- and a plan that does not fit, without prices, is refused alike
  pub unfitting : (jobs marks : List ℕ) (free margin : ℕ) (plan : List ℕ) (number place : ℕ)
      → (fits one.bytes jobs marks (on_site one free margin) plan ≡ refused number place) ↔ (fits two.bytes jobs marks (on_site two free margin) plan ≡ refused number place)
  -- the reader's clock, for every interval; the spare of every window; the jobs with their rooms; a plan's bytes in cell order
  pub settings : (length load : ℕ) → setting one.bytes one.highest length load ≡ setting two.bytes two.highest length load
  pub spares : (jobs : List ℕ) (free margin : ℕ) (start end : ℕ) → spare one.bytes jobs (on_site one free margin) start end
      ≡ spare two.bytes jobs (on_site two free margin) start end
  pub nearests : (jobs : List ℕ) (free margin room : ℕ) → nearest one.bytes jobs (on_site one free margin) room
      ≡ nearest two.bytes jobs (on_site two free margin) room
  pub orders : (jobs marks : List ℕ) (free margin : ℕ) (plan prices : List ℕ) (room : ℕ)
      → order one.bytes jobs marks (on_site one free margin) plan prices room ≡ order two.bytes jobs marks (on_site two free margin) plan prices room
  -- whether a plan comes out, and otherwise the refusal, or the window of 11 with its spare
  pub plans : (jobs marks : List ℕ) (free margin : ℕ) (plan_room price_room share_room : ℕ)
      → planning one.bytes jobs marks (on_site one free margin) plan_room price_room share_room ≡ planning two.bytes jobs marks (on_site two free margin) plan_room price_room share_room
  -- every band's gap, and the cycles that a plan has in it: of the figure only powers are the board's own
  pub bands : (jobs marks : List ℕ) (free margin : ℕ) (site other : Site)
      → ValidTables one.bytes jobs marks (on_site one free margin) site → ValidTables two.bytes jobs marks (on_site two free margin) other
      → (plan : List ℕ) (k : ℕ)
      → (gap (working_of site.processor) k ≡ gap (working_of other.processor) k)
      × (band_total (working_of site.processor) site.jobs site.bounds (shares_of plan) k
      ≡ band_total (working_of other.processor) other.jobs other.bounds (shares_of plan) k)

-- The board of a call of planning, and the call's parameters with another board in place of it.
abbrev pub board_of : Call → LimitedBoard
board_of call = record { bytes = call.level_bytes; highest = call.parameters.highest }

abbrev pub as_there : Call → LimitedBoard → Parameters
as_there call board = on_site board call.parameters.free call.parameters.margin

pub record OnePlanManyBoards : Type 0 where
  -- "a plan accepted with its prices for one level table is a least-energy plan for every table with the same working frequencies, ..
  -- and .. the same price list is accepted there": with the same marks, free ticks and margin
  pub serves : (one two : LimitedBoard) → SameWorkingFrequencies one two
      → (jobs marks : List ℕ) (free margin : ℕ) (plan prices : List ℕ) (figure : ℕ)
      → check one.bytes jobs marks (on_site one free margin) plan prices ≡ answer figure
      → ServesOn two.bytes jobs marks (on_site two free margin) plan prices
  -- so is a plan that planning writes for one of them, with the prices that it writes
  pub planned : (call : Call) (two : LimitedBoard) → SameWorkingFrequencies (board_of call) two
      → (intervals steps energy : ℕ) → call.answered ≡ Plan intervals steps energy
      → ServesOn two.bytes call.job_bytes call.mark_bytes (as_there call two) (plan_written call steps) (prices_written call intervals)
  -- and planning may write the same bytes for the other: its whole promise holds of them there, with that board's figure
  pub written_for_both : (call : Call) (two : LimitedBoard) → SameWorkingFrequencies (board_of call) two
      → (intervals steps energy : ℕ) → call.answered ≡ Plan intervals steps energy
      → (other : Site) → ValidTables two.bytes call.job_bytes call.mark_bytes (as_there call two) other
      → PlanContract two.bytes call.job_bytes call.mark_bytes (as_there call two) call.before call.after
      (Plan intervals steps (figure_of other (plan_written call steps)))
  -- what is the same on both
  pub same : (one two : LimitedBoard) → SameWorkingFrequencies one two → SameOnBoth one two
  -- every two tables that are read, up to levels that they have, with the same working frequencies are such boards: nothing more is asked
  -- of them
  pub every_pair : (one two : LimitedBoard) (processor other : Processor)
      → read_processor one.bytes one.highest ≡ answer processor → read_processor two.bytes two.highest ≡ answer other
      → working_frequencies processor ≡ working_frequencies other → SameWorkingFrequencies one two
