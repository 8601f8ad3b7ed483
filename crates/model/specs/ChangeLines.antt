-- Lines of document 02's changes, in the form of SiteLines: Change 2 (idle draw), 6 (handover marks), 7 (boards), 8 (the check's
-- halves) and 10 (short plans). That every line holds is proved in proofs/SiteLines.antt, with those of document 01, by computing the definitions.
use Rattle.std.specs.Prelude.{ℕ, zero, suc, List, [], ◌∷◌}
use Rattle.model.specs.declared.Level.{Level}
use Rattle.model.specs.LevelTables.{idle_entry}
use Rattle.model.specs.BuiltIn.{level, first_built_in}
use Rattle.model.specs.Marks.{encode_marks, no_marks}
use Rattle.model.specs.Plans.{Shares}
use Rattle.model.specs.SiteLines.{
  job,
  T,
  SiteLine,
  reads,
  refuses_reading,
  sets,
  works,
  plans,
  idle_energy,
  accepts,
  refuses,
  needs,
  reads_marks,
  refuses_marks,
  cuts_at,
  plans_marked,
  wants_marked,
  accepts_marked,
  refuses_marked,
  fits_in,
  fails_in,
  listed_plan,
  listed_prices,
}

-- Levels 100 10 and 200 10 on a board that draws while it idles.
abbrev pub idles_at : (draw : ℕ) → List Level
idles_at draw = idle_entry draw ∷ level 100 10 ∷ level 200 10 ∷ []

-- The shares of a plan for jobs 0 2 150 and 5 6 100: 150 cycles in the first interval, 100 in the last.
abbrev pub draw_shares : Shares
draw_shares zero zero = 150
draw_shares zero (suc j) = 0
draw_shares (suc zero) j = 0
draw_shares (suc (suc i)) zero = 0
draw_shares (suc (suc i)) (suc j) = 100

-- Its bytes, and those of its prices.
abbrev pub draw_plan : List ℕ
draw_plan = 3 ∷ 0 ∷ 2 ∷ 0 ∷ 0 ∷ 0 ∷ 129 ∷ 0 ∷ 150 ∷ 0 ∷ 0 ∷ 0 ∷ 100 ∷ 0 ∷ 0 ∷ 0 ∷ []

abbrev pub draw_prices : List ℕ
draw_prices = 3 ∷ 0 ∷ 2 ∷ 0 ∷ 0 ∷ 0 ∷ 5 ∷ 0 ∷ 0 ∷ 0 ∷ 6 ∷ 0 ∷ 0 ∷ 0 ∷ 1 ∷ 1 ∷ 1 ∷ []

-- Lines of document 02, Change 2.
unfoldable pub draw_lines : List SiteLine
draw_lines =
    -- a draw of 9 is below the first running level's power, 10,000; a draw of 10 is not
    reads (idles_at 9)
    ∷ refuses_reading (idles_at 10) 32 1
    -- a draw is not a voltage: 65,535 may stand before 300
    ∷ reads (idle_entry 65_535 ∷ level 1_000 300 ∷ [])
    -- the idle entry stands alone, and a running level may
    ∷ refuses_reading (idle_entry 9 ∷ []) 31 0
    ∷ reads (level 100 10 ∷ [])
    -- frequency 0 is an idle entry in the first place alone
    ∷ refuses_reading (idle_entry 9 ∷ idle_entry 9 ∷ level 100 10 ∷ []) 4 1
    -- 100 works only because idling draws power
    ∷ works (idles_at 0) (200 ∷ [])
    ∷ works (idles_at 1) (100 ∷ 200 ∷ [])
    ∷ sets (idles_at 0) 2 150 1 150 200
    ∷ sets (idles_at 9) 2 150 1 150 100
    -- without load the draw is all: 9,000 for each of 6 ticks, those between the jobs too
    ∷ idle_energy (idles_at 9) (job 0 2 150 ∷ job 5 6 100 ∷ []) 54_000
    -- and with 250 cycles at price 10 the energy is 2,500 above it
    ∷ plans (idles_at 9) (job 0 2 150 ∷ job 5 6 100 ∷ []) 16 17 6
    ∷ needs (idles_at 9) (job 0 2 150 ∷ job 5 6 100 ∷ []) draw_shares 56_500 0 1
    ∷ accepts (idles_at 9) (job 0 2 150 ∷ job 5 6 100 ∷ []) draw_plan draw_prices 56_500
    -- first built-in table with a draw of 100, one job 0 2 with 401 cycles: 401 × 2,330,000 / 300 and 2 × 100,000
    ∷ needs (idle_entry 100 ∷ first_built_in) (job 0 2 401 ∷ []) (λ i j. 401) 3_314_433 1 3
    ∷ []

-- Job 0 2 of 4 cycles with a mark at 1: 2 cycles before it and 2 after it, in bytes, with the prices of both intervals.
abbrev pub halves_plan : List ℕ
halves_plan = 2 ∷ 0 ∷ 2 ∷ 0 ∷ 0 ∷ 0 ∷ 64 ∷ 0 ∷ 2 ∷ 0 ∷ 0 ∷ 0 ∷ 2 ∷ 0 ∷ 0 ∷ 0 ∷ []

abbrev pub halves_prices : List ℕ
halves_prices = 2 ∷ 0 ∷ 1 ∷ 0 ∷ 0 ∷ 0 ∷ 2 ∷ 0 ∷ 0 ∷ 0 ∷ 1 ∷ 1 ∷ []

-- Lines of document 02, Change 6.
unfoldable pub mark_lines : List SiteLine
mark_lines =
    -- no marks; 8 marks, one at 0 and one at the highest tick of 32 bits
    reads_marks no_marks []
    ∷ reads_marks (encode_marks (0 ∷ 1 ∷ 2 ∷ 3 ∷ 4 ∷ 5 ∷ 6 ∷ 4_294_967_295 ∷ [])) (0 ∷ 1 ∷ 2 ∷ 3 ∷ 4 ∷ 5 ∷ 6 ∷ 4_294_967_295 ∷ [])
    -- more than 8 marks; not rising; a wrong length
    ∷ refuses_marks (encode_marks (0 ∷ 1 ∷ 2 ∷ 3 ∷ 4 ∷ 5 ∷ 6 ∷ 7 ∷ 8 ∷ []))
    ∷ refuses_marks (encode_marks (2 ∷ 1 ∷ []))
    ∷ refuses_marks (encode_marks (1 ∷ 2 ∷ 2 ∷ []))
    ∷ refuses_marks []
    ∷ refuses_marks (0 ∷ [])
    ∷ refuses_marks (0 ∷ 0 ∷ 0 ∷ [])
    ∷ refuses_marks (1 ∷ 0 ∷ 7 ∷ 0 ∷ 0 ∷ [])
    -- from release 2 to deadline 6 the ticks 3 and 5 cut; 2, 6 and those outside do not, and 4 is a bound already
    ∷ cuts_at (job 2 4 1 ∷ job 4 6 1 ∷ []) (3 ∷ 5 ∷ []) (2 ∷ 3 ∷ 4 ∷ 5 ∷ 6 ∷ [])
    ∷ cuts_at (job 2 4 1 ∷ job 4 6 1 ∷ []) (0 ∷ 1 ∷ 2 ∷ 4 ∷ 6 ∷ 7 ∷ 1_000_001 ∷ []) (2 ∷ 4 ∷ 6 ∷ [])
    -- a mark in a stretch where no job is open; no jobs, no bounds
    ∷ cuts_at (job 0 1 1 ∷ job 5 6 1 ∷ []) (3 ∷ []) (0 ∷ 1 ∷ 3 ∷ 5 ∷ 6 ∷ [])
    ∷ cuts_at [] (3 ∷ []) []
    -- T, one job 0 2 of 4 cycles, a mark at 1: two intervals, and the same figure, 400, as with one
    ∷ plans_marked T (job 0 2 4 ∷ []) (1 ∷ []) 16 12 2
    ∷ wants_marked T (job 0 2 4 ∷ []) (1 ∷ []) 15 12 2 12 16
    ∷ wants_marked T (job 0 2 4 ∷ []) (1 ∷ []) 16 11 2 13 12
    ∷ wants_marked T (job 0 2 4 ∷ []) (1 ∷ []) 16 12 1 14 2
    ∷ accepts_marked T (job 0 2 4 ∷ []) (1 ∷ []) halves_plan halves_prices 400
    ∷ accepts T (job 0 2 4 ∷ []) (1 ∷ 0 ∷ 1 ∷ 0 ∷ 0 ∷ 0 ∷ 4 ∷ 0 ∷ 0 ∷ 0 ∷ []) (1 ∷ 0 ∷ 2 ∷ 0 ∷ 0 ∷ 0 ∷ 1 ∷ []) 400
    -- a plan for other marks has a wrong number of intervals
    ∷ refuses_marked T (job 0 2 4 ∷ []) (2 ∷ []) halves_plan halves_prices 16 0
    -- marks that fall are refused before the plan is looked at, and after the jobs were
    ∷ refuses_marked T (job 0 2 4 ∷ []) (1 ∷ 1 ∷ []) [] [] 34 0
    ∷ refuses_marked T (job 0 2 0 ∷ []) (1 ∷ 1 ∷ []) [] [] 10 0
    ∷ []

-- Boards for the jobs 0 4 6 and 2 3 4, beside T, whose working frequencies are 2 and 4. Powers 288 and 2,500, prices 144 and 1,106:
abbrev pub other_voltages : List Level
other_voltages = level 2 12 ∷ level 4 25 ∷ []

-- idling draws 1,000; powers 1,058, 2,700 and 3,600, and 3 is dropped; prices 29 and 1,271
abbrev pub draws_and_drops : List Level
draws_and_drops = idle_entry 1 ∷ level 2 23 ∷ level 3 30 ∷ level 4 30 ∷ []

-- the frequencies of T with powers 800 and 1,600, so that 2 is dropped
abbrev pub one_works : List Level
one_works = level 2 20 ∷ level 4 20 ∷ []

-- powers 1,200 and 3,600, prices 400 and 2,400, and a level 2 that is dropped
abbrev pub other_frequencies : List Level
other_frequencies = level 2 20 ∷ level 3 20 ∷ level 4 30 ∷ []

-- Lines of document 02, Change 7.
unfoldable pub board_lines : List SiteLine
board_lines =
    -- three boards of the same working frequencies: the plan and the prices that document 01 lists are accepted on each, with 8 cycles
    -- in the first band and 2 in the second, and each has a figure of its own
    works T (2 ∷ 4 ∷ [])
    ∷ accepts T (job 0 4 6 ∷ job 2 3 4 ∷ []) listed_plan listed_prices 2_200
    ∷ works other_voltages (2 ∷ 4 ∷ [])
    ∷ accepts other_voltages (job 0 4 6 ∷ job 2 3 4 ∷ []) listed_plan listed_prices 3_364
    ∷ works draws_and_drops (2 ∷ 4 ∷ [])
    ∷ accepts draws_and_drops (job 0 4 6 ∷ job 2 3 4 ∷ []) listed_plan listed_prices 6_774
    -- T's given frequencies are not enough: where 2 is dropped there is no second price
    ∷ works one_works (4 ∷ [])
    ∷ refuses one_works (job 0 4 6 ∷ job 2 3 4 ∷ []) listed_plan listed_prices 22 1
    -- and other working frequencies need not refuse: here 9 cycles are in the first band and 1 in the second
    ∷ works other_frequencies (3 ∷ 4 ∷ [])
    ∷ accepts other_frequencies (job 0 4 6 ∷ job 2 3 4 ∷ []) listed_plan listed_prices 6_000
    ∷ []

-- Job 0 2 of 4 cycles with a mark at 1: all 4 cycles before it, which that interval just takes, in bytes; and the prices that these
-- loads have.
abbrev pub early_plan : List ℕ
early_plan = 2 ∷ 0 ∷ 1 ∷ 0 ∷ 0 ∷ 0 ∷ 4 ∷ 0 ∷ 0 ∷ 0 ∷ []

abbrev pub early_prices : List ℕ
early_prices = 2 ∷ 0 ∷ 1 ∷ 0 ∷ 0 ∷ 0 ∷ 2 ∷ 0 ∷ 0 ∷ 0 ∷ 2 ∷ 1 ∷ []

-- Lines of document 02, Change 8.
unfoldable pub half_lines : List SiteLine
half_lines =
    -- a plan that fits is not always least: all cycles before the mark cost 1,600, and two on each side cost 400. Charged whole at the
    -- price of their band the first would cost 2,800
    fits_in T (job 0 2 4 ∷ []) (1 ∷ []) early_plan 1_600
    ∷ fits_in T (job 0 2 4 ∷ []) (1 ∷ []) halves_plan 400
    -- the check accepts the second, and refuses the first: with the prices of its loads by 24, with others by 23
    ∷ accepts_marked T (job 0 2 4 ∷ []) (1 ∷ []) halves_plan halves_prices 400
    ∷ refuses_marked T (job 0 2 4 ∷ []) (1 ∷ []) early_plan early_prices 24 0
    ∷ refuses_marked T (job 0 2 4 ∷ []) (1 ∷ []) early_plan halves_prices 23 0
    -- the plan of document 01's listing fits without its prices, with the same figure
    ∷ fits_in T (job 0 4 6 ∷ job 2 3 4 ∷ []) [] listed_plan 2_200
    -- 20 is the first half's: 5 cycles in one tick are above the top frequency, 4
    ∷ fails_in T (job 0 2 5 ∷ []) (1 ∷ []) (2 ∷ 0 ∷ 1 ∷ 0 ∷ 0 ∷ 0 ∷ 5 ∷ 0 ∷ 0 ∷ 0 ∷ []) 20 0
    -- 19, 17 and 15 come as in the check, and so do the tables' own; no jobs need no steps
    ∷ fails_in T (job 0 2 5 ∷ []) (1 ∷ []) early_plan 19 0
    ∷ fails_in T (job 0 1 4 ∷ []) [] (1 ∷ 0 ∷ 1 ∷ 0 ∷ 1 ∷ 0 ∷ 4 ∷ 0 ∷ 0 ∷ 0 ∷ []) 17 0
    ∷ fails_in T (job 0 2 4 ∷ []) (1 ∷ []) [] 15 0
    ∷ fails_in T (job 0 2 4 ∷ []) (1 ∷ 1 ∷ []) [] 34 0
    ∷ fits_in T [] [] (0 ∷ 0 ∷ 0 ∷ 0 ∷ []) 0
    ∷ []

-- Lines of document 02, Change 10.
unfoldable pub limit_lines : List SiteLine
limit_lines =
    -- T, jobs 0 4 6 and 2 3 4: 2 jobs, 3 intervals and 4 pairs, so that both numbers are 4
    plans_marked T (job 0 4 6 ∷ job 2 3 4 ∷ []) [] 28 17 6
    ∷ wants_marked T (job 0 4 6 ∷ job 2 3 4 ∷ []) [] 27 17 6 12 28
    -- one job after the other: 2 pairs, and 2 + 2 − 1 is 3
    ∷ plans_marked T (job 0 2 4 ∷ job 2 4 4 ∷ []) [] 16 12 4
    ∷ wants_marked T (job 0 2 4 ∷ job 2 4 4 ∷ []) [] 15 12 4 12 16
    -- two equal jobs with a mark between: 4 pairs, and 2 + 2 − 1 is 3
    ∷ plans_marked T (job 0 2 4 ∷ job 0 2 4 ∷ []) (1 ∷ []) 22 12 4
    ∷ wants_marked T (job 0 2 4 ∷ job 0 2 4 ∷ []) (1 ∷ []) 21 12 4 12 22
    -- three with two marks: 9 pairs, and 3 + 3 − 1 is 5
    ∷ plans_marked T (job 0 3 4 ∷ job 0 3 4 ∷ job 0 3 4 ∷ []) (1 ∷ 2 ∷ []) 34 17 9
    ∷ wants_marked T (job 0 3 4 ∷ job 0 3 4 ∷ job 0 3 4 ∷ []) (1 ∷ 2 ∷ []) 33 17 9 12 34
    -- one job in one interval; no jobs, with marks or without
    ∷ plans_marked T (job 0 2 4 ∷ []) [] 10 7 1
    ∷ wants_marked T (job 0 2 4 ∷ []) [] 9 7 1 12 10
    ∷ plans_marked T [] [] 4 2 0
    ∷ wants_marked T [] (3 ∷ []) 3 2 0 12 4
    ∷ []
