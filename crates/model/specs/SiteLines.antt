-- What a line of a computed table says, the lines of document 01's "Sites to try" that are marked P, as one table, and further lines
-- of that document. Lines of document 02 are in ChangeLines. That every line holds is one statement, proved in proofs/SiteLines.antt by
-- computing the definitions.
use Rattle.std.specs.Prelude.{ℕ, zero, suc, ◌+◌, ◌*◌, Bool, true, false, ◌&&◌, List, [], ◌∷◌, map, ℤ, pos, negsuc, eqb}
use Rattle.model.specs.declared.Level.{Level}
use Rattle.model.specs.declared.Job.{Job}
use Rattle.model.specs.declared.Parameters.{Parameters}
use Rattle.model.specs.Outcome.{Outcome, refused, answer}
use Rattle.model.specs.LevelTables.{read_levels, encode_levels}
use Rattle.model.specs.Jobs.{encode_jobs}
use Rattle.model.specs.SiteParameters.{as_given}
use Rattle.model.specs.BuiltIn.{level, first_built_in}
use Rattle.model.specs.Points.{Point}
use Rattle.model.specs.Processors.{working_of, processor_of}
use Rattle.model.specs.Setting.{Setting, setting}
use Rattle.model.specs.Intervals.{bounds_of, interval_count}
use Rattle.model.specs.Marks.{read_marks, encode_marks, no_marks, bounds_with}
use Rattle.model.specs.Windows.{spare}
use Rattle.model.specs.Bands.{scale}
use Rattle.model.specs.Plans.{Shares}
use Rattle.model.specs.Checking.{fits, check}
use Rattle.model.specs.Planning.{PlanOutcome, refusal, overfull, comes_out, planning}
use Rattle.model.specs.Energy.{interval_energy, exact_energy, energy_figure}

abbrev pub job : (release deadline cycles : ℕ) → Job
job release deadline cycles = record { release = release; deadline = deadline; cycles = cycles }

-- Level pair T: 2 at 10, 4 at 20.
abbrev pub T : List Level
T = level 2 10 ∷ level 4 20 ∷ []

-- The full count of running levels with 0 and 0, where a line names no parameters.
abbrev pub full : List Level → Parameters
full levels = as_given (encode_levels levels)

-- What a line says of some tables.
pub data SiteLine : Type 0 where
  -- the bytes of these entries are read as they stand, or are refused
  reads : List Level → SiteLine
  refuses_reading : List Level → (number place : ℕ) → SiteLine
  -- the setting of an interval answers band, extra and gap, or is refused
  sets : List Level → (length load : ℕ) → (band extra gap : ℕ) → SiteLine
  refuses_setting : List Level → (length load : ℕ) → (number : ℕ) → SiteLine
  -- the spare of a window
  spares : List Level → List Job → (start end : ℕ) → ℤ → SiteLine
  -- these frequencies work, and no others
  works : List Level → (frequencies : List ℕ) → SiteLine
  -- planning returns 11 with this window and spare, even with buffers of length 0
  refuses_overfull : List Level → List Job → (start end : ℕ) → ℤ → SiteLine
  -- with buffers of these lengths planning comes out
  plans : List Level → List Job → (plan_room price_room share_room : ℕ) → SiteLine
  -- the number of intervals, and the energy without any share, exact and reported
  intervals : List Job → (count : ℕ) → SiteLine
  idle_energy : List Level → List Job → (energy : ℕ) → SiteLine
  -- the check accepts a plan and its price list with an energy figure, or refuses them
  accepts : List Level → List Job → (plan prices : List ℕ) → (figure : ℕ) → SiteLine
  refuses : List Level → List Job → (plan prices : List ℕ) → (number place : ℕ) → SiteLine
  -- the exact energy of one interval is a whole number
  costs : List Level → (length load : ℕ) → (energy : ℕ) → SiteLine
  -- the energy figure of a plan, and its exact energy: `over` parts of `parts` above the figure
  needs : List Level → List Job → Shares → (figure over parts : ℕ) → SiteLine
  -- these bytes are read as marks, or are refused by 34
  reads_marks : (bytes marks : List ℕ) → SiteLine
  refuses_marks : (bytes : List ℕ) → SiteLine
  -- the bounds of jobs with marks
  cuts_at : List Job → (marks bounds : List ℕ) → SiteLine
  -- with marks: buffers of these lengths are enough, or are refused; and the check accepts a plan, or refuses it
  plans_marked : List Level → List Job → (marks : List ℕ) → (plan_room price_room share_room : ℕ) → SiteLine
  wants_marked : List Level → List Job → (marks : List ℕ) → (plan_room price_room share_room : ℕ) → (number place : ℕ) → SiteLine
  accepts_marked : List Level → List Job → (marks plan prices : List ℕ) → (figure : ℕ) → SiteLine
  refuses_marked : List Level → List Job → (marks plan prices : List ℕ) → (number place : ℕ) → SiteLine
  -- a plan fits with an energy figure, or is refused by the first half of the check
  fits_in : List Level → List Job → (marks plan : List ℕ) → (figure : ℕ) → SiteLine
  fails_in : List Level → List Job → (marks plan : List ℕ) → (number place : ℕ) → SiteLine

unfoldable pub p_lines : List SiteLine
p_lines =
    -- T, length 3, load 7: band 2, extra 1, gap 2
    sets T 3 7 2 1 2
    -- T, load 12 in 3: band 2, extra 6; load 13: refusal 26; load 0: zeros
    ∷ sets T 3 12 2 6 2
    ∷ refuses_setting T 3 13 26
    ∷ sets T 3 0 0 0 0
    -- T, one job 0 1 with 4 cycles: spare 0; 5 cycles: spare −1, refusal 11
    ∷ spares T (job 0 1 4 ∷ []) 0 1 (pos 0)
    ∷ spares T (job 0 1 5 ∷ []) 0 1 (negsuc 0)
    ∷ refuses_overfull T (job 0 1 5 ∷ []) 0 1 (negsuc 0)
    -- levels 100 10 and 200 10: only 200 works
    ∷ works (level 100 10 ∷ level 200 10 ∷ []) (200 ∷ [])
    -- 100 10, 110 20, 300 21: the middle one is dropped
    ∷ works (level 100 10 ∷ level 110 20 ∷ level 300 21 ∷ []) (100 ∷ 300 ∷ [])
    -- no jobs: N = 0, energy 0
    ∷ intervals [] 0
    ∷ idle_energy T [] 0
    ∷ plans T [] 4 2 0
    ∷ accepts T [] (0 ∷ 0 ∷ 0 ∷ 0 ∷ []) (0 ∷ 0 ∷ []) 0
    -- T, two equal jobs 0 2 of 4 cycles fit; three have spare −4
    ∷ plans T (job 0 2 4 ∷ job 0 2 4 ∷ []) 16 7 2
    ∷ spares T (job 0 2 4 ∷ job 0 2 4 ∷ job 0 2 4 ∷ []) 0 2 (negsuc 3)
    ∷ []

-- The shares of the plan that document 01 lists for jobs 0 4 6 and 2 3 4: 4 cycles of job 0, 4 of job 1, 2 of job 0.
abbrev pub listed_shares : Shares
listed_shares zero zero = 4
listed_shares zero (suc j) = 0
listed_shares (suc zero) zero = 0
listed_shares (suc zero) (suc j) = 4
listed_shares (suc (suc i)) zero = 2
listed_shares (suc (suc i)) (suc j) = 0

-- Its bytes: N, S, the cells, the cycles; and N, the interval ends, the prices.
abbrev pub listed_plan : List ℕ
listed_plan =
    3 ∷ 0 ∷ 3 ∷ 0
    ∷ 0 ∷ 0 ∷ 65 ∷ 0 ∷ 128 ∷ 0
    ∷ 4 ∷ 0 ∷ 0 ∷ 0 ∷ 4 ∷ 0 ∷ 0 ∷ 0 ∷ 2 ∷ 0 ∷ 0 ∷ 0
    ∷ []

abbrev pub listed_prices : List ℕ
listed_prices = 3 ∷ 0 ∷ 2 ∷ 0 ∷ 0 ∷ 0 ∷ 3 ∷ 0 ∷ 0 ∷ 0 ∷ 4 ∷ 0 ∷ 0 ∷ 0 ∷ 1 ∷ 2 ∷ 1 ∷ []

-- Further worked lines of document 01 that the definitions compute.
unfoldable pub worked_lines : List SiteLine
worked_lines =
    -- load 4 in one tick under T costs 1,600; load 7 in 3 ticks costs 1,300
    costs T 1 4 1_600
    ∷ costs T 3 7 1_300
    -- first built-in table, one job 0 1 with 401 cycles: figure 4,018,415, the exact energy 105/133 higher
    ∷ needs first_built_in (job 0 1 401 ∷ []) (λ i j. 401) 4_018_415 105 133
    -- T, three equal jobs 0 2 of 4 cycles: refusal 11
    ∷ refuses_overfull T (job 0 2 4 ∷ job 0 2 4 ∷ job 0 2 4 ∷ []) 0 2 (negsuc 3)
    -- T, jobs 0 4 6 and 2 3 4: a plan comes out, energy 2,200, and the check accepts the plan that the listing prints
    ∷ plans T (job 0 4 6 ∷ job 2 3 4 ∷ []) 28 17 6
    ∷ needs T (job 0 4 6 ∷ job 2 3 4 ∷ []) listed_shares 2_200 0 1
    ∷ accepts T (job 0 4 6 ∷ job 2 3 4 ∷ []) listed_plan listed_prices 2_200
    ∷ []

same_setting : Outcome Setting → (band extra gap : ℕ) → Bool
same_setting (refused number place) band extra gap = false
same_setting (answer setting) band extra gap = eqb setting.band band && eqb setting.extra extra && eqb setting.gap gap

unfoldable pub same_number : Outcome ℕ → (wanted : ℕ) → Bool
same_number (refused number place) wanted = false
same_number (answer n) wanted = eqb n wanted

same_numbers : List ℕ → List ℕ → Bool
same_numbers [] [] = true
same_numbers [] (n ∷ ns) = false
same_numbers (m ∷ ms) [] = false
same_numbers (m ∷ ms) (n ∷ ns) = eqb m n && same_numbers ms ns

same_levels : List Level → List Level → Bool
same_levels entries wanted =
    same_numbers (map (λ level. level.frequency) entries) (map (λ level. level.frequency) wanted)
    && same_numbers (map (λ level. level.voltage) entries) (map (λ level. level.voltage) wanted)

same_entries : Outcome (List Level) → List Level → Bool
same_entries (refused number place) wanted = false
same_entries (answer entries) wanted = same_levels entries wanted

refused_at : {A : Type 0} → Outcome A → (number place : ℕ) → Bool
refused_at (refused number place) wanted at = eqb number wanted && eqb place at
refused_at (answer a) wanted at = false

same_integer : ℤ → ℤ → Bool
same_integer (pos m) (pos n) = eqb m n
same_integer (pos m) (negsuc n) = false
same_integer (negsuc m) (pos n) = false
same_integer (negsuc m) (negsuc n) = eqb m n

same_spare : Outcome ℤ → ℤ → Bool
same_spare (refused number place) z = false
same_spare (answer found) z = same_integer found z

-- the working points are idling and these
same_working : List Point → List ℕ → Bool
same_working ws frequencies = same_numbers (map (λ point. point.frequency) ws) (0 ∷ frequencies)

same_overfull : PlanOutcome → (start end : ℕ) → ℤ → Bool
same_overfull (refusal number place) start end z = false
same_overfull (overfull first last spare) start end z = eqb first start && eqb last end && same_integer spare z
same_overfull comes_out start end z = false

same_ticks : Outcome (List ℕ) → List ℕ → Bool
same_ticks (refused number place) wanted = false
same_ticks (answer marks) wanted = same_numbers marks wanted

refusal_is : PlanOutcome → (number place : ℕ) → Bool
refusal_is (refusal number place) wanted at = eqb number wanted && eqb place at
refusal_is (overfull start end spare) wanted at = false
refusal_is comes_out wanted at = false

is_plan : PlanOutcome → Bool
is_plan (refusal number place) = false
is_plan (overfull start end spare) = false
is_plan comes_out = true

-- The line holds, as the definitions compute.
unfoldable pub holds : SiteLine → Bool
unfolding same_setting same_number same_numbers same_levels same_entries refused_at same_integer same_spare same_working same_overfull same_ticks refusal_is is_plan
holds (reads entries) = same_entries (read_levels (encode_levels entries)) entries
holds (refuses_reading entries number place) = refused_at (read_levels (encode_levels entries)) number place
holds (sets levels length load band extra gap) = same_setting (setting (encode_levels levels) (full levels).highest length load) band extra gap
holds (refuses_setting levels length load number) = refused_at (setting (encode_levels levels) (full levels).highest length load) number 0
holds (spares levels jobs start end z) = same_spare (spare (encode_levels levels) (encode_jobs jobs) (full levels) start end) z
holds (works levels frequencies) = same_working (working_of (processor_of levels)) frequencies
holds (refuses_overfull levels jobs start end z) = same_overfull (planning (encode_levels levels) (encode_jobs jobs) no_marks (full levels) 0 0 0) start end z
holds (plans levels jobs plan_room price_room share_room) =
    is_plan (planning (encode_levels levels) (encode_jobs jobs) no_marks (full levels) plan_room price_room share_room)
holds (intervals jobs count) = eqb (interval_count (bounds_of jobs)) count
holds (idle_energy levels jobs energy) =
    eqb (exact_energy (working_of (processor_of levels)) jobs (bounds_of jobs) (λ i j. 0)) (energy * scale (working_of (processor_of levels)))
    && eqb (energy_figure (working_of (processor_of levels)) jobs (bounds_of jobs) (λ i j. 0)) energy
holds (accepts levels jobs plan prices figure) = same_number (check (encode_levels levels) (encode_jobs jobs) no_marks (full levels) plan prices) figure
holds (refuses levels jobs plan prices number place) = refused_at (check (encode_levels levels) (encode_jobs jobs) no_marks (full levels) plan prices) number place
holds (costs levels length load energy) =
    eqb (interval_energy (working_of (processor_of levels)) length load) (energy * scale (working_of (processor_of levels)))
holds (needs levels jobs shares figure over parts) =
    eqb (energy_figure (working_of (processor_of levels)) jobs (bounds_of jobs) shares) figure
    && eqb (parts * exact_energy (working_of (processor_of levels)) jobs (bounds_of jobs) shares) ((parts * figure + over) * scale (working_of (processor_of levels)))
holds (reads_marks bytes marks) = same_ticks (read_marks bytes) marks
holds (refuses_marks bytes) = refused_at (read_marks bytes) 34 0
holds (cuts_at jobs marks bounds) = same_numbers (bounds_with marks jobs) bounds
holds (plans_marked levels jobs marks plan_room price_room share_room) =
    is_plan (planning (encode_levels levels) (encode_jobs jobs) (encode_marks marks) (full levels) plan_room price_room share_room)
holds (wants_marked levels jobs marks plan_room price_room share_room number place) =
    refusal_is (planning (encode_levels levels) (encode_jobs jobs) (encode_marks marks) (full levels) plan_room price_room share_room) number place
holds (accepts_marked levels jobs marks plan prices figure) =
    same_number (check (encode_levels levels) (encode_jobs jobs) (encode_marks marks) (full levels) plan prices) figure
holds (refuses_marked levels jobs marks plan prices number place) =
    refused_at (check (encode_levels levels) (encode_jobs jobs) (encode_marks marks) (full levels) plan prices) number place
holds (fits_in levels jobs marks plan figure) = same_number (fits (encode_levels levels) (encode_jobs jobs) (encode_marks marks) (full levels) plan) figure
holds (fails_in levels jobs marks plan number place) = refused_at (fits (encode_levels levels) (encode_jobs jobs) (encode_marks marks) (full levels) plan) number place

-- All lines hold.
unfoldable pub all_hold : List SiteLine → Bool
all_hold [] = true
all_hold (line ∷ lines) = holds line && all_hold lines
