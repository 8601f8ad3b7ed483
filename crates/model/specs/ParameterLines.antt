-- Lines of document 02, Change 9, as one table. That every line holds is one statement, proved in proofs/ParameterLines.antt by computing
-- the definitions.
use Rattle.std.specs.Prelude.{ℕ, ◌≡◌, List, [], ◌∷◌, pos, negsuc}
use Rattle.model.specs.declared.Parameters.{Parameters}
use Rattle.model.specs.Outcome.{refused, answer}
use Rattle.model.specs.LevelTables.{idle_entry, encode_levels}
use Rattle.model.specs.Jobs.{encode_jobs}
use Rattle.model.specs.SiteParameters.{alter_levels, alter_jobs}
use Rattle.model.specs.BuiltIn.{level}
use Rattle.model.specs.Setting.{setting}
use Rattle.model.specs.Marks.{encode_marks, no_marks}
use Rattle.model.specs.Windows.{spare}
use Rattle.model.specs.Checking.{fits, check}
use Rattle.model.specs.Planning.{overfull, comes_out, planning}
use Rattle.model.specs.SiteLines.{job, T}
use Rattle.model.specs.ChangeLines.{idles_at}

abbrev pub parameters : (highest free margin : ℕ) → Parameters
parameters highest free margin = record { highest = highest; free = free; margin = margin }

-- The plan of one job with 4 cycles in one interval, and the price list that ends at 2 with price 1.
abbrev pub four_cycles : List ℕ
four_cycles = 1 ∷ 0 ∷ 1 ∷ 0 ∷ 0 ∷ 0 ∷ 4 ∷ 0 ∷ 0 ∷ 0 ∷ []

abbrev pub up_to_two : List ℕ
up_to_two = 1 ∷ 0 ∷ 2 ∷ 0 ∷ 0 ∷ 0 ∷ 1 ∷ []

pub record ParameterLines : Type 0 where
  -- T has two running levels
  pub no_level : alter_levels 0 T ≡ refused 35 0
  pub one_level : alter_levels 1 T ≡ answer (level 2 10 ∷ [])
  pub all_levels : alter_levels 2 T ≡ answer T
  pub level_past : alter_levels 3 T ≡ refused 35 0
  -- the idle entry stays and is not counted
  pub one_after_idle : alter_levels 1 (idles_at 9) ≡ answer (idle_entry 9 ∷ level 100 10 ∷ [])
  pub all_after_idle : alter_levels 2 (idles_at 9) ≡ answer (idles_at 9)
  pub past_after_idle : alter_levels 3 (idles_at 9) ≡ refused 35 0
  -- ticks kept free are taken off the deadline; a window of one tick is left, and none is not enough
  pub one_tick_left : alter_jobs 1 0 (job 0 2 4 ∷ []) ≡ answer (job 0 1 4 ∷ [])
  pub emptied : alter_jobs 2 0 (job 0 2 4 ∷ []) ≡ refused 36 0
  pub second_emptied : alter_jobs 1 0 (job 0 2 4 ∷ job 1 2 4 ∷ []) ≡ refused 36 1
  pub more_than_the_deadline : alter_jobs 3 0 (job 0 2 4 ∷ []) ≡ refused 36 0
  -- a margin is rounded up, job by job: 1 percent of 1 cycle is 1 cycle for each of two
  pub rounded_up : alter_jobs 0 1 (job 0 2 1 ∷ job 0 2 1 ∷ []) ≡ answer (job 0 2 2 ∷ job 0 2 2 ∷ [])
  pub just_whole : alter_jobs 0 25 (job 0 2 4 ∷ []) ≡ answer (job 0 2 5 ∷ [])
  pub one_above : alter_jobs 0 26 (job 0 2 4 ∷ []) ≡ answer (job 0 2 6 ∷ [])
  pub doubled : alter_jobs 0 100 (job 0 2 4 ∷ []) ≡ answer (job 0 2 8 ∷ [])
  -- cycles may just reach the limit
  pub just_enough : alter_jobs 0 100 (job 0 2 500_000_000 ∷ []) ≡ answer (job 0 2 1_000_000_000 ∷ [])
  pub too_many : alter_jobs 0 100 (job 0 2 500_000_001 ∷ []) ≡ refused 36 0
  -- the ranges of both numbers, whether or not there is a job
  pub free_in_range : alter_jobs 1_000_000 0 [] ≡ answer []
  pub free_out_of_range : alter_jobs 1_000_001 0 [] ≡ refused 35 0
  pub margin_out_of_range : alter_jobs 0 101 [] ≡ refused 35 0
  -- 35 comes before 36, and both after the tables' own
  pub range_first : alter_jobs 2 101 (job 0 2 4 ∷ []) ≡ refused 35 0
  pub marks_first : fits (encode_levels T) (encode_jobs (job 0 2 4 ∷ [])) (encode_marks (1 ∷ 1 ∷ [])) (parameters 3 0 0) [] ≡ refused 34 0
  pub before_the_plan : fits (encode_levels T) (encode_jobs (job 0 2 4 ∷ [])) no_marks (parameters 3 0 0) [] ≡ refused 35 0
  pub job_before_the_plan : fits (encode_levels T) (encode_jobs (job 0 2 4 ∷ [])) no_marks (parameters 2 2 0) [] ≡ refused 36 0
  -- up to the first level a tick has 2 cycles
  pub set_lower : setting (encode_levels T) 1 3 7 ≡ refused 26 0
  pub spare_lower : spare (encode_levels T) (encode_jobs (job 0 2 4 ∷ [])) (parameters 1 0 0) 0 2 ≡ answer (pos 0)
  pub overfull_lower : planning (encode_levels T) (encode_jobs (job 0 2 5 ∷ [])) no_marks (parameters 1 0 0) 0 0 0 ≡ overfull 0 2 (negsuc 0)
  -- job 0 3 of 3 cycles with one tick kept free and a margin of 10 percent is job 0 2 of 4 cycles
  pub plans_altered : planning (encode_levels T) (encode_jobs (job 0 3 3 ∷ [])) no_marks (parameters 2 1 10) 10 7 1 ≡ comes_out
  pub accepted_altered : check (encode_levels T) (encode_jobs (job 0 3 3 ∷ [])) no_marks (parameters 2 1 10) four_cycles up_to_two ≡ answer 400
  -- and its plan is not one for the job as it is given, nor with other numbers
  pub refused_as_given : check (encode_levels T) (encode_jobs (job 0 3 3 ∷ [])) no_marks (parameters 2 0 0) four_cycles up_to_two ≡ refused 18 0
  pub refused_without_free : check (encode_levels T) (encode_jobs (job 0 3 3 ∷ [])) no_marks (parameters 2 0 10) four_cycles up_to_two ≡ refused 22 0
  pub refused_overfull : planning (encode_levels T) (encode_jobs (job 0 3 3 ∷ [])) no_marks (parameters 1 2 10) 10 7 1 ≡ overfull 0 1 (negsuc 1)
