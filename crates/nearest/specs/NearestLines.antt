-- Lines of the operation from bytes, for document 01's level pair T, whose top frequency is 4, as one table. That every line holds is one
-- statement, proved in proofs/NearestLines.antt by computing the definitions.
use Rattle.std.specs.Prelude.{ℕ, ◌≡◌, List, [], ◌∷◌, negsuc}
use Rattle.model.specs.declared.Job.{Job}
use Rattle.model.specs.LevelTables.{encode_levels}
use Rattle.model.specs.Jobs.{encode_jobs}
use Rattle.model.specs.SiteLines.{job, T}
use Rattle.model.specs.ParameterLines.{parameters}
use Rattle.job_rooms.specs.SetOutcomes.{SetOutcome, refusal, overfull, answered}
use Rattle.nearest.specs.Nearest.{nearest, list_after}

-- With both running levels of T, nothing kept free and no margin, into a list of some length; and with other parameters.
abbrev listed : List Job → (room : ℕ) → SetOutcome (List ℕ)
listed jobs room = nearest (encode_levels T) (encode_jobs jobs) (parameters 2 0 0) room

abbrev altered : (highest free margin : ℕ) → List Job → SetOutcome (List ℕ)
altered highest free margin jobs = nearest (encode_levels T) (encode_jobs jobs) (parameters highest free margin) 128

pub record NearestLines : Type 0 where
  -- document 01's listed site: job 1 fills its window
  pub listed_site : listed (job 0 4 6 ∷ job 2 3 4 ∷ []) 4 ≡ answered (1 ∷ 0 ∷ 0 ∷ 6 ∷ [])
  pub no-jobs : listed [] 0 ≡ answered []
  -- smallest first, and ties by job number
  pub falling : listed (job 0 3 1 ∷ job 0 2 2 ∷ job 0 1 1 ∷ []) 6 ≡ answered (2 ∷ 3 ∷ 1 ∷ 5 ∷ 0 ∷ 8 ∷ [])
  pub tied : listed (job 0 2 4 ∷ job 1 2 1 ∷ job 0 3 1 ∷ []) 6 ≡ answered (0 ∷ 3 ∷ 1 ∷ 3 ∷ 2 ∷ 6 ∷ [])
  -- 11 before 14: three equal jobs where two fit
  pub too_many : listed (job 0 2 4 ∷ job 0 2 4 ∷ job 0 2 4 ∷ []) 0 ≡ overfull 0 2 (negsuc 3)
  -- 14 with twice the number of jobs, where the list is shorter by one
  pub exact_room : listed (job 0 1 1 ∷ job 1 2 4 ∷ []) 4 ≡ answered (1 ∷ 0 ∷ 0 ∷ 3 ∷ [])
  pub one_short : listed (job 0 1 1 ∷ job 1 2 4 ∷ []) 3 ≡ refusal 14 4
  -- the refusals of tables and parameters come before 11
  pub levels_first : nearest [] [] (parameters 0 0 101) 0 ≡ refusal 1 0
  pub jobs_next : nearest (encode_levels T) [] (parameters 0 0 101) 0 ≡ refusal 6 0
  pub ranges_next : altered 3 0 0 (job 0 1 5 ∷ []) ≡ refusal 35 0
  pub emptied_next : altered 2 1 0 (job 0 1 5 ∷ []) ≡ refusal 36 0
  -- parameters: with the first level alone the top frequency is 2; a tick kept free; cycles come on top of those with the margin
  pub first_level : altered 1 0 0 (job 0 2 1 ∷ []) ≡ answered (0 ∷ 3 ∷ [])
  pub tick_free : altered 2 1 0 (job 0 2 1 ∷ []) ≡ answered (0 ∷ 3 ∷ [])
  pub with-margin : altered 2 0 50 (job 0 2 3 ∷ []) ≡ answered (0 ∷ 3 ∷ [])
  -- what is left in a longer list, and in one that is refused
  pub rest_stays : list_after (listed (job 0 1 1 ∷ []) 3) (9 ∷ 9 ∷ 9 ∷ []) ≡ 0 ∷ 3 ∷ 9 ∷ []
  pub all_stays : list_after (listed (job 0 1 5 ∷ []) 3) (9 ∷ 9 ∷ 9 ∷ []) ≡ 9 ∷ 9 ∷ 9 ∷ []
