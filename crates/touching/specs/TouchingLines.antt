-- Lines of what touches a span, for document 01's site that is listed, as one table: the jobs 0 4 6 and 2 3 4, and so the bounds 0,
-- 2, 3 and 4. That every line holds is one statement, proved in proofs/TouchingLines.antt by computing the definitions.
use Rattle.std.specs.Prelude.{ℕ, ◌≡◌, List, [], ◌∷◌, ◌++◌, length}
use Rattle.std.proofs.Math.Option.{Option, none, some}
use Rattle.model.specs.Outcome.{Outcome, refused, answer}
use Rattle.model.specs.Bytes.{bytes16, bytes32}
use Rattle.model.specs.Entries.{list_of, encode_each}
use Rattle.model.specs.Jobs.{encode_jobs}
use Rattle.model.specs.Marks.{encode_marks, no_marks}
use Rattle.model.specs.SiteLines.{job}
use Rattle.spans.specs.Spans.{Touched}
use Rattle.touching.specs.Touching.{Lists, touching, lists_after}

abbrev job_bytes : List ℕ
job_bytes = encode_jobs (job 0 4 6 ∷ job 2 3 4 ∷ [])

-- A plan over so many intervals: its cells and their cycles as they are given.
abbrev plan_over : (intervals : ℕ) → (cells cycles : List ℕ) → List ℕ
plan_over intervals cells cycles =
    bytes16 intervals ++ (bytes16 (length cells) ++ (encode_each bytes16 cells ++ encode_each bytes32 cycles))

abbrev plan_of : (cells cycles : List ℕ) → List ℕ
plan_of cells cycles = plan_over 3 cells cycles

-- The steps that document 01 lists, but backwards: "step 2 0 2", "step 1 1 4", "step 0 0 4".
abbrev backwards : List ℕ
backwards = plan_of (128 ∷ 65 ∷ 0 ∷ []) (2 ∷ 4 ∷ 4 ∷ [])

-- Lists of these lengths, all nines.
abbrev room : (open_jobs inside_jobs steps : ℕ) → Lists
room open_jobs inside_jobs steps =
    record { open_jobs = list_of open_jobs (λ i. 9); inside_jobs = list_of inside_jobs (λ i. 9); steps = list_of steps (λ i. 9) }

-- The span with that plan and enough room, and with any plan and no room.
abbrev spanned : (start end : ℕ) → Outcome Touched
spanned start end = touching job_bytes no_marks 0 0 backwards start end (room 2 2 3)

abbrev without_room : (plan : List ℕ) → Outcome Touched
without_room plan = touching job_bytes no_marks 0 0 plan 0 4 (room 0 0 0)

-- Four intervals by a mark at 1: 2 cycles of job 0 before it, 2 after it, then as listed.
abbrev marked : (start end : ℕ) → Outcome Touched
marked start end =
    touching job_bytes (encode_marks (1 ∷ [])) 0 0 (plan_over 4 (64 ∷ 0 ∷ 129 ∷ 192 ∷ []) (2 ∷ 2 ∷ 4 ∷ 2 ∷ [])) start end (room 2 2 4)

abbrev lists : (open_jobs inside_jobs steps : List ℕ) → Option ℕ → Outcome Touched
lists open_jobs inside_jobs steps deadline =
    answer (record { open_jobs = open_jobs; inside_jobs = inside_jobs; steps = steps; deadline = deadline })

pub record TouchingLines : Type 0 where
  -- the whole time, and all the time that there may be
  pub whole : spanned 0 4 ≡ lists (0 ∷ 1 ∷ []) (0 ∷ 1 ∷ []) (0 ∷ 65 ∷ 128 ∷ []) (some 3)
  pub longest : spanned 0 1_000_000 ≡ lists (0 ∷ 1 ∷ []) (0 ∷ 1 ∷ []) (0 ∷ 65 ∷ 128 ∷ []) (some 3)
  -- up to where job 1 is released and the second interval begins
  pub ends_at_release : spanned 0 2 ≡ lists (0 ∷ []) [] (0 ∷ []) (some 3)
  -- from job 1's deadline on, where the second interval ends
  pub starts_at_deadline : spanned 3 4 ≡ lists (0 ∷ []) [] (128 ∷ []) (some 3)
  -- one tick: inside an interval, and exactly the second interval and job 1's own
  pub one_tick : spanned 1 2 ≡ lists (0 ∷ []) [] (0 ∷ []) (some 3)
  pub own_tick : spanned 2 3 ≡ lists (0 ∷ 1 ∷ []) (1 ∷ []) (65 ∷ []) (some 3)
  -- two intervals of three: job 0 is open in both, but not inside, since one of its ends lies outside
  pub first_two : spanned 0 3 ≡ lists (0 ∷ 1 ∷ []) (1 ∷ []) (0 ∷ 65 ∷ []) (some 3)
  pub last_two : spanned 2 4 ≡ lists (0 ∷ 1 ∷ []) (1 ∷ []) (65 ∷ 128 ∷ []) (some 3)
  -- from the latest deadline on: it counts where it is the start itself, and a tick later there is none
  pub at_last_deadline : spanned 4 5 ≡ lists [] [] [] (some 4)
  pub past_all : spanned 5 6 ≡ lists [] [] [] none
  -- a deadline past the end of the span counts too
  pub deadline_past_end : spanned 0 1 ≡ lists (0 ∷ []) [] (0 ∷ []) (some 3)
  -- 33: no tick, backwards, and one tick too late; also with nothing to read
  pub no_tick : spanned 2 2 ≡ refused 33 0
  pub falling : spanned 3 2 ≡ refused 33 0
  pub too_late : spanned 0 1_000_001 ≡ refused 33 0
  pub span_first : touching [] [] 1_000_001 101 [] 2 2 (room 0 0 0) ≡ refused 33 0
  -- then the job table, then the marks, then the plan: no bytes, two intervals, a pair that is not open, a cell again, no cycles, too many
  pub jobs_next : touching [] [] 0 0 [] 0 4 (room 0 0 0) ≡ refused 6 0
  pub marks_next : touching job_bytes [] 1_000_001 0 [] 0 4 (room 0 0 0) ≡ refused 34 0
  -- then the parameters: a number out of range, and job 1, whose window of one tick is emptied
  pub ranges_next : touching job_bytes no_marks 1 101 [] 0 4 (room 0 0 0) ≡ refused 35 0
  pub emptied_next : touching job_bytes no_marks 1 0 [] 0 4 (room 0 0 0) ≡ refused 36 1
  pub no_plan : without_room [] ≡ refused 15 0
  pub other-intervals : without_room (plan_over 2 [] []) ≡ refused 16 0
  pub not_open : without_room (plan_of (128 ∷ 1 ∷ []) (2 ∷ 4 ∷ [])) ≡ refused 17 1
  pub again : without_room (plan_of (128 ∷ 0 ∷ 128 ∷ []) (2 ∷ 4 ∷ 2 ∷ [])) ≡ refused 17 2
  pub no_cycles : without_room (plan_of (128 ∷ 0 ∷ []) (2 ∷ 0 ∷ [])) ≡ refused 18 1
  pub more_cycles : without_room (plan_of (128 ∷ 0 ∷ []) (7 ∷ 4 ∷ [])) ≡ refused 18 0
  -- cycles that do not add to a job's are not looked at
  pub unfinished : touching job_bytes no_marks 0 0 (plan_of (128 ∷ []) (1 ∷ [])) 0 4 (room 2 2 1) ≡ lists (0 ∷ 1 ∷ []) (0 ∷ 1 ∷ []) (128 ∷ []) (some 3)
  -- 14 last, for the first list too short; exact room is enough
  pub open_short : touching job_bytes no_marks 0 0 backwards 1 4 (room 1 0 0) ≡ refused 14 2
  pub inside_short : touching job_bytes no_marks 0 0 backwards 1 4 (room 2 0 0) ≡ refused 14 1
  pub steps_short : touching job_bytes no_marks 0 0 backwards 1 4 (room 2 1 2) ≡ refused 14 3
  pub exact_room : touching job_bytes no_marks 0 0 backwards 1 4 (room 2 1 3) ≡ lists (0 ∷ 1 ∷ []) (1 ∷ []) (0 ∷ 65 ∷ 128 ∷ []) (some 3)
  -- what is left in longer lists
  pub rest_stays : lists_after (touching job_bytes no_marks 0 0 backwards 2 3 (room 3 3 3)) (room 3 3 3)
      ≡ record { open_jobs = 0 ∷ 1 ∷ 9 ∷ []; inside_jobs = 1 ∷ 9 ∷ 9 ∷ []; steps = 65 ∷ 9 ∷ 9 ∷ [] }
  -- with a mark at 1 there are four intervals: up to the mark its step alone is touched, and from it on the next one
  pub up_to_the_mark : marked 0 1 ≡ lists (0 ∷ []) [] (0 ∷ []) (some 3)
  pub from_the_mark : marked 1 2 ≡ lists (0 ∷ []) [] (64 ∷ []) (some 3)
  pub over_the_mark : marked 0 2 ≡ lists (0 ∷ []) [] (0 ∷ 64 ∷ []) (some 3)
  -- no jobs
  pub no-jobs : touching (encode_jobs []) no_marks 0 0 (plan_over 0 [] []) 0 1 (room 0 0 0) ≡ lists [] [] [] none
  -- job 0 4 6 with one tick kept free is job 0 3 6: it is inside up to 3, which is then the nearest deadline; with a margin of 50
  -- percent it has 9 cycles, so that a step may have as many
  pub deadline_earlier : touching (encode_jobs (job 0 4 6 ∷ [])) no_marks 1 50 (plan_over 1 (0 ∷ []) (9 ∷ [])) 0 3 (room 1 1 1)
      ≡ lists (0 ∷ []) (0 ∷ []) (0 ∷ []) (some 3)
  pub not_as_given : touching (encode_jobs (job 0 4 6 ∷ [])) no_marks 1 0 (plan_over 1 (0 ∷ []) (9 ∷ [])) 0 3 (room 1 1 1) ≡ refused 18 0
