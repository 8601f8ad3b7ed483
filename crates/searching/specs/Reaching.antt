-- What the search has found, in plain arrays.
use Rattle.std.specs.Prelude.{ℕ, suc, ◌+◌, ◌*◌, ◌<◌, ◌≤◌, min, max, ◌≡◌, true, false, List, length, set, ltb}
use Rattle.model.specs.Limits.{max_jobs, max_intervals}
use Rattle.model.specs.Plans.{Shares}
use Rattle.job_sets.specs.declared.JobSet.{JobSet}
use Rattle.job_sets.specs.JobSets.{is_member, no_jobs, all_jobs, without_job}
use Rattle.workloads.specs.Placement.{Problem, SoundProblem, OnlyOpen, load_of}
use Rattle.workloads.specs.Arrays.{numbers_in, RoomAt, Holding}
use Rattle.searching.specs.declared.reached.Found.{Found}
use Rattle.searching.specs.Reached.{IsListed, Reached, Scanned}

-- What is reached, with the arrays of the reached jobs and of their sources.
pub record SearchState : Type 0 where
  pub count : ℕ
  pub reached : List ℕ
  pub source : List ℕ
  pub unlisted : JobSet
  pub start : ℕ
  pub end : ℕ
  pub target : ℕ

abbrev pub state_of : Found → (reached source : List ℕ) → SearchState
state_of found reached source =
    record {
      count = found.count;
      reached = reached;
      source = source;
      unlisted = found.unlisted;
      start = found.start;
      end = found.end;
      target = found.target;
    }

-- Only the job being placed is reached.
abbrev pub only_job : (job first last : ℕ) → (reached source : List ℕ) → SearchState
only_job job first last reached source =
    record {
      count = 1;
      reached = reached;
      source = source;
      unlisted = without_job all_jobs job;
      start = first;
      end = last;
      target = max_intervals;
    }

-- One job more, with the interval in which it has a share and its window.
abbrev pub with_reached : SearchState → (job source first last : ℕ) → SearchState
with_reached found job source first last =
    record {
      count = found.count + 1;
      reached = set found.reached found.count job;
      source = set found.source found.count source;
      unlisted = without_job found.unlisted job;
      start = min found.start first;
      end = max found.end last;
      target = found.target;
    }

module _ (p : Problem) (shares : Shares) where
  -- The arrays of the search hold what is reached from a job, and a set has the jobs that are not.
  pub record Reaching (job : ℕ) (found : SearchState) : Type 0 where
    pub now : Reached p shares job found.count (numbers_in found.reached) (numbers_in found.source) found.start found.end
    pub marked : (j : ℕ) → j < p.jobs → is_member found.unlisted j ≡ false → IsListed found.count (numbers_in found.reached) j
    pub unmarked : (j : ℕ) → j < p.jobs → is_member found.unlisted j ≡ true → IsListed found.count (numbers_in found.reached) j → ⊥
    pub reached_length : length found.reached ≡ max_jobs
    pub source_length : length found.source ≡ max_jobs

  -- A reached interval is to be scanned, with the set of the jobs that have a share there.
  pub record ToScan (job : ℕ) (set : JobSet) (found : SearchState) (interval : ℕ) : Type 0 where
    pub sound : SoundProblem p
    pub jobs_most : p.jobs ≤ max_jobs
    pub intervals_most : p.intervals ≤ max_intervals
    pub shut : OnlyOpen p shares
    pub reaching : Reaching job found
    pub from : found.start ≤ interval
    pub to : interval < found.end
    pub held : (j : ℕ) → j < p.jobs → is_member set j ≡ ltb 0 (shares interval j)
    pub held_past : (j : ℕ) → p.jobs ≤ j → is_member set j ≡ false

  -- While an interval is scanned: the jobs with a share there are listed, but for those in the set `new`.
  pub record ScanOf (job : ℕ) (before : SearchState) (interval : ℕ) (new : JobSet) (found : SearchState) : Type 0 where
    pub reaching : Reaching job found
    pub start_most : found.start ≤ before.start
    pub end_least : before.end ≤ found.end
    pub longer : before.count ≤ found.count
    pub same : (s : ℕ) → s < before.count → numbers_in found.reached s ≡ numbers_in before.reached s
    pub listed : (j : ℕ) → j < p.jobs → 0 < shares interval j → is_member new j ≡ false → IsListed found.count (numbers_in found.reached) j
    pub new_below : (j : ℕ) → is_member new j ≡ true → j < p.jobs
    pub new_share : (j : ℕ) → is_member new j ≡ true → 0 < shares interval j
    pub new_unlisted : (j : ℕ) → is_member new j ≡ true → is_member found.unlisted j ≡ true
    pub same_target : found.target ≡ before.target

  -- The target has room at the band.
  pub record HasRoom (band : ℕ) (found : SearchState) : Type 0 where
    pub from : found.start ≤ found.target
    pub to : found.target < found.end
    pub room : load_of p shares found.target < p.size found.target * p.frequency (suc band)

  -- The answer of the search: an interval with room, or a range in which every interval is scanned.
  pub record Searched (job band : ℕ) (found : SearchState) : Type 0 where
    pub reaching : Reaching job found
    pub target : found.target < max_intervals → HasRoom band found
    pub closed : max_intervals ≤ found.target → (i : ℕ) → found.start ≤ i → i < found.end
        → Scanned p shares band found.count (numbers_in found.reached) i

  -- The intervals from low up to, not including, high are scanned, and there is no target yet.
  pub record Scanning (job band : ℕ) (found : SearchState) (low high : ℕ) : Type 0 where
    pub reaching : Reaching job found
    pub no_target : found.target ≡ max_intervals
    pub from : found.start ≤ low
    pub order : low ≤ high
    pub to : high ≤ found.end
    pub scanned : (i : ℕ) → low ≤ i → i < high → Scanned p shares band found.count (numbers_in found.reached) i

  -- Above low, an interval with room is met, or all that is reached is scanned.
  pub record ScannedUp (job band low : ℕ) (found : SearchState) : Type 0 where
    pub target : found.target < max_intervals → Searched job band found
    pub none : max_intervals ≤ found.target → Scanning job band found low found.end

  -- An interval with room at a band can be looked for: room and sets of jobs are those of the shares, and shares stand only
  -- where jobs are open.
  pub record ToSearch (room holders : List ℕ) (job band : ℕ) : Type 0 where
    pub sound : SoundProblem p
    pub jobs_most : p.jobs ≤ max_jobs
    pub intervals_most : p.intervals ≤ max_intervals
    pub room_at : RoomAt p shares (p.frequency (suc band)) room
    pub holding : Holding p shares holders
    pub shut : OnlyOpen p shares
    pub job_below : job < p.jobs

-- A problem with other windows.
abbrev pub with_windows : Problem → (jobs : ℕ) → (first last : List ℕ) → Problem
with_windows p jobs first last =
    record {
      jobs = jobs;
      intervals = p.intervals;
      bands = p.bands;
      first = numbers_in first;
      last = numbers_in last;
      cycles = p.cycles;
      size = p.size;
      frequency = p.frequency;
    }

-- To a function that is lent the windows of a problem alone: the interval is one to be scanned, of some such problem.
pub record CanScan (first last : List ℕ) (set : JobSet) (found : SearchState) (interval : ℕ) : Type 0 where
  pub problem : Problem
  pub shares : Shares
  pub job : ℕ
  pub to_scan : ToScan (with_windows problem problem.jobs first last) shares job set found interval

-- The interval is scanned, of each such problem.
abbrev pub Scans : (first last : List ℕ) → (set : JobSet) → (before : SearchState) → (interval : ℕ) → (found : SearchState) → Type 0
Scans first last set before interval found =
    (p : Problem) (shares : Shares) (job : ℕ) → ToScan (with_windows p p.jobs first last) shares job set before interval
    → ScanOf (with_windows p p.jobs first last) shares job before interval no_jobs found

-- Likewise: an interval with room can be looked for, of some such problem.
pub record CanSearch (first last room holders : List ℕ) (job : ℕ) : Type 0 where
  pub problem : Problem
  pub shares : Shares
  pub band : ℕ
  pub to_search : ToSearch (with_windows problem problem.jobs first last) shares room holders job band

-- The answer of the search, of each such problem.
abbrev pub Searches : (first last room holders : List ℕ) → (job : ℕ) → (found : SearchState) → Type 0
Searches first last room holders job found =
    (p : Problem) (shares : Shares) (band : ℕ) → ToSearch (with_windows p p.jobs first last) shares room holders job band
    → Searched (with_windows p p.jobs first last) shares job band found

-- Likewise: the intervals up to, not including, `high` are scanned, of some such problem.
pub record CanScanUp (first last room holders : List ℕ) (found : SearchState) (high : ℕ) : Type 0 where
  pub problem : Problem
  pub shares : Shares
  pub job : ℕ
  pub band : ℕ
  pub low : ℕ
  pub to_search : ToSearch (with_windows problem problem.jobs first last) shares room holders job band
  pub scanning : Scanning (with_windows problem problem.jobs first last) shares job band found low high

-- Those above are scanned too, or one with room is met, of each such problem.
abbrev pub ScansUp : (first last room holders : List ℕ) → (before : SearchState) → (high : ℕ) → (found : SearchState) → Type 0
ScansUp first last room holders before high found =
    (p : Problem) (shares : Shares) (job band low : ℕ) → ToSearch (with_windows p p.jobs first last) shares room holders job band
    → Scanning (with_windows p p.jobs first last) shares job band before low high
    → ScannedUp (with_windows p p.jobs first last) shares job band low found
