-- Laws of the search: the scanned intervals are one range too, which grows by an interval at one of its ends until one
-- with room is met or all that is reached is scanned.
-- Assumes nothing.
use mathlib.Core.Path.{◌≡◌, refl, ◌∙◌}
use mathlib.Core.List.{List}
use Prim.Native.Nat.{ℕ, suc, ◌+◌, ◌*◌, ◌<◌, ◌≤◌, min, max}
use native.Mathlib.Decide.{ℕ_discrete}
use native.Mathlib.Omega.{arith}
use lib.ListN.{length, set, length-set}
use lib.Seq.{get_or-set_same}
use Rattle.model.specs.Limits.{max_jobs, max_intervals}
use Rattle.model.specs.Plans.{Shares}
use Rattle.job_sets.specs.JobSets.{no_jobs}
use Rattle.job_sets.specs.IntervalSets.{set_in}
use Rattle.job_sets.proofs.JobSets.{none_has}
use Rattle.workloads.specs.Placement.{Problem, SoundProblem, OnlyOpen, load_of}
use Rattle.workloads.specs.Arrays.{numbers_in, RoomAt, Holding}
use Rattle.searching.specs.Reached.{Scanned}
use Rattle.searching.specs.Reaching.{SearchState, only_job, Reaching, ToScan, ScanOf, Searched, Scanning, ScannedUp}
use Rattle.searching.proofs.ReachedRange.{scanned_kept}
use Rattle.searching.proofs.ScanSteps.{reaching_start}

-- whether an interval has room
module _ {p : Problem} {shares : Shares} {frequency : ℕ} {room : List ℕ} (room_at : RoomAt p shares frequency room) {i : ℕ} (inside : i < p.intervals) where
  pub room_some : 0 < numbers_in room i → load_of p shares i < p.size i * frequency
  room_some some = omega (arith, room_at.room_is i inside)

  pub room_none : numbers_in room i ≤ 0 → p.size i * frequency ≤ load_of p shares i
  room_none none = omega (arith, room_at.room_is i inside)

-- the target of a search is set
abbrev pub with_target : SearchState → ℕ → SearchState
with_target found target =
    record {
      count = found.count;
      reached = found.reached;
      source = found.source;
      unlisted = found.unlisted;
      start = found.start;
      end = found.end;
      target = target;
    }

reaching_target : {p : Problem} {shares : Shares} {job : ℕ} {found : SearchState} → Reaching p shares job found
    → (target : ℕ) → Reaching p shares job (with_target found target)
reaching_target reaching target =
    record {
      now = reaching.now;
      marked = reaching.marked;
      unmarked = reaching.unmarked;
      reached_length = reaching.reached_length;
      source_length = reaching.source_length;
    }

-- an interval with room is met
pub up_target : {p : Problem} {shares : Shares} {job band low : ℕ} {found : SearchState} → Searched p shares job band found
    → found.target < max_intervals → ScannedUp p shares job band low found
up_target searched below = record { target = λ h. searched; none = λ past. absurd (omega arith) }

module _ {p : Problem} (sound : SoundProblem p) (most : p.jobs ≤ max_jobs) {shares : Shares} {job band : ℕ} where
  -- nothing is scanned yet
  pub scanning_start : job < p.jobs → (reached source : List ℕ) → length reached ≡ max_jobs → length source ≡ max_jobs
      → Scanning p shares job band (only_job job (p.first job) (p.last job) (set reached 0 job) source) (p.first job) (p.first job)
  scanning_start below reached source jobs-length sources-length =
      record {
        reaching =
            reaching_start sound most below (set reached 0 job) source (get_or-set_same reached 0 job 0 (omega arith))
            (length-set reached 0 job ∙ jobs-length) sources-length;
        no_target = refl;
        from = omega arith;
        order = omega arith;
        to = omega (arith, sound.window job below);
        scanned = λ i from to. absurd (omega arith);
      }

  module _ {found : SearchState} {low high : ℕ} (scanning : Scanning p shares job band found low high) where
    -- all that is reached is scanned
    pub searched_closed : low ≤ found.start → found.end ≤ high → Searched p shares job band found
    searched_closed all-below all_above =
        record {
          reaching = scanning.reaching;
          target = λ below. absurd (omega (arith, scanning.no_target));
          closed = λ past i from to. scanning.scanned i (omega arith) (omega arith);
        }

    -- nothing above is reached
    pub up_none : found.end ≤ high → ScannedUp p shares job band low found
    up_none all_above =
        let e : high ≡ found.end = omega (arith, scanning.to) in
        record { target = λ below. absurd (omega (arith, scanning.no_target)); none = λ past. rw e at scanning }

    -- a reached interval
    module _ {next : ℕ} (from : found.start ≤ next) (to : next < found.end) where
      pub next_inside : next < p.intervals
      next_inside = omega (arith, scanning.reaching.now.end_below)

      -- it has room
      pub searched_target : load_of p shares next < p.size next * p.frequency (suc band) → next < max_intervals
          → Searched p shares job band (with_target found next)
      searched_target room below =
          record {
            reaching = reaching_target scanning.reaching next;
            target = λ h. record { from = from; to = to; room = room };
            closed = λ past. absurd (omega arith);
          }

      pub next_to_scan : p.intervals ≤ max_intervals → OnlyOpen p shares → {holders : List ℕ} → Holding p shares holders
          → ToScan p shares job (set_in holders next) found next
      next_to_scan intervals_most shut holding =
          record {
            sound = sound;
            jobs_most = most;
            intervals_most = intervals_most;
            shut = shut;
            reaching = scanning.reaching;
            from = from;
            to = to;
            held = λ j inside. holding.held next j next_inside inside;
            held_past = λ j past. holding.held_past next j next_inside past;
          }

      -- it is full, and is scanned
      pub scanning_next : p.size next * p.frequency (suc band) ≤ load_of p shares next
          → {after : SearchState} → ScanOf p shares job found next no_jobs after
          → {lower higher : ℕ} → low ≤ suc next → next ≤ high → lower ≡ min low next → higher ≡ max high (next + 1)
          → Scanning p shares job band after lower higher
      scanning_next full {after} scan {lower} {higher} beside-low beside-high is_lower is-higher =
          record {
            reaching = scan.reaching;
            no_target = scan.same_target ∙ scanning.no_target;
            from = omega (arith, scanning.from, scan.start_most);
            order = omega (arith, scanning.order);
            to = omega (arith, scanning.to, scan.end_least);
            scanned = λ i above under. go i above under (ℕ_discrete i next);
          }
        where
          go : (i : ℕ) → lower ≤ i → i < higher → Dec (i ≡ next) → Scanned p shares band after.count (numbers_in after.reached) i
          go i above under (yes here) = rw here (record { full = full; listed = λ j below share. scan.listed j below share (none_has j) })
          go i above under (no other) =
              scanned_kept scan.longer scan.same (scanning.scanned i (omega (arith, other)) (omega (arith, other)))
