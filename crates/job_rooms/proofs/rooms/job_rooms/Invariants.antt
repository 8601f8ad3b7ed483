-- `rooms::job_rooms` meets its contract. The loop's invariant: the starts so far are taken (proofs/RoomSteps.antt). Assumes nothing.
use mathlib.Core.Path.{◌≡◌}
use mathlib.Core.List.{List}
use mathlib.Core.Option.{none}
use Prim.Native.Nat.{ℕ, ◌≤◌}
use Rattle.model.specs.declared.Job.{Job}
use Rattle.model.specs.Windows.{earliest_overfull}
use Rattle.job_rooms.specs.RoomArrays.{RoomArrays}
use Rattle.job_rooms.proofs.RoomSteps.{Taken}
use Rattle.job_rooms.proofs.rooms.job_rooms.Given as goal

abbrev pub invariant-loop-start : goal.invariant-loop-start
invariant-loop-start l =
    (l.start ≤ l.intervals)
    × ((jobs : List Job) (bounds : List ℕ) → RoomArrays jobs bounds l.times l.cycles l.sets l.last l.count l.intervals → earliest_overfull l.top jobs ≡ none
    → Taken l.top jobs bounds l.last l.cycles l.start l.from l.due l.spares l.rooms)
