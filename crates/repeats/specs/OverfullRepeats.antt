-- A round that cannot be served: repeating it does not help.
use Rattle.std.specs.Prelude.{ℕ, ◌<◌, ◌≡◌, true}
use Rattle.model.specs.Processors.{top_of}
use Rattle.model.specs.Sites.{Site}
use Rattle.model.specs.Windows.{is_overfull}
use Rattle.model.specs.Schedules.{Serves}
use Rattle.model.specs.LeastEnergy.{SoundSite}
use Rattle.model.specs.Accepted.{ScheduleFor}
use Rattle.repeats.specs.Repeats.{repeat_site}

-- Where a window of one round is overfull, no schedule over the same levels meets all deadlines of one or more repeats,
-- whatever its q and however far apart they are. Proved in proofs/OverfullRepeats.antt.
abbrev pub OverfullRepeats : Type 0
OverfullRepeats =
    (site : Site) → SoundSite site.processor.idle_power site.processor.levels site.jobs
    → (start end : ℕ) → is_overfull (top_of site.processor) site.jobs start end ≡ true
    → (H r : ℕ) → 0 < r → (schedule : ScheduleFor (repeat_site H r site)) → Serves schedule → ⊥
