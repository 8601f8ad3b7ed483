-- Rounds that repeat (document 02, Change 1): what r repeats of a site's round are, one every H ticks.
use Rattle.std.specs.Prelude.{ℕ, zero, suc, ◌+◌, ◌-◌, ◌*◌, ◌/◌, ◌%◌, ◌≤◌, cond, ◌&&◌, List, [], length, ltb, eqb}
use Rattle.model.specs.declared.Job.{Job}
use Rattle.model.specs.Sum.{only_if}
use Rattle.model.specs.Entries.{list_of}
use Rattle.model.specs.Jobs.{job_of}
use Rattle.model.specs.Processors.{working_of}
use Rattle.model.specs.Intervals.{interval_count, bound_at, earliest_release, latest_deadline}
use Rattle.model.specs.Sites.{Site}
use Rattle.model.specs.Plans.{Shares}
use Rattle.model.specs.Prices.{PriceList}
use Rattle.model.specs.Energy.{exact_energy}
use Rattle.model.specs.Accepted.{gaps_of}

-- A job some ticks later.
abbrev pub later_by : (ticks : ℕ) → Job → Job
later_by ticks job = record { release = ticks + job.release; deadline = ticks + job.deadline; cycles = job.cycles }

-- The jobs of r repeats, those of repeat k shifted by k × H: of n jobs, job j of repeat k has the number k × n + j.
unfoldable pub repeat_jobs : (H r : ℕ) → List Job → List Job
repeat_jobs H r jobs = list_of (r * length jobs) (λ t. later_by (t / length jobs * H) (job_of jobs (t % length jobs)))

module _ (H : ℕ) (bounds : List ℕ) where
  -- The intervals from the start of one repeat to the start of the next: those of the round and, where a round ends before
  -- the next one starts, the stretch between the two.
  unfoldable pub round_size : ℕ
  round_size = interval_count bounds + only_if (ltb (bound_at bounds (interval_count bounds)) (H + bound_at bounds 0)) 1

  -- The bounds of r repeats: bound i of repeat k has the number k × round_size + i. The last round is followed by no stretch.
  -- There are none for no repeats, and none where a round has no interval.
  unfoldable pub repeat_bounds : (r : ℕ) → List ℕ
  repeat_bounds zero = []
  repeat_bounds (suc more) =
      cond (ltb 0 (interval_count bounds))
      (list_of (suc (more * round_size + interval_count bounds)) (λ t. t / round_size * H + bound_at bounds (t % round_size)))
      []

  -- Interval i of each repeat has the price of interval i of the round. Between rounds the price is 1.
  unfoldable pub repeat_prices : PriceList → PriceList
  repeat_prices prices t = cond (ltb (t % round_size) (interval_count bounds)) (prices (t % round_size)) 1

-- In interval i of a repeat, job j of that repeat has the share that job j has in interval i of the round. There are no
-- other shares: none of another repeat's jobs, and none between rounds.
unfoldable pub repeat_shares : (H : ℕ) → Site → Shares → Shares
repeat_shares H site shares t j =
    let size : ℕ = round_size H site.bounds in
    let n : ℕ = length site.jobs in
    only_if (eqb (t / size) (j / n) && ltb (t % size) (interval_count site.bounds)) (shares (t % size) (j % n))

-- The site of r repeats: the same processor, for the repeated jobs over the repeated bounds.
abbrev pub repeat_site : (H r : ℕ) → Site → Site
repeat_site H r site =
    record { processor = site.processor; jobs = repeat_jobs H r site.jobs; bounds = repeat_bounds H site.bounds r }

-- The exact energy of shares, multiplied out by all gaps of the site's bands.
abbrev pub energy_at : Site → Shares → ℕ
energy_at site shares = exact_energy (working_of site.processor) site.jobs site.bounds shares

-- The exact energy of r rounds, and of r - 1 stretches between them, in each of which the processor idles for so many ticks.
abbrev pub energy_of_rounds : (r : ℕ) → Site → Shares → (between : ℕ) → ℕ
energy_of_rounds r site shares between = r * energy_at site shares + (r - 1) * (between * (site.processor.idle_power * gaps_of site))

-- Repeats do not overlap: each ends, at the latest deadline, no later than the next one starts, at its earliest release.
abbrev pub RepeatsApart : (H : ℕ) → List Job → Type 0
RepeatsApart H jobs = latest_deadline jobs ≤ H + earliest_release jobs
