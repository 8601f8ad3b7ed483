-- Laws of a plan in bytes: how long it is, and that its intervals, its step count and its steps are read back.
-- Assumes nothing.
use mathlib.Core.Path.{◌≡◌, refl, sym, ◌∙◌, ap}
use mathlib.Core.List.{List, [], ◌++◌, append-nil}
use Prim.Native.Nat.{ℕ, suc, ◌+◌, ◌*◌, ◌^◌, ◌<◌}
use native.Mathlib.Omega.{arith}
use lib.ListN.{length, get_or, drop, length-append}
use lib.Seq.{drop_at, drop-drop}
use Rattle.model.specs.Limits.{max_jobs}
use Rattle.model.specs.Bytes.{number32, bytes16, bytes32}
use Rattle.model.specs.Steps.{Step, plan_intervals, step_count, cell_at, step_at}
use Rattle.model.proofs.Bytes.{length_bytes_of, number_at_found}
use Rattle.model.proofs.Entries.{length_encode_each, drop_encode_each}
use Rattle.model.proofs.Steps.{cell_interval, cell_job}
use Rattle.writing.specs.PlanBytes.{cell_bytes, cycle_bytes, encode_plan}
use Rattle.writing.proofs.CellOrder.{no_step, cell_of_step}

pub length_cells : (steps : List Step) → length (cell_bytes steps) ≡ 2 * length steps
length_cells = length_encode_each (λ step. bytes16 (cell_of_step step)) 2 (λ step. length_bytes_of 2 (cell_of_step step))

pub length_cycles : (steps : List Step) → length (cycle_bytes steps) ≡ 4 * length steps
length_cycles = length_encode_each (λ step. bytes32 step.cycles) 4 (λ step. length_bytes_of 4 step.cycles)

-- a step that fits its bytes
pub record StepFits (step : Step) : Type 0 where
  pub cell_fits : cell_of_step step < 256 ^ 2
  pub job_fits : step.job < max_jobs
  pub cycles_fit : step.cycles < 256 ^ 4

module _ (intervals : ℕ) (steps : List Step) where
  pub length_plan : length (encode_plan intervals steps) ≡ 4 + 6 * length steps
  unfolding encode_plan
  length_plan = simp (length-append, length_bytes_of) (omega (arith, length_cells steps, length_cycles steps))

  pub intervals_read : intervals < 256 ^ 2 → plan_intervals (encode_plan intervals steps) ≡ intervals
  unfolding encode_plan
  intervals_read fit = number_at_found 2 intervals (encode_plan intervals steps) _ 0 refl fit

  -- past the two counts
  past_counts : drop 4 (encode_plan intervals steps) ≡ cell_bytes steps ++ cycle_bytes steps
  unfolding encode_plan
  past_counts =
      rw (
        ← drop-drop 2 2 (encode_plan intervals steps),
        drop_at (bytes16 intervals) _ 2 (length_bytes_of 2 intervals),
        drop_at (bytes16 (length steps)) _ 2 (length_bytes_of 2 (length steps)),
      )

  past_cells : drop (4 + 2 * length steps) (encode_plan intervals steps) ≡ cycle_bytes steps
  past_cells =
      rw (
        ← drop-drop (2 * length steps) 4 (encode_plan intervals steps),
        past_counts,
        drop_at (cell_bytes steps) _ (2 * length steps) (length_cells steps),
      )

  -- a step's cell stands among the cells, and its cycles among the cycles
  pub cell_stands : (s : ℕ) → s < length steps
      → drop (4 + 2 * s) (encode_plan intervals steps)
      ≡ bytes16 (cell_of_step (get_or steps s no_step)) ++ (cell_bytes (drop (suc s) steps) ++ cycle_bytes steps)
  cell_stands s below =
      sym (drop-drop (2 * s) 4 (encode_plan intervals steps))
      ∙ (ap (drop (2 * s)) past_counts
      ∙ drop_encode_each (λ step. bytes16 (cell_of_step step)) 2 (λ step. length_bytes_of 2 (cell_of_step step)) steps (cycle_bytes steps) s no_step below)

  pub cycles_stand : (s : ℕ) → s < length steps
      → drop (4 + 2 * length steps + 4 * s) (encode_plan intervals steps)
      ≡ bytes32 (get_or steps s no_step).cycles ++ (cycle_bytes (drop (suc s) steps) ++ [])
  cycles_stand s below =
      let rest = drop_encode_each (λ step. bytes32 step.cycles) 4 (λ step. length_bytes_of 4 step.cycles) steps [] s no_step below in
      sym (drop-drop (4 * s) (4 + 2 * length steps) (encode_plan intervals steps))
      ∙ (ap (drop (4 * s)) past_cells ∙ rw (append-nil (cycle_bytes steps)) at rest)

  module _ (few : length steps < 256 ^ 2) where
    pub count_read : step_count (encode_plan intervals steps) ≡ length steps
    unfolding encode_plan
    count_read =
        number_at_found 2 (length steps) (encode_plan intervals steps) _ 2
        (drop_at (bytes16 intervals) _ 2 (length_bytes_of 2 intervals)) few

    module _ (s : ℕ) (below : s < length steps) (fits : StepFits (get_or steps s no_step)) where
      cell_read : cell_at (encode_plan intervals steps) s ≡ cell_of_step (get_or steps s no_step)
      cell_read = number_at_found 2 _ (encode_plan intervals steps) _ (4 + 2 * s) (cell_stands s below) fits.cell_fits

      cycles_read : number32 (encode_plan intervals steps) (4 + 2 * length steps + 4 * s) ≡ (get_or steps s no_step).cycles
      cycles_read =
          number_at_found 4 _ (encode_plan intervals steps) _ (4 + 2 * length steps + 4 * s) (cycles_stand s below) fits.cycles_fit

      pub step_read : step_at (encode_plan intervals steps) s ≡ get_or steps s no_step
      unfolding step_at
      step_read =
          let step : Step = get_or steps s no_step in
          rw (
            count_read,
            cycles_read,
            cell_read,
            cell_interval step.interval step.job fits.job_fits,
            cell_job step.interval step.job fits.job_fits,
          )
