-- `jobs::write_jobs` meets its contract. Its three parts make the whole table (proofs/JobStores.antt).
-- Assumes nothing.
use mathlib.Core.Path.{◌∙◌, ap}
use Prim.Native.Nat.{◌+◌, ◌*◌}
use native.Mathlib.Omega.{arith}
use lib.Seq.{sets}
use Rattle.job_writing.proofs.JobStores.{cycles_are, whole_job_table}
use Rattle.job_writing.proofs.jobs.write_jobs.Goals as goal

pub returns : goal.returns
returns c =
    whole_job_table _ _ _ _ _ _ _ _ c.requires.1
    c.put16.ensures
    c.write_windows.ensures
    (c.put_column.ensures ∙ ap (sets c.write_windows.new.out (2 + 8 * c.args.count)) (cycles_are c.args.cycles.now c.args.count (omega arith)))
