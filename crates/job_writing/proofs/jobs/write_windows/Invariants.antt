-- `jobs::write_windows` meets its contract. The loop's invariant: the first `j` windows are written (proofs/JobStores.antt).
-- Assumes nothing.
use Prim.Native.Nat.{◌≤◌}
use Rattle.job_writing.proofs.JobStores.{WindowsPut}
use Rattle.job_writing.proofs.jobs.write_windows.Given as goal

abbrev pub invariant-loop-j : goal.invariant-loop-j
invariant-loop-j l = (l.j ≤ l.count) × WindowsPut l.releases l.deadlines l.initial.out l.j l.out
