-- `buffers::within_bytes` meets its contract, by the test. Assumes nothing.
use Rattle.io.proofs.Counting.{prefix_len_of_le}
use Rattle.std.proofs.Common.{rules}
use Rattle.test_plan.proofs.buffers.within_bytes.Goals as goal

pub returns-then-length-buffer : goal.returns-then-length-buffer
returns-then-length-buffer c = prefix_len_of_le _ _ (search rules)

pub returns-else-length-buffer : goal.returns-else-length-buffer
returns-else-length-buffer c = prefix_len_of_le _ _ (search rules)
