-- `buffers::within_numbers` meets its contract, by the test. Assumes nothing.
use Rattle.io.proofs.Counting.{prefix_len_of_le}
use borrow.Author.Rules.{rules}
use Rattle.test_support.proofs.buffers.within_numbers.Goals as goal

pub returns-then-length-buffer : goal.returns-then-length-buffer
returns-then-length-buffer c = prefix_len_of_le _ _ (search rules)

pub returns-else-length-buffer : goal.returns-else-length-buffer
returns-else-length-buffer c = prefix_len_of_le _ _ (search rules)
