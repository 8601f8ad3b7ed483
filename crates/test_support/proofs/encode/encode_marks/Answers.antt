-- `encode::encode_marks` meets its contract: the length is one that `encode` or `put` answered. Assumes nothing.
use borrow.Author.Rules.{rules}
use Rattle.io.proofs.Counting.{prefix_len_of_le}
use Rattle.test_support.proofs.encode.encode_marks.Goals as goal

pub returns : goal.returns
returns c = (prefix_len_of_le _ _ (search rules), search rules)
