use Rattle.std.proofs.Common.{rules}
use Rattle.io.proofs.Counting.{prefix_len_of_le}
use Rattle.test_search.proofs.table.put_column.Goals as goal

pub returns : goal.returns
returns c = prefix_len_of_le _ _ (search rules)
