-- `encode::encode_tables` meets its contract: each length is one that `encode_site` or `count` answered. Assumes nothing.
use borrow.Author.Rules.{rules}
use Rattle.test_support.proofs.encode.encode_tables.Goals as goal

pub returns : goal.returns
returns c =
    record { prefix_len = c.encode_site-site.ensures.prefix_len; prefix_len_2 = (c.encode_site-site.ensures.prefix_len_2.0, search rules); prefix_len_3 = (search rules, search rules) }
