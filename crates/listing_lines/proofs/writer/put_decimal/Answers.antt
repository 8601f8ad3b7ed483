-- `writer::put_decimal` meets its contract: the digits that `io::decimal` makes are the number's text (proofs/Decimals.antt).
-- Assumes nothing.
use mathlib.Core.Path.{◌∙◌}
use Prim.Native.Nat.{◌≤◌}
use native.Mathlib.Omega.{arith}
use borrow.Author.Rules.{rules}
use Rattle.listing_lines.proofs.AppendedText.{appended_as}
use Rattle.listing_lines.proofs.Decimals.{fewest_digits, twenty_digits}
use Rattle.listing_lines.proofs.writer.put_decimal.Goals as goal

pub put_bytes-requires : goal.put_bytes-requires
put_bytes-requires c =
    let few : c.decimal-count.result ≤ 20 = twenty_digits _ _ c.decimal-count.ensures.len (search rules) in
    omega (arith, c.decimal-count.ensures.in_bounds.1)

pub returns : goal.returns
returns c =
    let few : c.decimal-count.result ≤ 20 = twenty_digits _ _ c.decimal-count.ensures.len (search rules) in
    appended_as _ _ c.put_bytes.ensures _ _
    (c.decimal-count.ensures.digits ∙ fewest_digits _ _ c.decimal-count.ensures.len)
    (omega (arith, c.decimal-count.ensures.in_bounds.1))
