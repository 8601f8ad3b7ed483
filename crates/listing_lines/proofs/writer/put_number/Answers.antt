-- `writer::put_number` meets its contract: a space, and then the digits.
-- Assumes nothing.
use Rattle.listing_lines.proofs.AppendedText.{appended_then}
use Rattle.listing_lines.proofs.writer.put_number.Goals as goal

pub returns : goal.returns
returns c = appended_then _ _ c.put_byte-next.ensures c.put_decimal.ensures
