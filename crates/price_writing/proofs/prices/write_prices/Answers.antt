-- `prices::write_prices` meets its contract. Its three parts make the whole list (proofs/PriceStores.antt).
-- Assumes nothing.
use mathlib.Core.Path.{◌∙◌, ap}
use native.Mathlib.Omega.{arith}
use lib.Seq.{sets}
use Rattle.price_writing.proofs.PriceStores.{ends_are, whole_price_list}
use Rattle.price_writing.proofs.prices.write_prices.Goals as goal

pub returns : goal.returns
returns c =
    whole_price_list _ _ _ _ _ _ _ c.requires.intervals_le_max_intervals.1
    c.put16.ensures
    (c.put_column.ensures ∙ ap (sets c.put16.new.out 2) (ends_are c.args.times.now c.args.intervals (omega arith)))
    c.write_price_bytes.ensures
