use mathlib.Core.Path.{◌≡◌}
use mathlib.Core.List.{List}
use Prim.Native.Nat.{ℕ, suc, ◌+◌, ◌*◌, ◌%◌, ◌<◌}
use native.Mathlib.Omega.{arith}
use lib.ListN.{length, get_or, take, set, length-take}
use lib.Seq.{sets, get_or-take}
use Rattle.model.specs.Bytes.{bytes_of}
use Rattle.model.proofs.Bytes.{length_bytes_of}
use Rattle.writing.proofs.NumberStores.{numbers_none, length_numbers, numbers_next, numbers_whole}
use Rattle.price_writing.proofs.prices.write_price_bytes.Goals as goal
use Rattle.price_writing.proofs.prices.write_price_bytes.Goals.{At-loop-i, In-loop-i}

one_byte : (out : List ℕ) (start i price : ℕ) → price < 255 → set out (start + i) (price + 1) ≡ sets out (start + 1 * i) (bytes_of 1 (suc price))
unfolding bytes_of
one_byte out start i price small =
    let place : start + 1 * i ≡ start + i = omega arith in
    let byte : suc price % 256 ≡ price + 1 = omega arith in
    rw (place, byte)

-- what is written keeps the buffer's length
long : (c : At-loop-i) → length c.loop-i.out ≡ length c.args.out.now
long c = length_numbers (bytes_of 1) 1 (length_bytes_of 1) _ _ _ _ _ c.loop-i.invariant.1

-- a price fits its byte
small : (c : In-loop-i) → let a = c.args in get_or a.prices.now c.loop-i.i 0 < 255
small c = c.requires.by_index _ (omega (arith, length-take c.args.intervals c.args.prices.now))

-- the price of an interval is its own
own : (c : In-loop-i) → let a = c.args in get_or (take a.intervals a.prices.now) c.loop-i.i 0 ≡ get_or a.prices.now c.loop-i.i 0
own c = get_or-take c.args.intervals c.args.prices.now c.loop-i.i 0 (omega (arith, length-take c.args.intervals c.args.prices.now))

pub loop-i-init : goal.loop-i-init
loop-i-init c = (omega arith, numbers_none (bytes_of 1) 1 (length_bytes_of 1) _ _ _)

pub overflow_add-out : goal.overflow_add-out
overflow_add-out c = omega (arith, small (goal.at.overflow_add-out c).In-loop-i, own (goal.at.overflow_add-out c).In-loop-i)

pub bounds-out-intervals : goal.bounds-out-intervals
bounds-out-intervals c = omega (arith, long (goal.at.bounds-out-intervals c).At-loop-i)

pub loop-i-preserved : goal.loop-i-preserved
loop-i-preserved c =
    let here = (goal.at.loop-i-preserved c).In-loop-i in
    (omega (arith, length-take c.args.intervals c.args.prices.now), numbers_next (bytes_of 1) 1 (length_bytes_of 1) _ _ _ _ _ _ c.loop-i.invariant.1 (rw (own here) (one_byte _ _ _ _ (small here))))

pub shape_of-out : goal.shape_of-out
shape_of-out c = long (goal.at.shape_of-out c).At-loop-i

pub returns : goal.returns
returns c =
    numbers_whole (bytes_of 1) 1 (length_bytes_of 1) _ _ _ _ _ _ c.loop-i.invariant.1 c.loop-i.invariant.0
    (omega (arith, length-take c.args.intervals c.args.prices.now))
