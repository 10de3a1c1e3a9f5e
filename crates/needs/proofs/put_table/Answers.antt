-- `put_table` puts the lines of a count table. The invariant: the counts up to this one were read, and their lines were put. Each turn reads a byte of the item or more: there are no more
-- turns than it has bytes, whatever the count.
-- Assumes nothing.
use native.Mathlib.Omega.{arith}
use Rattle.cursor.specs.Rows.{meta_frame}
use Rattle.cursor.specs.Told.{number_told}
use Rattle.refusals.proofs.Passing.{passed_on}
use Rattle.cursor.proofs.Leaves.{number-inside}
use Rattle.description.proofs.Ways.{further-none, further-on, product}
use Rattle.needs.specs.Needed.{count_lines}
use Rattle.needs.proofs.Needing.{described-good, described-bad, listing_begun, listing_on, listing_cut, listing_left, listing_done}
use Rattle.needs.proofs.put_table.Goals as goal

pub overflow_mul-count : goal.overflow_mul-count
overflow_mul-count c = omega (arith, product c.args.channels c.args.resources (omega (arith, c.requires)) (omega (arith, c.requires)))

pub loop-i-init : goal.loop-i-init
loop-i-init c = (listing_begun _ _ _ _ _ _ _ _ (omega arith), further-none _ _)

pub returns-in_err-needed : goal.returns-in_err-needed
returns-in_err-needed c = let z = described-bad number_told (c.number.ensures meta_frame) c.described.ensures c.in_err-needed.was
    in rw (passed_on c.from_residual.ensures.1, z.2) (listing_cut _ _ _ c.loop-i.invariant.0 c.loop-i-test.true z.1, c.loop-i.invariant.0.puts.long)

pub loop-i-preserved : goal.loop-i-preserved
loop-i-preserved c = let w = described-good number_told (c.number.ensures meta_frame) c.described.ensures c.in_ok-needed.was
    in let m = number-inside _ _ _ _ _ w
    in (listing_on _ _ _ c.loop-i.invariant.0 c.loop-i-test.true w c.put_count-next.ensures, further-on c.loop-i.invariant.1 m.0 m.2)

pub returns-then-after-end : goal.returns-then-after-end
returns-then-after-end c = (listing_left _ _ _ c.loop-i.invariant.0 c.loop-i-test.false c.if-after-end.true, c.loop-i.invariant.0.puts.long)

pub returns : goal.returns
returns c = (count_lines _ _ 0 c.loop-i.invariant.0.done, listing_done _ _ _ c.loop-i.invariant.0 c.loop-i-test.false c.if-after-end.false, c.loop-i.invariant.0.puts)
