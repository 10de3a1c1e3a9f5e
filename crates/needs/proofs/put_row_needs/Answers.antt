-- `put_row_needs` puts the lines of an item row, if it is a visible content description.
-- Assumes nothing.
use mathlib.Core.List.{[]}
use native.Mathlib.Omega.{arith}
use Rattle.room.proofs.Counting.{counts-none}
use Rattle.needs.proofs.Needing.{puts-as, row-hidden, row_other, row_told}
use Rattle.needs.proofs.put_row_needs.Goals as goal

pub returns-then-item-eq1 : goal.returns-then-item-eq1
returns-then-item-eq1 c = ([], row-hidden _ _ _ c.if-item-eq1.true, counts-none _ (omega arith))

pub returns-then-not-is_description : goal.returns-then-not-is_description
returns-then-not-is_description c = ([], row_other _ _ _ c.if-item-eq1.false c.is_description.ensures c.if-not-is_description.true, counts-none _ (omega arith))

pub put_counts-requires : goal.put_counts-requires
put_counts-requires c = c.requires.0

pub returns : goal.returns
returns c = puts-as c.args.out.now c.put_counts.new.out c.args.to c.put_counts.result
    (row_told c.args.file.now c.args.row c.args.item c.if-item-eq1.false c.is_description.ensures c.if-not-is_description.false)
    c.put_counts.ensures
