-- `put_item_rows` puts the lines of the item rows. The invariant: of the whole, the lines from row i on are still to be put.
-- Assumes nothing.
use mathlib.Core.Path.{sym, ap}
use native.Mathlib.Omega.{arith}
use Rattle.room.proofs.Counting.{going_start, going_on, going_end, counts-as}
use Rattle.tables.specs.Rows.{item_row}
use Rattle.lines.proofs.Reading.{lines-on, lines_end}
use Rattle.tables.proofs.Listed.{items-lined, items-start}
use Rattle.tables.proofs.all_rows.put_item_rows.Goals as goal

pub loop-i-init : goal.loop-i-init
loop-i-init c = going_start _ (omega arith) (sym (items-start _ _))

pub item_at-requires : goal.item_at-requires
item_at-requires c = omega (arith, c.requires)

pub loop-i-preserved : goal.loop-i-preserved
loop-i-preserved c = going_on (lines-on items-lined _ _ _ _ _ c.loop-i-test.true) c.loop-i.invariant
    (counts-as (ap (λ x. item_row 0x69 c.loop-i.i x) c.item_at.ensures) c.put_item_row-next.ensures)

pub returns : goal.returns
returns c = going_end (lines_end items-lined _ _ _ _ _ c.loop-i-test.false) c.loop-i.invariant
