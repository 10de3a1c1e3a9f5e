-- `put_group_lines` puts each node line with the lines of its item rows. The invariant: of the whole, the lines of the node rows from i on and of the item rows from `first` on
-- are still to be put.
-- Assumes nothing.
use mathlib.Core.Path.{refl}
use Rattle.sheet.proofs.Filling.{filling_start, filling_on, filling_end}
use native.Mathlib.Omega.{arith}
use Rattle.sheet.proofs.Lines.{groups-start, groups-on, groups-end}
use Rattle.sheet.proofs.put_group_lines.Goals as goal

pub loop-i-init : goal.loop-i-init
loop-i-init c = (omega arith, filling_start _ (omega arith) (groups-start c.args.file.now c.args.nodes.now c.args.items.now c.args.rows c.args.contents))

pub loop-i-preserved : goal.loop-i-preserved
loop-i-preserved c = let one = groups-on c.args.file.now c.args.nodes.now c.args.items.now c.args.rows c.args.contents c.loop-i.i c.loop-i.first c.rows_end-end.result
    c.loop-i-test.true c.loop-i.invariant.0
    c.node_at-row.ensures c.rows_end-end.ensures in
    (omega arith, filling_on refl (filling_on one c.loop-i.invariant.1 c.put_node_line-next.ensures) c.put_item_lines-next.ensures)

pub returns : goal.returns
returns c = filling_end (groups-end c.args.file.now c.args.nodes.now c.args.items.now c.args.rows c.args.contents c.loop-i.i c.loop-i.first c.loop-i-test.false) c.loop-i.invariant.1
