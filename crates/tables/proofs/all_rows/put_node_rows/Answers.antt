-- `put_node_rows` puts the lines of the node rows. The invariant: of the whole, the lines from row i on are still to be put.
-- Assumes nothing.
use mathlib.Core.Path.{sym, ap}
use native.Mathlib.Omega.{arith}
use Rattle.room.proofs.Counting.{going_start, going_on, going_end, counts-as}
use Rattle.tables.specs.Rows.{node_row}
use Rattle.lines.proofs.Reading.{lines-on, lines_end}
use Rattle.tables.proofs.Listed.{nodes-lined, nodes-start}
use Rattle.tables.proofs.all_rows.put_node_rows.Goals as goal

pub loop-i-init : goal.loop-i-init
loop-i-init c = going_start _ (omega arith) (sym (nodes-start _ _))

pub node_at-requires : goal.node_at-requires
node_at-requires c = omega (arith, c.requires)

pub loop-i-preserved : goal.loop-i-preserved
loop-i-preserved c = going_on (lines-on nodes-lined _ _ _ _ _ c.loop-i-test.true) c.loop-i.invariant
    (counts-as (ap (λ x. node_row c.loop-i.i x) c.node_at.ensures) c.put_node_row-next.ensures)

pub returns : goal.returns
returns c = going_end (lines_end nodes-lined _ _ _ _ _ c.loop-i-test.false) c.loop-i.invariant
