-- `put_node_line` puts the line of a node row, where the room has not ended before.
-- Assumes nothing.
use Rattle.room.proofs.Counting.{counts-then, counts-as}
use Rattle.sheet.proofs.Lines.{node-is}
use Rattle.sheet.proofs.Filling.{fills-counts, fills-past}
use native.Mathlib.Omega.{arith}
use Rattle.sheet.proofs.put_node_line.Goals as goal

pub returns-then-out-to : goal.returns-then-out-to
returns-then-out-to c = fills-past _ (omega arith) c.if-out-to.true (omega (arith, c.if-out-to.true))

pub returns : goal.returns
returns c = fills-counts (counts-as (node-is _ _) (counts-then
    (counts-then (counts-then (counts-then
    (counts-then (counts-then (counts-then c.put_byte-a.ensures c.put_number-b.ensures)
    c.put_number-c.ensures) c.put_number-d.ensures) c.put_number-e.ensures)
    c.put_number-f.ensures) c.put_number-g.ensures) c.put_byte.ensures))
