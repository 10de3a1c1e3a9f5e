-- `put_node_lines` puts the lines of the node rows. The invariant: of the whole, the lines from row i on are still to be put.
-- Assumes nothing.
use mathlib.Core.Path.{sym}
use Rattle.sheet.proofs.Filling.{filling_start, filling_on, filling_end}
use Rattle.sheet.proofs.Lines.{nodes-on, nodes-end, nodes-start}
use native.Mathlib.Omega.{arith}
use Rattle.sheet.proofs.put_node_lines.Goals as goal

pub loop-i-init : goal.loop-i-init
loop-i-init c = (omega arith, filling_start _ (omega arith) (sym (nodes-start _ _)))

pub loop-i-preserved : goal.loop-i-preserved
loop-i-preserved c = (omega arith, filling_on (nodes-on _ _ _ c.loop-i-test.true c.node_at.ensures) c.loop-i.invariant.1 c.put_node_line-next.ensures)

pub returns : goal.returns
returns c = filling_end (nodes-end _ _ _ c.loop-i-test.false) c.loop-i.invariant.1
