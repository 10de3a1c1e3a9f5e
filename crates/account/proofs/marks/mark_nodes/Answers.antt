-- `mark_nodes` marks row after row. The invariant: what is left to do is what the rows from row i on give.
-- Assumes nothing.
use mathlib.Core.Path.{sym, subst}
use native.Mathlib.Omega.{arith}
use Rattle.account.specs.ByRows.{Inside}
use Rattle.account.proofs.Marking.{painting_begun, painting_on, nodes-painted}
use Rattle.account.proofs.marks.mark_nodes.Goals as goal

pub loop-i-init : goal.loop-i-init
loop-i-init c = (omega arith, painting_begun _ _ _ _ _ _)

pub mark_node-requires : goal.mark_node-requires
mark_node-requires c = subst (Inside c.args.file.now) (sym c.node_at.ensures) (c.requires.1 _ (omega arith))

pub loop-i-preserved : goal.loop-i-preserved
loop-i-preserved c = (omega arith, painting_on _ _ _ _ _ _ (omega arith) c.loop-i.invariant.1 c.node_at.ensures c.mark_node.ensures)

pub returns : goal.returns
returns c = nodes-painted _ _ _ (omega arith) c.loop-i.invariant.1
