-- `in_nodes` adds row after row. The invariant: what is left to do is what the rows from row i on give.
-- Assumes nothing.
use native.Mathlib.Omega.{arith}
use Rattle.account.proofs.Folding.{folding_begun, folding_on, nodes-done, nodes-small}
use Rattle.account.proofs.in_nodes.Goals as goal

pub loop-i-init : goal.loop-i-init
loop-i-init c = (omega arith, folding_begun _ _ _ _ _ _)

pub with_node-sum-requires : goal.with_node-sum-requires
with_node-sum-requires c = rw c.node_at.ensures (c.requires.0.1 _ (omega arith), nodes-small _ _ _ (omega arith) c.loop-i.invariant.1 c.requires.1)

pub loop-i-preserved : goal.loop-i-preserved
loop-i-preserved c = (omega arith, folding_on _ _ _ _ _ _ (omega arith) c.loop-i.invariant.1 c.node_at.ensures c.with_node-sum.ensures)

pub returns : goal.returns
returns c = nodes-done _ _ _ (omega arith) c.loop-i.invariant.1
