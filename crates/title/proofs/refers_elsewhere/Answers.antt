-- `refers_elsewhere` looks at row after row. The invariant: no row so far has reference 2 or 3.
-- Assumes nothing.
use Rattle.title.proofs.Refusals.{looking_start, looking_two, looking_three, looking_on, looking_end}
use Rattle.title.proofs.refers_elsewhere.Goals.{then-node-eq2-via-then-node-eq2, then-node-eq2-via-else-node-eq2+then-node-eq3}
use Rattle.title.proofs.refers_elsewhere.Goals as goal

pub loop-i-init : goal.loop-i-init
loop-i-init c = looking_start _ _

pub returns-then-node-eq2 : goal.returns-then-node-eq2
returns-then-node-eq2 c = elim c.then-node-eq2.branch [
  | then-node-eq2-via-then-node-eq2 w ↦ looking_two c.loop-i.invariant c.loop-i-test.true c.node_at-node.ensures w.if-node-eq2.true
  | then-node-eq2-via-else-node-eq2+then-node-eq3 w ↦
      looking_three c.loop-i.invariant c.loop-i-test.true c.node_at-node.ensures w.if-node-eq2.false w.if-node-eq3.true
]

pub loop-i-preserved : goal.loop-i-preserved
loop-i-preserved c = looking_on c.loop-i.invariant c.loop-i-test.true c.node_at-node.ensures c.if-node-eq2.false c.if-node-eq3.false

pub returns : goal.returns
returns c = looking_end c.loop-i.invariant c.loop-i-test.false
