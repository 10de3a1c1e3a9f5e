-- `mark_nodes` marks row after row. The invariant: what is left to do is what the rows from row i on give.
-- Assumes nothing.
use Prim.Native.Nat.{◌≤◌}
use Rattle.rows.specs.Rows.{node_width, node_from}
use Rattle.account.specs.ByPlace.{over_node}
use Rattle.account.proofs.Marking.{Painting}
use Rattle.account.proofs.marks.mark_nodes.Given as goal

abbrev pub invariant-loop-i : goal.invariant-loop-i
invariant-loop-i l = (l.i ≤ l.count) × Painting (over_node l.file) node_width node_from l.nodes l.count l.initial.marks l.i l.marks
