-- `in_nodes` adds row after row. The invariant: what is left to do is what the rows from row i on give.
-- Assumes nothing.
use Prim.Native.Nat.{◌≤◌}
use Rattle.rows.specs.Rows.{node_width, node_from}
use Rattle.account.specs.ByRows.{with_node}
use Rattle.account.proofs.Folding.{Folding}
use Rattle.account.proofs.in_nodes.Given as goal

abbrev pub invariant-loop-i : goal.invariant-loop-i
invariant-loop-i l = (l.i ≤ l.count) × Folding (with_node l.file) node_width node_from l.nodes l.count l.initial.sum l.i l.sum
