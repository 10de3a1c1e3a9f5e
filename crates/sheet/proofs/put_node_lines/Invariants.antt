-- `put_node_lines` puts the lines of the node rows. The invariant: of the whole, the lines from row i on are still to be put.
-- Assumes nothing.
use Prim.Native.Nat.{◌-◌, ◌≤◌}
use Rattle.rows.specs.Rows.{nodes_from, nodes_in}
use Rattle.sheet.specs.Sheet.{node_lines}
use Rattle.sheet.proofs.Filling.{Filling}
use Rattle.sheet.proofs.put_node_lines.Given as goal

abbrev pub invariant-loop-i : goal.invariant-loop-i
invariant-loop-i l = (l.i ≤ l.count) × Filling l.initial.out l.out l.initial.next l.next (node_lines 0 (nodes_in l.count l.nodes)) (node_lines l.i (nodes_from l.i (l.count - l.i) l.nodes))
