-- `put_node_rows` puts the lines of the node rows. The invariant: of the whole, the lines from row i on are still to be put.
-- Assumes nothing.
use Prim.Native.Nat.{◌-◌}
use Rattle.room.proofs.Counting.{Going}
use Rattle.rows.specs.Rows.{nodes_from, nodes_in}
use Rattle.tables.specs.Rows.{node_rows}
use Rattle.tables.proofs.all_rows.put_node_rows.Given as goal

abbrev pub invariant-loop-i : goal.invariant-loop-i
invariant-loop-i l = Going l.initial.out l.out l.initial.next l.next (node_rows 0 (nodes_in l.count l.nodes)) (node_rows l.i (nodes_from l.i (l.count - l.i) l.nodes))
