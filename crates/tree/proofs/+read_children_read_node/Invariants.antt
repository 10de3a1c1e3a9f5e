-- Reading a node and reading its children, which call each other. What falls is one number, the levels left and the bytes left together: a child has
-- a level less than its holder and no more bytes, and a later child has fewer bytes. It is the measure of the calls (twice, and one more for children,
-- whose first child has the same left). The loop's invariant: what is left comes to what the whole comes to. Each child takes a byte of the part or more: there are no more children
-- than it has bytes, whatever the number of contained nodes.
-- Assumes nothing.
use lib.ListN.{length}
use Prim.Native.Nat.{ℕ, ◌+◌, ◌*◌, ◌-◌}
use Rattle.cursor.specs.declared.Cursor.{Cursor}
use Rattle.metadata.specs.Told.{context_of}
use Rattle.node.specs.declared.Bounds.{Bounds}
use Rattle.tree.proofs.Nodes.{Going}
use Rattle.tree.proofs.+read_children_read_node.Given as goal

-- the levels left, and the bytes left from the cursor to the end of what holds the node
abbrev falling : ℕ → Bounds → Cursor → ℕ
falling levels z c = levels + (z.end.0 - c.at.0)

abbrev pub decreases-read_children : goal.decreases-read_children
decreases-read_children l = 2 * falling l.levels l.s l.c + 1

abbrev pub decreases-read_node : goal.decreases-read_node
decreases-read_node l = 2 * falling l.levels l.s l.c

abbrev pub invariant-read_children-loop : goal.invariant-read_children-loop
invariant-read_children-loop l = Going
    (context_of l.scope l.types (length l.file)) l.file l.initial.nodes l.initial.items l.levels l.parent l.s l.initial.next.at.0 l.left l.initial.m l.nodes l.items l.next.at.0 l.counter l.m
