-- The tree (01, Nodes): nodes, each of which may be a folder of nodes.
-- Assumes nothing.
use Rattle.std.specs.Prelude.{ℕ, zero, suc, ◌+◌, ◌-◌, ltb, leb}
use Rattle.machine.specs.Machine.{ret, refuse, here, ◌>>=◌, ◌>>◌, place, skip, check, times}
use Rattle.cursor.specs.Rows.{P, node_row, inline_size}
use Rattle.cursor.specs.Refusals.{too_deep, no_row_left, bytes_left}
use Rattle.metadata.specs.Tables.{plus_node}
use Rattle.metadata.specs.Metadata.{Context}
use Rattle.metadata.specs.declared.Made.{Made}
use Rattle.node.specs.Node.{in_tree, outside_tree, front}
use Rattle.node.specs.declared.Bounds.{Bounds}

-- the deepest level, with the root at 1
abbrev pub most_depth : ℕ
most_depth = 16

-- a folder's children, which are to fill it up to its end
unfoldable pub folder : ℕ → P Made → P Made
folder end children = do
  m ← children
  q ← place
  check (leb end q) bytes_left q
  ret m

-- A node with these bounds, and d levels left. A file node is a folder without children: after its inline data, or after references 2, 3 and 4, nothing remains.
unfoldable pub node : ℕ → Context → (parent : ℕ) → Bounds → Made → P Made
node zero x parent s m = here λ p. refuse too_deep p
node (suc d) x parent s m = do
  p ← place
  check (ltb m.nodes x.limits.nodes) no_row_left p
  w ← front x parent (most_depth - d) s m
  skip (node_row w.row) (inline_size w.row)
  folder (p + w.row.size) (times w.row.contained (node d x m.nodes (in_tree 0 (p + w.row.size))) (plus_node w.made))

-- the tree is one node, the root, which ends where the tree does
unfoldable pub tree : Context → ℕ → P Made
tree x end = node most_depth x 0 (in_tree end end) (record { nodes = 0; items = 0 })

-- a detached node: of depth 0, one level above the root's, and its own parent
unfoldable pub detached : Context → (end taken offset : ℕ) → Made → P Made
detached x end taken offset m = node (suc most_depth) x m.nodes (outside_tree end taken offset) m
