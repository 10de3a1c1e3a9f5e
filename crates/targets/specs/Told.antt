-- Where the detached nodes lie, row by row.
-- Assumes nothing.
use Rattle.std.specs.Prelude.{◌≡◌, cond, ◌&&◌, List, [], ◌∷◌, ℕ, ◌+◌, ◌^◌, ◌≤◌, ◌<◌, min, max, eqb, ltb, length}
use Rattle.cursor.specs.declared.Node.{Node}
use Rattle.rows.specs.Rows.{node_at, nodes_in}
use Rattle.targets.specs.declared.Span.{Span}

-- the first byte from p on that a detached node has, row by row, as the code finds it; `end` if none before that
unfoldable pub taken_by_rows : List Node → (p end : ℕ) → ℕ
taken_by_rows [] p end = end
taken_by_rows (r ∷ rs) p end = cond (eqb r.detached 1 && ltb p (r.start + r.size)) (min (max p r.start) (taken_by_rows rs p end)) (taken_by_rows rs p end)

-- each of the first `count` rows in the words is of a node that ends below 2 ^ 28
abbrev pub EndLow : (count : ℕ) → List ℕ → Type 0
EndLow count ws = (i : ℕ) → i < count → (node_at (nodes_in count ws) i).start + (node_at (nodes_in count ws) i).size < 2 ^ 28

-- none of the first `tree` of them is detached
abbrev pub Attached : (tree count : ℕ) → List ℕ → Type 0
Attached tree count ws = (i : ℕ) → i < tree → (node_at (nodes_in count ws) i).detached ≡ 0

-- the header of the node of row i ends in a file of `size` bytes
abbrev pub HeaderIn : (size count : ℕ) → List ℕ → (i : ℕ) → Type 0
HeaderIn size count ws i = (node_at (nodes_in count ws) i).start + (node_at (nodes_in count ws) i).header ≤ size

-- the rows behind the first `tree` are of detached nodes that lie in the span; its first byte is the first that any has, in a file of `size` bytes
pub record Spanned (tree size : ℕ) (ns : List Node) (s : Span) : Type 0 where
  pub rows : (i : ℕ) → tree ≤ i → i < length ns → ((node_at ns i).detached ≡ 1) × (0 < (node_at ns i).size) × ((node_at ns i).start + (node_at ns i).size ≤ s.beyond.0)
  pub first-is : s.first.0 ≡ taken_by_rows ns 0 size

-- the span s and the node r lie in the span s', which begins where the sooner of them does
pub record Spans (r : Node) (s s' : Span) : Type 0 where
  pub first-is : s'.first.0 ≡ min r.start s.first.0
  pub beyond_is : s'.beyond.0 ≡ max s.beyond.0 (r.start + r.size)
