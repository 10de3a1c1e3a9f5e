-- A node's own rows: the item rows whose node word is its row, with their numbers in the item table. Find and the verdict are defined by `own`.
-- What the code knows of the tables stands apart, at the end: contracts of inner functions and proofs say it, no definition of a question does.
-- Assumes nothing.
use Rattle.std.specs.Prelude.{◌≡◌, Bool, cond, List, [], ◌∷◌, map, ℕ, zero, suc, ◌+◌, ◌*◌, ◌-◌, ◌≤◌, ◌<◌, eqb, length, take, drop}
use Rattle.cursor.specs.declared.Node.{Node}
use Rattle.cursor.specs.declared.Item.{Item}
use Rattle.rows.specs.Rows.{node_width, nodes_in, items_in, ItemRows}

-- ---- a node's own rows

-- an item row with its number in the item table
pub record Numbered : Type 0 where
  pub row : ℕ
  pub item : Item

abbrev pub items_of : List Numbered → List Item
items_of xs = map (λ (x : Numbered). x.item) xs

-- these rows, the first of which is row i
unfoldable pub numbered : (i : ℕ) → List Item → List Numbered
numbered i [] = []
numbered i (r ∷ rs) = record { row = i; item = r } ∷ numbered (i + 1) rs

-- those that are as p says
unfoldable pub those : {A : Type 0} → (A → Bool) → List A → List A
those p [] = []
those p (x ∷ xs) = cond (p x) (x ∷ those p xs) (those p xs)

-- node k's own rows, of all item rows
abbrev pub is_own : ℕ → Numbered → Bool
is_own k x = eqb x.item.node k

unfoldable pub own : List Item → ℕ → List Numbered
own is k = those (is_own k) (numbered 0 is)

-- ---- what the code knows of the tables

-- the first row of node k, as the code counts: as many rows stand before it as the nodes before it have
unfoldable pub first_row : List Node → ℕ → ℕ
first_row ns zero = 0
first_row [] (suc k) = 0
first_row (r ∷ ns) (suc k) = r.rows + first_row ns k

-- the item rows from one row on and before another
abbrev pub part : List Item → (from end : ℕ) → List Item
part is from end = take (end - from) (drop from is)

-- each node's own rows are a run of the item rows: as many as the node's row counts, behind those of the nodes before it
pub record Runs (ns : List Node) (is : List Item) : Type 0 where
  pub run : (k : ℕ) → k < length ns → own is k ≡ numbered (first_row ns k) (part is (first_row ns k) (first_row ns (k + 1)))
  pub whole : first_row ns (length ns) ≡ length is

-- the tables of an accepted file hold n node rows and m item rows, whose data and names lie in the file, and each node's own rows are a run of these
pub record Tables (file nodes items : List ℕ) (n m : ℕ) : Type 0 where
  pub node-room : n * node_width ≤ length nodes
  pub item-rows : ItemRows (length file) m items
  pub runs : Runs (nodes_in n nodes) (items_in m items)
