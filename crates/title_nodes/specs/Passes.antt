-- What the code works on: a file, its tables, and the title; nodes and contents by their rows, and the bytes of the nodes from a row on.
-- Assumes nothing.
use Rattle.std.specs.Prelude.{◌≡◌, ◌⊎◌, Bool, false, cond, List, [], ◌∷◌, map, ℕ, zero, suc, ◌+◌, ◌-◌, ◌*◌, ◌^◌, ◌≤◌, ◌<◌, min, eqb, length, get_or, take}
use Rattle.room.specs.Parts.{part, joined}
use Rattle.vlq.specs.Vlq.{sized}
use Rattle.cursor.specs.declared.Node.{Node}
use Rattle.rows.specs.Rows.{node_width, node_from, nodes_from, ItemRows}
use Rattle.metadata.specs.Tables.{most_nodes}
use Rattle.title_text.specs.Description.{Content, Shape, shape}
use Rattle.title_text.specs.Title.{Bytes}
use Rattle.title_text.specs.Text.{items_text, header_of, own_text, node_text, outer}
use Rattle.title_items.specs.Contents.{contents_from}
use Rattle.title_parts.specs.Told.{PackedAs}
use Rattle.title_nodes.specs.declared.Frame.{Frame}

-- a size that is measured stops there: every file is shorter
abbrev pub size_stop : ℕ
size_stop = 2 ^ 28

-- ---- a node

-- the bytes of a URI or of inline data; a folder has none of its own
abbrev pub body_size : Node → ℕ
body_size r = cond (eqb r.contained 0) r.extent 0

-- what a node's header has behind its three numbers
abbrev pub rest_text : Shape → List Content → List ℕ
rest_text s cs = joined (sized (items_text cs) ∷ sized s.unpackers ∷ [])

-- NodeLength and NodeHeaderLength of a node with these contents, whose nodes have n bytes; where NodeLength is too large it stops, and nothing is said of the other
pub record Framed (s : Shape) (cs : List Content) (n : ℕ) (r : Frame) : Type 0 where
  pub stops : r.size ≡ min (length (node_text s cs n) + n) size_stop
  pub size : r.size < size_stop → r.size ≡ header_of s.contained (rest_text s cs) (length (own_text s) + n) + (length (own_text s) + n)
  pub header : r.size < size_stop → r.header ≡ header_of s.contained (rest_text s cs) (length (own_text s) + n)

abbrev pub sum_of : List ℕ → ℕ
sum_of [] = 0
sum_of (n ∷ ns) = n + sum_of ns

-- ---- the rows of a file, and what is to be written

-- `nodes` and `items` are the words of the tables, `count` and `total` the numbers of their rows; item row `row` gets the title
pub record Task : Type 0 where
  pub file : List ℕ
  pub nodes : List ℕ
  pub items : List ℕ
  pub count : ℕ
  pub total : ℕ
  pub row : ℕ
  pub title : List ℕ

abbrev pub task : (file nodes items : List ℕ) → (count total row : ℕ) → List ℕ → Task
task file nodes items count total row title = record { file = file; nodes = nodes; items = items; count = count; total = total; row = row; title = title }

-- how many item rows the node rows before row i have
unfoldable pub first_item : List ℕ → ℕ → ℕ
first_item ws zero = 0
first_item ws (suc i) = first_item ws i + (node_from ws (i * node_width)).rows

module _ (x : Task) where
  abbrev pub node_of : ℕ → Node
  node_of i = node_from x.nodes (i * node_width)

  abbrev pub shape_of : ℕ → Shape
  shape_of i = shape x.file (node_of i)

  -- the contents of node row i
  abbrev pub contents_of : ℕ → List Content
  contents_of i = contents_from x.file x.row x.title x.items (first_item x.nodes i) (node_of i).rows

  -- of the nodes from row i on those that no other of these holds, each with all that it holds
  unfoldable pub outer_from : ℕ → List (List ℕ)
  outer_from i =
      outer (map (shape x.file) (nodes_from i (x.count - i) x.nodes))
      (contents_from x.file x.row x.title x.items (first_item x.nodes i) (x.total - first_item x.nodes i))

  -- the bytes of the tree
  abbrev pub tree_text : List ℕ
  tree_text = joined (outer_from 0)

  -- the bytes of the nodes that node row i holds
  abbrev pub inner_of : ℕ → ℕ
  inner_of i = length (joined (take (node_of i).contained (outer_from (i + 1))))

-- row `row` is not among those from `first` on, up to `end`
abbrev pub Outside : (row first end : ℕ) → Type 0
Outside row first end = (row < first) ⊎ (end ≤ row)

-- a node that holds none, whose contents are the file's, and that has no more bytes in the file than its text: the file has that text
abbrev pub Leaf : List ℕ → Node → List Content → Type 0 → Type 0
Leaf f r cs own = Bytes f → r.contained ≡ 0 → own → length (node_text (shape f r) cs 0) ≡ r.size → node_text (shape f r) cs 0 ≡ part f r.start r.size

-- what is known of the rows: they and what they name lie in the tables and in the file, item rows belong to node rows, and a node's nodes follow it
pub record Sound (x : Task) : Type 0 where
  pub small : length x.file < 2 ^ 28
  pub few : x.count ≤ most_nodes
  pub node-room : x.count * node_width ≤ length x.nodes
  pub items-inside : ItemRows (length x.file) x.total x.items
  pub bodies_inside : (i : ℕ) → i < x.count → (node_of x i).target + (node_of x i).extent ≤ length x.file
  pub all-items : first_item x.nodes x.count ≡ x.total
  pub nodes-follow : (i : ℕ) → i < x.count → (node_of x i).contained ≤ length (outer_from x (i + 1))
  pub nodes-inside : (i : ℕ) → i < x.count → (node_of x i).start + (node_of x i).size ≤ length x.file
  pub leaves : (i : ℕ) → i < x.count → Leaf x.file (node_of x i) (contents_of x i) (Outside x.row (first_item x.nodes i) (first_item x.nodes i + (node_of x i).rows))

-- what the first pass found of row j: the bytes of its contents, stopped; of its unpackers; its two lengths
pub record Laid (x : Task) (j metadata packed : ℕ) (same : Bool) (header size : ℕ) : Type 0 where
  pub texts : metadata ≡ min (length (items_text (contents_of x j))) size_stop
  pub unpackers : PackedAs x.file (node_of x j) (record { size = packed; same = same })
  pub framed : Framed (shape_of x j) (contents_of x j) (min (inner_of x j) size_stop) (record { header = header; size = size })

-- it was at the rows from row i on
pub record Measured (x : Task) (i : ℕ) (metadata packed : List ℕ) (same : List Bool) (headers lengths : List ℕ) : Type 0 where
  pub laid : (j : ℕ) → i ≤ j → j < x.count → Laid x j (get_or metadata j 0) (get_or packed j 0) (get_or same j false) (get_or headers j 0) (get_or lengths j 0)

-- it was at all rows
abbrev pub Prepared : Task → (metadata packed : List ℕ) → (same : List Bool) → (headers lengths : List ℕ) → Type 0
Prepared x metadata packed same headers lengths = Sound x × Measured x 0 metadata packed same headers lengths
