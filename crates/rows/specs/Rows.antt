-- Rows as words of a table, rows read back off the words, by their number and by where they start, and the rows of events.
-- Assumes nothing.
use Rattle.std.specs.Prelude.{◌≡◌, cond, ◌⊎◌, List, [], ◌∷◌, ◌++◌, ℕ, zero, suc, ◌+◌, ◌*◌, ◌≤◌, ◌<◌, eqb, length, get_or}
use Rattle.machine.specs.Machine.{rows_of}
use Rattle.cursor.specs.Rows.{Part, node_row, item_row, plain, Events}
use Rattle.cursor.specs.declared.Node.{Node}
use Rattle.cursor.specs.declared.Item.{Item}

-- ---- rows as words

abbrev pub node_width : ℕ
node_width = 13

abbrev pub item_width : ℕ
item_width = 10

abbrev pub node_words : Node → List ℕ
node_words r =
    r.start ∷ r.size ∷ r.header ∷ r.contained ∷ r.parent ∷ r.depth ∷ r.reference ∷ r.target ∷ r.extent ∷ r.unpackers ∷ r.unpacker_count ∷ r.rows ∷ r.detached ∷ []

abbrev pub item_words : Item → List ℕ
item_words r = r.node ∷ r.item ∷ r.kind ∷ r.field ∷ r.name_length ∷ r.version ∷ r.declared ∷ r.format ∷ r.place ∷ r.size ∷ []

-- all rows as words
abbrev pub all_rows : {A : Type 0} → (A → List ℕ) → List A → List ℕ
all_rows words [] = []
all_rows words (r ∷ rs) = words r ++ all_rows words rs

abbrev pub all_nodes : List Node → List ℕ
all_nodes ns = all_rows node_words ns

abbrev pub all_items : List Item → List ℕ
all_items is = all_rows item_words is

-- ---- rows off words

-- the node row whose words begin at k
abbrev pub node_from : List ℕ → ℕ → Node
node_from ws k = record {
  start = get_or ws k 0;
  size = get_or ws (k + 1) 0;
  header = get_or ws (k + 2) 0;
  contained = get_or ws (k + 3) 0;
  parent = get_or ws (k + 4) 0;
  depth = get_or ws (k + 5) 0;
  reference = get_or ws (k + 6) 0;
  target = get_or ws (k + 7) 0;
  extent = get_or ws (k + 8) 0;
  unpackers = get_or ws (k + 9) 0;
  unpacker_count = get_or ws (k + 10) 0;
  rows = get_or ws (k + 11) 0;
  detached = get_or ws (k + 12) 0;
}

-- the item row whose words begin at k
abbrev pub item_from : List ℕ → ℕ → Item
item_from ws k = record {
  node = get_or ws k 0;
  item = get_or ws (k + 1) 0;
  kind = get_or ws (k + 2) 0;
  field = get_or ws (k + 3) 0;
  name_length = get_or ws (k + 4) 0;
  version = get_or ws (k + 5) 0;
  declared = get_or ws (k + 6) 0;
  format = get_or ws (k + 7) 0;
  place = get_or ws (k + 8) 0;
  size = get_or ws (k + 9) 0;
}

-- n rows of the words, from row i on: a row has `width` words, and `row` reads the one whose words begin at a place
unfoldable pub rows_from : {A : Type 0} → (width : ℕ) → (row : List ℕ → ℕ → A) → (i n : ℕ) → List ℕ → List A
rows_from width row i zero ws = []
rows_from width row i (suc n) ws = row ws (i * width) ∷ rows_from width row (i + 1) n ws

abbrev pub nodes_from : (i n : ℕ) → List ℕ → List Node
nodes_from i n ws = rows_from node_width node_from i n ws

abbrev pub items_from : (i n : ℕ) → List ℕ → List Item
items_from i n ws = rows_from item_width item_from i n ws

-- the first n rows
unfoldable pub nodes_in : ℕ → List ℕ → List Node
nodes_in n ws = nodes_from 0 n ws

unfoldable pub items_in : ℕ → List ℕ → List Item
items_in n ws = items_from 0 n ws

-- a row that is not there
abbrev pub no_node : Node
no_node = node_from [] 0

abbrev pub no_item : Item
no_item = item_from [] 0

-- row i
abbrev pub node_at : List Node → ℕ → Node
node_at ns i = get_or ns i no_node

abbrev pub item_at : List Item → ℕ → Item
item_at is i = get_or is i no_item

-- ---- rows of events, in their order

abbrev pub node_of : Part → ℕ → ℕ → List Node
node_of (node_row r) p n = r ∷ []
node_of (item_row r) p n = []
node_of (plain x) p n = []

abbrev pub item_of : Part → ℕ → ℕ → List Item
item_of (node_row r) p n = []
item_of (item_row r) p n = r ∷ []
item_of (plain x) p n = []

abbrev pub nodes_of : Events → List Node
nodes_of es = rows_of node_of es

abbrev pub items_of : Events → List Item
items_of es = rows_of item_of es

-- ---- where rows start

-- the number of the first row that starts at p; how many rows there are if none does, which an accepted file's reference 3 excludes
unfoldable pub row_starting : List Node → ℕ → ℕ
row_starting [] p = 0
row_starting (r ∷ rs) p = cond (eqb r.start p) 0 (suc (row_starting rs p))

-- how many rows are the tree's: those before the first detached one
unfoldable pub tree_rows : List Node → ℕ
tree_rows [] = 0
tree_rows (r ∷ rs) = cond (eqb r.detached 0) (suc (tree_rows rs)) 0

-- each row starts before those after it
abbrev pub Rising : List Node → Type 0
Rising ns = (i j : ℕ) → i < j → j < length ns → (node_at ns i).start < (node_at ns j).start

-- ---- rows whose bytes lie in a file of `size` bytes

-- a node's places
abbrev pub NodeIn : ℕ → Node → Type 0
NodeIn size r = (r.header ≤ r.size) × (r.start + r.size ≤ size) × ((r.reference ≡ 3) ⊎ (r.target + r.extent ≤ size))

-- an item's data and custom name
abbrev pub ItemIn : ℕ → Item → Type 0
ItemIn size r = (r.place + r.size ≤ size) × ((r.kind ≡ 0) ⊎ (r.field + r.name_length ≤ size))

-- those of all items
abbrev pub ItemsIn : ℕ → List Item → Type 0
ItemsIn size is = (i : ℕ) → i < length is → ItemIn size (item_at is i)

-- n item rows stand in the words, and lie in the file
abbrev pub ItemRows : (size n : ℕ) → List ℕ → Type 0
ItemRows size n ws = (n * item_width ≤ length ws) × ((i : ℕ) → i < n → ItemIn size (item_from ws (i * item_width)))
