-- The code's way: the same counts from the rows, for which four numbers of each node are read again. That they are the same is proved (`kinds-are`).
-- Assumes nothing.
use Rattle.std.specs.Prelude.{cond, List, [], ◌∷◌, ℕ, zero, suc, ◌+◌, ◌*◌, ◌-◌, ◌%◌, ◌^◌, ◌≤◌, ◌<◌, min, eqb, ltb, length, get_or}
use Rattle.room.specs.Counts.{too_many}
use Rattle.machine.specs.Machine.{Out, ok, refused, run}
use Rattle.cursor.specs.Rows.{meta_frame, inline_size}
use Rattle.cursor.specs.Refusals.{cut_short}
use Rattle.cursor.specs.Leaves.{number}
use Rattle.cursor.specs.declared.Node.{Node}
use Rattle.cursor.specs.declared.Item.{Item}
use Rattle.cursor.specs.Told.{Readable}
use Rattle.rows.specs.Rows.{node_width, item_width, node_from, nodes_in, items_in}
use Rattle.account.specs.declared.Kinds.{Kinds}
use Rattle.account.specs.declared.Frames.{Frames}
use Rattle.account.specs.declared.Data.{Data}

-- a sum over files stays at the greatest number
abbrev pub plus : ℕ → ℕ → ℕ
plus a b = min (a + b) too_many

-- ---- where the parts of a node begin

-- the first byte below 80h, from p on, of at most `more` bytes behind that at p
unfoldable pub last_from : List ℕ → (more p : ℕ) → ℕ
last_from f zero p = p
last_from f (suc more) p = cond (ltb (get_or f p 0) 0x80) p (last_from f more (p + 1))

-- the last byte of the number at p, and the place behind it
abbrev pub last_byte : List ℕ → ℕ → ℕ
last_byte f p = last_from f 3 p

abbrev pub behind : List ℕ → ℕ → ℕ
behind f p = last_byte f p + 1

-- the bytes of the number at p, and of the block that it counts
abbrev pub counted : ℕ → Out ℕ → ℕ
counted p (ok n q) = q + n - p
counted p (refused n q) = 0

-- a node's metadata: behind its three numbers
unfoldable pub meta_at : List ℕ → Node → ℕ
meta_at f r = behind f (behind f (behind f r.start))

-- its unpackers: behind the metadata's length and what it counts
unfoldable pub meta_end : List ℕ → Node → ℕ
meta_end f r = meta_at f r + counted (meta_at f r) (run (number meta_frame cut_short (r.start + r.size)) f (meta_at f r))

-- its contents: where a reference 1 leads, and else the node's end
unfoldable pub contents_at : Node → ℕ
contents_at r = cond (eqb r.reference 1) r.target (r.start + r.size)

-- what follows a reference 1, which runs to the node's end; and the bytes before the contents
unfoldable pub follow_size : Node → ℕ
follow_size r = cond (eqb r.reference 1) r.extent 0

abbrev pub front_size : Node → ℕ
front_size r = r.size - follow_size r

-- ---- sums over rows

-- the own bytes of nodes: the three numbers; the metadata with its data; all before the reference; all before the contents; inline data
abbrev pub with_node : List ℕ → Frames → Node → Frames
with_node f k r = record {
  nodes = k.nodes + (meta_at f r - r.start);
  metadata = k.metadata + (meta_end f r - meta_at f r);
  headers = k.headers + r.header;
  fronts = k.fronts + front_size r;
  inline = k.inline + inline_size r;
}

-- the data of item rows: all, and that of an odd format
abbrev pub with_item : Data → Item → Data
with_item d r = record { all = d.all + r.size; hidden = d.hidden + r.format % 2 * r.size }

-- row after row
unfoldable pub folded : {S A : Type 0} → (S → A → S) → S → List A → S
folded add s [] = s
folded add s (r ∷ rs) = folded add (add s r) rs

abbrev pub none : Frames
none = record { nodes = 0; metadata = 0; headers = 0; fronts = 0; inline = 0 }

abbrev pub in_nodes : List ℕ → List Node → Frames
in_nodes f ns = folded (with_node f) none ns

abbrev pub nothing : Data
nothing = record { all = 0; hidden = 0 }

abbrev pub in_items : List Item → Data
in_items is = folded with_item nothing is

-- ---- all together, in a file of `size` bytes whose header ends at `end`: each kind is what others leave

abbrev pub together : (size end : ℕ) → Frames → Data → Kinds
together size end k d = record {
  header = end;
  nodes = k.nodes;
  metadata = k.metadata - d.all;
  visible = d.all - d.hidden;
  hidden = d.hidden;
  unpackers = k.headers - k.nodes - k.metadata;
  references = k.fronts - k.headers;
  inline = k.inline;
  rest = size - end - k.fronts - k.inline;
}

unfoldable pub kinds_by : List ℕ → (end : ℕ) → List Node → List Item → Kinds
kinds_by f end ns is = together (length f) end (in_nodes f ns) (in_items is)

-- ---- what the code knows of the rows: the parts of a node follow each other, and it lies in the file, which is no longer than an accepted one may be

abbrev pub Inside : List ℕ → Node → Type 0
Inside f r = (meta_at f r < meta_end f r) × (meta_end f r < r.start + r.header) × (r.header < front_size r) × Readable (r.start + r.size) f

-- n rows stand in the words, each so
abbrev pub NodesInside : List ℕ → (n : ℕ) → List ℕ → Type 0
NodesInside f n ws = (n * node_width ≤ length ws) × ((i : ℕ) → i < n → Inside f (node_from ws (i * node_width)))

-- sums are no greater than an accepted file may be long
abbrev pub SmallFrames : Frames → Type 0
SmallFrames k = (k.nodes < 2 ^ 28) × (k.metadata < 2 ^ 28) × (k.headers < 2 ^ 28) × (k.fronts < 2 ^ 28) × (k.inline < 2 ^ 28)

abbrev pub SmallData : Data → Type 0
SmallData d = (d.all < 2 ^ 28) × (d.hidden < 2 ^ 28)

-- and none is greater than what it is taken out of
abbrev pub Fits : (size end : ℕ) → Frames → Data → Type 0
Fits size end k d = (k.nodes + k.metadata ≤ k.headers) × (k.headers ≤ k.fronts) × (end + k.fronts + k.inline ≤ size) × (d.hidden ≤ d.all) × (d.all ≤ k.metadata) × (size < 2 ^ 28)

abbrev pub RowsFit : List ℕ → (end nodeCount : ℕ) → List ℕ → (itemCount : ℕ) → List ℕ → Type 0
RowsFit f end n ws m vs = NodesInside f n ws × (m * item_width ≤ length vs) × Fits (length f) end (in_nodes f (nodes_in n ws)) (in_items (items_in m vs))
