-- What the code knows and says of a node: its two lengths, and its bytes as they are put and appended.
-- Assumes nothing.
use Rattle.std.specs.Prelude.{◌≡◌, Bool, List, [], ◌++◌, ℕ, ◌+◌, ◌≤◌, ◌<◌, min, length}
use Rattle.room.specs.Parts.{part}
use Rattle.cursor.specs.declared.Node.{Node}
use Rattle.metadata.specs.Tables.{most_nodes}
use Rattle.room.specs.Counts.{Counts}
use Rattle.title_text.specs.Description.{Content, shape}
use Rattle.title_text.specs.Text.{items_text, node_text}
use Rattle.title_nodes.specs.Passes.{size_stop, Framed}
use Rattle.title_nodes.specs.declared.Frame.{Frame}
use Rattle.title_nodes.specs.declared.Run.{Run}

-- the lengths are those of the row's node in any file that holds it, with contents and unpackers of these sizes
abbrev pub FrameTold : Node → (metadata packed inner : ℕ) → Frame → Type 0
FrameTold row metadata packed inner r =
    (f : List ℕ) (cs : List Content) → row.target + row.extent ≤ length f → Counts [] [] 0 (shape f row).unpackers packed
    → metadata ≡ min (length (items_text cs)) size_stop → Framed (shape f row) cs inner r

-- a node that was measured, and is not too large, is put
abbrev pub NodePut : List ℕ → Node → List Content → Frame → (out out' : List ℕ) → (to r : ℕ) → Type 0
NodePut f node cs frame out out' to r =
    (inner : ℕ) → Framed (shape f node) cs inner frame → length (node_text (shape f node) cs inner) + inner < size_stop
    → Counts out out' to (node_text (shape f node) cs inner) r

-- Bytes are appended to what is put and to a part of the file that is to be put behind it: the one or the other grows.
pub record Appends (f out out' : List ℕ) (r : Run) (bytes : List ℕ) (r' : Run) : Type 0 where
  pub inside : r'.from + r'.size ≤ length f
  pub put : List ℕ
  pub counts : Counts out out' r.next put r'.next
  pub text : put ++ part f r'.from r'.size ≡ part f r.from r.size ++ bytes

-- a node that was measured, and is not too large, is appended
abbrev pub NodeAppended : List ℕ → Node → List Content → Frame → (out out' : List ℕ) → (r r' : Run) → Type 0
NodeAppended f node cs frame out out' r r' =
    (inner : ℕ) → (node.contained ≡ 0 → inner ≡ 0) → Framed (shape f node) cs inner frame
    → length (node_text (shape f node) cs inner) + inner < size_stop → Appends f out out' r (node_text (shape f node) cs inner) r'

-- a word for each node in each of these
abbrev pub NodeRoom : (metadata packed : List ℕ) → List Bool → (headers lengths : List ℕ) → Type 0
NodeRoom metadata packed same headers lengths =
    (length metadata ≡ most_nodes) × (length packed ≡ most_nodes) × (length same ≡ most_nodes) × (length headers ≡ most_nodes) × (length lengths ≡ most_nodes)
