-- What the bytes of a file are: the kinds of frame bytes, and what is passed over. The rows of 01's two tables are among the latter.
-- Assumes nothing.
use Rattle.std.specs.Prelude.{Bool, true, false, ◌&&◌, List, ℕ, eqb}
use Rattle.machine.specs.Machine.{Prog, Event}
use Rattle.cursor.specs.declared.Node.{Node}
use Rattle.cursor.specs.declared.Item.{Item}

-- what a byte that is read belongs to
pub data Frame : Type 0 where
  file_frame node_frame meta_frame unpack_frame reference_frame : Frame

-- bytes that are passed over and make no row: a language's name, a custom field's name, a URI
pub data Plain : Type 0 where
  language name uri : Plain

-- what is passed over: a node row's inline data, which only a file node has; an item row's data; other bytes
pub data Part : Type 0 where
  node_row : Node → Part
  item_row : Item → Part
  plain : Plain → Part

-- a file node with reference 1, whose contents follow it to its end
abbrev pub has_inline : Node → Bool
has_inline r = eqb r.contained 0 && eqb r.reference 1

-- n, or 0
abbrev pub size_if : Bool → ℕ → ℕ
size_if true n = n
size_if false n = 0

-- the bytes of a node's inline data
abbrev pub inline_size : Node → ℕ
inline_size r = size_if (has_inline r) r.extent

-- a program that reads XMF
abbrev pub P : Type 0 → Type 0
P A = Prog Frame Part A

abbrev pub Events : Type 0
Events = List (Event Frame Part)
