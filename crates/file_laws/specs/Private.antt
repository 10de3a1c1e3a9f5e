-- The places at which demand 3 lets two files differ: hidden data, inline data of file nodes, and bytes of no part that is read.
-- Assumes nothing.
use Rattle.std.specs.Prelude.{Bool, not, ◌&&◌, ◌||◌, List, ◌⊎◌, ◌≡◌, ℕ, ◌+◌, ◌≤◌, ◌<◌, T, eqb, length, get_or}
use Rattle.cursor.specs.declared.Node.{Node}
use Rattle.cursor.specs.declared.Item.{Item}
use Rattle.header.specs.Header.{Header}
use Rattle.rows.specs.Rows.{node_at, item_at}
use Rattle.file.specs.Hidden.{is_hidden}

-- hidden, and in a custom field or in a standard field other than 0, 3 and 13
unfoldable pub may_differ : Item → Bool
may_differ r = is_hidden r && (eqb r.kind 1 || not (eqb r.field 0 || eqb r.field 3 || eqb r.field 13))

-- ---- places, by the header and rows of a file

-- k is a data byte of such a content
abbrev pub HiddenData : List Item → ℕ → Type 0
HiddenData is k = (i : ℕ) × (i < length is) × T (may_differ (item_at is i)) × ((item_at is i).place ≤ k) × (k < (item_at is i).place + (item_at is i).size)

-- k is a byte of the inline data of a file node: no contained items, reference 1
abbrev pub InlineData : List Node → ℕ → Type 0
InlineData ns k = (i : ℕ) × (i < length ns) × ((node_at ns i).contained ≡ 0) × ((node_at ns i).reference ≡ 1) × ((node_at ns i).target ≤ k) × (k < (node_at ns i).target + (node_at ns i).extent)

-- k is a byte of a detached node
abbrev pub InDetached : List Node → ℕ → Type 0
InDetached ns k = (i : ℕ) × (i < length ns) × ((node_at ns i).detached ≡ 1) × ((node_at ns i).start ≤ k) × (k < (node_at ns i).start + (node_at ns i).size)

-- k is a byte of the header, of the tree or of a detached node
abbrev pub InParts : Header → List Node → ℕ → Type 0
InParts h ns k = (k < h.extent.end) ⊎ ((h.extent.start ≤ k) × (k ≤ h.extent.last)) ⊎ InDetached ns k

-- k is a place at which two files may differ
abbrev pub Private : Header → List Node → List Item → ℕ → Type 0
Private h ns is k = HiddenData is k ⊎ InlineData ns k ⊎ (InParts h ns k → ⊥)

-- two files of equal length that differ at private places of the first alone, whose header and rows are h, ns and is
pub record DifferInPrivate (h : Header) (ns : List Node) (is : List Item) (f g : List ℕ) : Type 0 where
  pub same_length : length f ≡ length g
  pub elsewhere : (k : ℕ) → k < length f → (Private h ns is k → ⊥) → get_or f k 0 ≡ get_or g k 0
