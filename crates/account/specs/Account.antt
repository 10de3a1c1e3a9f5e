-- Where the bytes of a file go (02, E9). Each place has a kind: that of what header, tree or detached nodes read or pass over there; any other place is all else.
-- Assumes nothing.
use Rattle.std.specs.Prelude.{◌≡◌, Bool, cond, ◌&&◌, ◌⊎◌, List, [], ◌∷◌, ◌++◌, ℕ, zero, suc, ◌+◌, T, eqb, ltb, leb, length}
use Rattle.machine.specs.Machine.{Event, seen, passed, trace}
use Rattle.cursor.specs.Rows.{Frame, file_frame, node_frame, meta_frame, unpack_frame, reference_frame, Plain, language, name, uri, Part, node_row, item_row, plain, Events}
use Rattle.header.specs.Header.{Header, header}
use Rattle.metadata.specs.declared.Limits.{Limits}
use Rattle.file.specs.Hidden.{is_hidden}
use Rattle.file.specs.Reading.{log_from}
use Rattle.file.specs.Asking.{Result, good, bad, Asks}
use Rattle.account.specs.declared.Kinds.{Kinds}

-- ---- the nine kinds, by number

abbrev pub of_header : ℕ
of_header = 0

abbrev pub of_nodes : ℕ
of_nodes = 1

abbrev pub of_metadata : ℕ
of_metadata = 2

abbrev pub visible_data : ℕ
visible_data = 3

abbrev pub hidden_data : ℕ
hidden_data = 4

abbrev pub of_unpackers : ℕ
of_unpackers = 5

abbrev pub of_references : ℕ
of_references = 6

abbrev pub inline_data : ℕ
inline_data = 7

abbrev pub all_else : ℕ
all_else = 8

-- ---- the kind of what is read, and of what is passed over

abbrev pub kind_of_frame : Frame → ℕ
kind_of_frame file_frame = of_header
kind_of_frame node_frame = of_nodes
kind_of_frame meta_frame = of_metadata
kind_of_frame unpack_frame = of_unpackers
kind_of_frame reference_frame = of_references

abbrev pub kind_of_plain : Plain → ℕ
kind_of_plain language = of_header
kind_of_plain name = of_metadata
kind_of_plain uri = of_references

-- a node's row passes its inline data, an item's row its data
abbrev pub kind_of : Part → ℕ
kind_of (node_row r) = inline_data
kind_of (item_row r) = cond (is_hidden r) hidden_data visible_data
kind_of (plain x) = kind_of_plain x

-- an event: its kind, its first byte, how many bytes it has
abbrev pub kind : Event Frame Part → ℕ
kind (seen κ p) = kind_of_frame κ
kind (passed w p n) = kind_of w

abbrev pub first : Event Frame Part → ℕ
first (seen κ p) = p
first (passed w p n) = p

abbrev pub size : Event Frame Part → ℕ
size (seen κ p) = 1
size (passed w p n) = n

abbrev pub has_byte : Event Frame Part → ℕ → Bool
has_byte e k = leb (first e) k && ltb k (first e + size e)

-- the kind of the byte at k: that of the first event which has it, and all else where none has
unfoldable pub kind_at : Events → ℕ → ℕ
kind_at [] k = all_else
kind_at (e ∷ es) k = cond (has_byte e k) (kind e) (kind_at es k)

-- those of n places from k on, in file order
unfoldable pub kinds_from : Events → (k n : ℕ) → List ℕ
kinds_from es k zero = []
kinds_from es k (suc n) = kind_at es k ∷ kinds_from es (k + 1) n

-- the same with no order: an event of that kind has the byte; or none of any kind has it, and it is all else
abbrev pub Had : Events → (k kind : ℕ) → Type 0
Had [] k κ = ⊥
Had (e ∷ es) k κ = (T (has_byte e k) × (kind e ≡ κ)) ⊎ Had es k κ

abbrev pub IsOf : Events → (k kind : ℕ) → Type 0
IsOf es k κ = Had es k κ ⊎ ((κ ≡ all_else) × ((κ' : ℕ) → Had es k κ' → ⊥))

-- ---- counts

-- how many of the first n places pass a test
unfoldable pub places : (ℕ → Bool) → (n : ℕ) → ℕ
places p zero = 0
places p (suc n) = cond (p n) 1 0 + places p n

-- how many of them are of a kind
abbrev pub places_of : ℕ → Events → (n : ℕ) → ℕ
places_of κ es n = places (λ k. eqb κ (kind_at es k)) n

-- the places of each kind, in a file of n bytes
abbrev pub counts : (n : ℕ) → Events → Kinds
counts n es = record {
  header = places_of of_header es n;
  nodes = places_of of_nodes es n;
  metadata = places_of of_metadata es n;
  visible = places_of visible_data es n;
  hidden = places_of hidden_data es n;
  unpackers = places_of of_unpackers es n;
  references = places_of of_references es n;
  inline = places_of inline_data es n;
  rest = places_of all_else es n;
}

-- ---- the events of a file whose header is h: its own, and those of the tree and of detached nodes

abbrev pub logged : Result Events → Events
logged (good es) = es
logged (bad n p) = []

unfoldable pub events_of : Limits → List ℕ → Header → Events
events_of lim f h = trace (header (length f)) f 0 ++ logged (log_from lim f h)

-- the question
unfoldable pub kinds_of : Limits → Asks Kinds
kinds_of lim f h ns is = good (counts (length f) (events_of lim f h))

-- ---- sums

abbrev pub sum_over : {A : Type 0} → (A → ℕ) → List A → ℕ
sum_over c [] = 0
sum_over c (r ∷ rs) = c r + sum_over c rs
