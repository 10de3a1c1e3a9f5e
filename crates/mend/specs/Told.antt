-- What the code's answers say, and what the call leaves: each is one line of its contract.
-- Assumes nothing.
use Rattle.std.specs.Prelude.{◌≡◌, Ok, Err, Bool, ◌&&◌, List, [], ◌∷◌, ℕ, ◌+◌, ◌^◌, ◌≤◌, ◌<◌, ltb, leb, length, replicate}
use Rattle.std.specs.Prelude as std
use Rattle.machine.specs.Machine.{Out, ok, refused}
use Rattle.refusals.specs.Reasons.{number_of}
use Rattle.refusals.specs.declared.Refusal.{Refusal}
use Rattle.header.specs.Types.{types_of, most_types}
use Rattle.header.specs.Told.{edition_of}
use Rattle.room.specs.Room.{Result, good, bad, kept}
use Rattle.metadata.specs.Tables.{limits}
use Rattle.file.specs.Asking.{written_nodes, written_items, nodes_written, items_written}
use Rattle.mend.specs.Fields as spec
use Rattle.mend.specs.Fields.{width}
use Rattle.mend.specs.Mend.{Mended, set_to, both_lines, fitting, mend}
use Rattle.mend.specs.declared.Field.{Field}
use Rattle.mend.specs.declared.Fields.{Fields}

-- ---- the fields, with the types as their table has them

abbrev pub field_of : Field → spec.Field
field_of x = record { place = x.place.0; value = x.value; end = x.end.0 }

abbrev pub field_told : std.Result Field Refusal → Out spec.Field
field_told (Ok x) = ok (field_of x) x.end.0
field_told (Err r) = refused (number_of r.0) r.1

abbrev pub fields_of : Fields → List ℕ → spec.Fields
fields_of w ws = record { version = w.version; edition = edition_of w.edition; length = field_of w.length; types = types_of w.types ws; start = w.start; last = field_of w.last }

abbrev pub fields_told : std.Result Fields Refusal → List ℕ → Out spec.Fields
fields_told (Ok w) ws = ok (fields_of w ws) w.last.end.0
fields_told (Err r) ws = refused (number_of r.0) r.1

abbrev pub FewTypes : std.Result Fields Refusal → Type 0
FewTypes (Ok w) = w.types ≤ most_types
FewTypes (Err r) = Unit {0}

-- What the code knows of the fields: each has one to four bytes, and they lie apart in a file of `size` bytes.
pub record FieldsIn (w : spec.Fields) (size : ℕ) : Type 0 where
  pub length_some : w.length.place < w.length.end
  pub length-few : w.length.end ≤ w.length.place + 4
  pub apart : w.length.end ≤ w.last.place
  pub last_some : w.last.place < w.last.end
  pub last-few : w.last.end ≤ w.last.place + 4
  pub inside : w.last.end ≤ size
  pub start_small : w.start < 2 ^ 28
  pub small : size < 2 ^ 28

-- What is asked of the two values before the file is read behind its header: each fits its bytes, and the tree lies in the file behind the header.
unfoldable pub sound_for : (size : ℕ) → spec.Fields → (last : ℕ) → Bool
sound_for size w b = ltb size (128 ^ width w.length) && (ltb b (128 ^ width w.last) && (leb w.last.end w.start && (leb w.start b && ltb b size)))

-- ---- the answer

-- the bytes of the copy, and of the lines
pub record Sizes : Type 0 where
  pub copy : ℕ
  pub lines : ℕ

-- in words
abbrev pub size_words : Sizes → List ℕ
size_words s = s.copy ∷ s.lines ∷ []

abbrev pub told : std.Result (ℕ × ℕ) Refusal → Result Sizes
told (Ok (a, b)) = good (record { copy = a; lines = b })
told (Err r) = bad (number_of r.0) r.1

abbrev pub sizes_of : Result Mended → Result Sizes
sizes_of (good m) = good (record { copy = length m.copy; lines = length m.lines })
sizes_of (bad n p) = bad n p

-- what is put into each of the two buffers
abbrev pub copy_in : Result Mended → Result (List ℕ)
copy_in (good m) = good m.copy
copy_in (bad n p) = bad n p

abbrev pub lines_in : Result Mended → Result (List ℕ)
lines_in (good m) = good m.lines
lines_in (bad n p) = bad n p

-- the question, of the tables, the buffers and the file that are lent
abbrev pub asked : (nodes items copy lines file : List ℕ) → Result Mended
asked nodes items copy lines file = mend (limits (length nodes) (length items)) (length copy) (length lines) file

-- what it leaves in each of them
abbrev pub nodes_after : (nodes items copy lines file : List ℕ) → List ℕ
nodes_after nodes items copy lines file = nodes_written nodes items (copy_in (asked nodes items copy lines file))

abbrev pub items_after : (nodes items copy lines file : List ℕ) → List ℕ
items_after nodes items copy lines file = items_written nodes items (copy_in (asked nodes items copy lines file))

abbrev pub copy_after : (nodes items copy lines file : List ℕ) → List ℕ
copy_after nodes items copy lines file = kept (length copy) (copy_in (asked nodes items copy lines file))

abbrev pub lines_after : (nodes items copy lines file : List ℕ) → List ℕ
lines_after nodes items copy lines file = kept (length lines) (lines_in (asked nodes items copy lines file))

-- the same, of their sizes; and all that it leaves: answer, tables, buffers
pub record Ends (f : List ℕ) (nsize isize room space : ℕ) (r : Result Sizes) (t u c l : List ℕ) : Type 0 where
  pub answer : r ≡ sizes_of (mend (limits nsize isize) room space f)
  pub nodes : t ≡ written_nodes nsize (limits nsize isize) (copy_in (mend (limits nsize isize) room space f))
  pub items : u ≡ written_items isize (limits nsize isize) (copy_in (mend (limits nsize isize) room space f))
  pub copy : c ≡ kept room (copy_in (mend (limits nsize isize) room space f))
  pub lines : l ≡ kept space (lines_in (mend (limits nsize isize) room space f))

-- ---- both fields set in a file whose fields are w; or no room for that

abbrev pub setting : (room space : ℕ) → List ℕ → spec.Fields → (last : ℕ) → Result Mended
setting room space f w b = fitting room space (record { copy = set_to f w (length f) b; lines = both_lines w.length w.last (length f) b })

-- a table that is kept, or cleared
abbrev pub kept_as : List ℕ → Result Mended → List ℕ
kept_as ws (good m) = ws
kept_as ws (bad n p) = replicate (length ws) 0

-- what is left: answer, tables and buffers
pub record Set (f : List ℕ) (w : spec.Fields) (b : ℕ) (r : Result Sizes) (t u : List ℕ) (room space : ℕ) (t' u' c l : List ℕ) : Type 0 where
  pub answer : r ≡ sizes_of (setting room space f w b)
  pub nodes : t' ≡ kept_as t (setting room space f w b)
  pub items : u' ≡ kept_as u (setting room space f w b)
  pub copy : c ≡ kept room (copy_in (setting room space f w b))
  pub lines : l ≡ kept space (lines_in (setting room space f w b))
