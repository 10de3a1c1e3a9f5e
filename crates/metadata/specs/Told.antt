-- What a call is given, and what the code's answers say, with the tables that the call left.
-- Assumes nothing.
use Rattle.std.specs.Prelude.{◌≡◌, Result, Ok, Err, Option, Some, None, List, ℕ, ◌+◌, ◌*◌, ◌≤◌, length}
use Rattle.machine.specs.Machine.{Out, ok, refused, run, exec}
use Rattle.cursor.specs.Rows.{P, meta_frame}
use Rattle.cursor.specs.Refusals.{cut_short}
use Rattle.cursor.specs.Leaves.{block}
use Rattle.cursor.specs.Leaves as leaves
use Rattle.cursor.specs.Told.{Readable, read_told}
use Rattle.cursor.specs.declared.Cursor.{Cursor}
use Rattle.refusals.specs.Reasons.{number_of}
use Rattle.refusals.specs.declared.Refusal.{Refusal}
use Rattle.header.specs.Types.{types_of}
use Rattle.metadata.specs.Tables.{State, state, put}
use Rattle.rows.specs.Rows.{item_width}
use Rattle.metadata.specs.Metadata.{Context, item_frame}
use Rattle.metadata.specs.declared.Limits.{Limits}
use Rattle.metadata.specs.declared.Made.{Made}
use Rattle.metadata.specs.declared.Scope.{Scope}
use Rattle.metadata.specs.declared.Field.{Field}
use Rattle.metadata.specs.declared.Contents.{Contents}
use Rattle.metadata.specs.declared.Contents.TheVariants.{Universal}
use Rattle.metadata.specs.declared.MetaItem.{MetaItem}

-- the context of a scope, with the types as their table has them, in a file of `size` bytes
abbrev pub context_of : Scope → List ℕ → ℕ → Context
context_of s ws size = record { limits = s.limits; types = types_of s.types ws; header_end = s.header_end.0; size = size }

-- ---- a call that fills tables

-- the item table holds as many rows as there may be, and no more rows are made
abbrev pub ItemRoom : Scope → (items : List ℕ) → Made → Type 0
ItemRoom scope items m = (scope.limits.items * item_width ≤ length items) × (m.nodes ≤ scope.limits.nodes) × (m.items ≤ scope.limits.items)

-- besides, the part that ends at `end` lies in the file, and the declared types stand in their table
abbrev pub Room : Scope → (file types items : List ℕ) → (end : ℕ) → Made → Type 0
Room scope file types items end m = Readable end file × (scope.types * 2 ≤ length types) × ItemRoom scope items m

-- ---- answers

abbrev pub field_told : Result (Field × Cursor) Refusal → Out Field
field_told = read_told

abbrev pub contents_told : Result (Contents × Cursor) Refusal → Out Contents
contents_told = read_told

abbrev pub item_told : Result (MetaItem × Cursor) Refusal → Out MetaItem
item_told = read_told

-- An item in the common form, from `at` on in metadata that ends at `end`: what the definitions read there, field by field.
pub record Reads (f : List ℕ) (end at : ℕ) (is : MetaItem) (size format : ℕ) : Type 0 where
  pub frame : run (item_frame end) f at ≡ ok is (at + 3)
  pub universal : is.contents ≡ Universal
  pub some : (size ≡ 0) → ⊥
  pub covers : run (block meta_frame cut_short end) f (at + 3) ≡ ok size (at + 4)
  pub coded : run (leaves.number meta_frame cut_short (at + 4 + size)) f (at + 4) ≡ ok format (at + 5)

abbrev pub CommonTold : Option (MetaItem × ℕ × ℕ) → List ℕ → (end at : ℕ) → Type 0
CommonTold (Some (is, size, format)) f end at = Reads f end at is size format
CommonTold None f end at = Unit {0}

-- ---- a call that fills tables: the rows made by now, and the cursor after what was read. A refusal says nothing of the tables

abbrev pub told : Result (Made × Cursor) Refusal → List ℕ → List ℕ → Out (Made × State)
told (Ok (m, c)) t u = ok (m, state t u m) c.at.0
told (Err r) t u = refused (number_of r.0) r.1

abbrev pub Fits : Limits → Result (Made × Cursor) Refusal → Type 0
Fits lim (Ok (m, c)) = (m.nodes ≤ lim.nodes) × (m.items ≤ lim.items)
Fits lim (Err r) = Unit {0}

-- what a call answered and left in the tables is o, and no more rows are made than there is room for
pub record Gives (lim : Limits) (r : Result (Made × Cursor) Refusal) (t u : List ℕ) (o : Out (Made × State)) : Type 0 where
  pub answer : told r t u ≡ o
  pub fits : Fits lim r

-- ---- metadata makes item rows alone

-- the rows made while the metadata of node row `node` is read: the node rows before it, and n item rows
abbrev pub counts : ℕ → ℕ → Made
counts node n = record { nodes = node; items = n }

abbrev pub walked : ℕ → Result (ℕ × Cursor) Refusal → Result (Made × Cursor) Refusal
walked node (Ok (n, c)) = Ok (counts node n, c)
walked node (Err r) = Err r

-- what a call answered that reads item rows of node row `node`, `rows` of them made before it, from place `at` on, and the item table before and after it: what the
-- program p gives from there, in the context of the call, over the rows made so far
abbrev pub Makes : Scope → (node rows : ℕ) → (p : Context → Made → P Made) → (file types before after : List ℕ) → (at : ℕ) → Result (ℕ × Cursor) Refusal → Type 0
Makes scope node rows p file types before after at r =
    (t : List ℕ) → Gives scope.limits (walked node r) t after
    (exec put (p (context_of scope types (length file)) (counts node rows)) file at (state t before (counts node rows)))
