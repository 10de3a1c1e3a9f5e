-- Metadata (01, Nodes): a length, then items; of each item its field, its contents, and a row for each universal content or version.
-- Assumes nothing.
use Rattle.std.specs.Prelude.{List, ℕ, ◌+◌, ◌-◌, ltb, eqb}
use Rattle.machine.specs.Machine.{ret, refuse, ◌>>=◌, ◌>>◌, when◌then◌else◌, place, skip, check, many, times}
use Rattle.cursor.specs.Rows.{P, meta_frame, item_row, plain, name}
use Rattle.cursor.specs.Refusals.{cut_short, bad_node, no_row_left, bad_contents}
use Rattle.cursor.specs.Leaves.{number, block}
use Rattle.cursor.specs.declared.Item.{Item}
use Rattle.header.specs.Types.{Declared, Known, known, unknown, format_of}
use Rattle.metadata.specs.Tables.{plus_item}
use Rattle.metadata.specs.declared.Limits.{Limits}
use Rattle.metadata.specs.declared.Made.{Made}
use Rattle.metadata.specs.declared.Field.{Field}
use Rattle.metadata.specs.declared.Field.TheVariants.{Standard, Name}
use Rattle.metadata.specs.declared.Contents.{Contents}
use Rattle.metadata.specs.declared.Contents.TheVariants.{Universal, Versions}
use Rattle.metadata.specs.declared.MetaItem.{MetaItem}
use Rattle.metadata.specs.declared.Label.{Label}

-- what a node is read with: the rows there is room for, the declared types, the file header's end, the file's length
pub record Context : Type 0 where
  pub limits : Limits
  pub types : List Declared
  pub header_end : ℕ
  pub size : ℕ

-- ---- an item's field and contents

-- 0 and a standard number, or an XString, which is a custom name
unfoldable pub field : ℕ → P Field
field end = do
  n ← block meta_frame cut_short end
  when eqb n 0
      then (do
        k ← number meta_frame cut_short end
        ret (Standard k))
      else (do
        p ← place
        skip (plain name) n
        ret (Name (record { 0 = p }) n))

-- 0 for universal, or the number of versions
unfoldable pub contents : ℕ → P Contents
contents end = do
  n ← number meta_frame cut_short end
  when eqb n 0 then ret Universal else ret (Versions n)

unfoldable pub item_frame : ℕ → P MetaItem
item_frame end = do
  f ← field end
  c ← contents end
  ret (record { field = f; contents = c })

-- ---- its rows

abbrev pub kind_of : Field → ℕ
kind_of (Standard k) = 0
kind_of (Name p n) = 1

abbrev pub field_of : Field → ℕ
field_of (Standard k) = k
field_of (Name p n) = p.0

abbrev pub name_length_of : Field → ℕ
name_length_of (Standard k) = 0
name_length_of (Name p n) = n

-- the row of a content of the labelled item
abbrev pub row_of : Label → (version declared format place size : ℕ) → Item
row_of l version declared format place size = record {
  node = l.node;
  item = l.item;
  kind = kind_of l.field;
  field = field_of l.field;
  name_length = name_length_of l.field;
  version = version;
  declared = declared;
  format = format;
  place = place;
  size = size;
}

-- the format of a declared type; p is the type's place
unfoldable pub declared_format : ℕ → Known → P ℕ
declared_format p (known k) = ret k
declared_format p unknown = refuse bad_contents p

module _ (x : Context) (l : Label) (end : ℕ) where
  -- a length of at least 1, which covers string format and data
  unfoldable pub universal : Made → P Made
  universal m = do
    p ← place
    check (ltb m.items x.limits.items) no_row_left p
    n ← block meta_frame cut_short end
    check (ltb 0 n) bad_contents p
    q ← place
    format ← number meta_frame cut_short (q + n)
    r ← place
    skip (item_row (row_of l 0 0 format r (q + n - r))) (q + n - r)
    ret (plus_item m)

  -- a declared type, a length and data; `before` item rows were there when the item began
  unfoldable pub version : ℕ → Made → P Made
  version before m = do
    p ← place
    check (ltb m.items x.limits.items) no_row_left p
    t ← number meta_frame cut_short end
    format ← declared_format p (format_of x.types t)
    n ← block meta_frame cut_short end
    q ← place
    skip (item_row (row_of l (m.items + 1 - before) t format q n)) n
    ret (plus_item m)

  unfoldable pub rows_for : Contents → Made → P Made
  rows_for Universal m = universal m
  rows_for (Versions n) m = times n (version m.items) m

unfoldable pub item : Context → (node index end : ℕ) → Made → P Made
item x node index end m = do
  i ← item_frame end
  rows_for x (record { node = node; item = index; field = i.field }) end i.contents m

-- ---- the metadata of a node

-- the rows made, and the number of items read
pub record Count : Type 0 where
  pub made : Made
  pub index : ℕ

unfoldable pub next_item : Context → (node end : ℕ) → Count → P Count
next_item x node end k = do
  m ← item x node k.index end k.made
  ret (record { made = m; index = k.index + 1 })

-- items end to end
unfoldable pub meta_items : Context → (node end : ℕ) → Made → P Made
meta_items x node end m = do
  k ← many end (next_item x node end) (record { made = m; index = 0 })
  ret k.made

-- the length is a field of the node's header, which ends at `end`
unfoldable pub metadata : Context → (node end : ℕ) → Made → P Made
metadata x node end m = do
  n ← block meta_frame bad_node end
  q ← place
  meta_items x node (q + n) m
