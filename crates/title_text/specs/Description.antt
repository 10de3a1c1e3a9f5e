-- What a file says, but for places and lengths: its header and rows, with the bytes themselves in place of where they are and how many. Numbers among them
-- are in their shortest form. Of the accepted files that say the same, with no reference 2 or 3, none is shorter than the text of it (Text.antt), and one of
-- bytes that is as short is that text: `shortest` and `only-shortest` in proofs/Shortest.antt.
-- Assumes nothing.
use Rattle.std.specs.Prelude.{cond, List, [], ◌∷◌, map, ℕ, zero, suc, ◌+◌, ◌-◌, eqb, length, take, drop}
use Rattle.machine.specs.Machine.{Out, ok, refused, ret, run, ◌>>=◌, ◌>>◌, when◌then◌else◌, place, skip, times}
use Rattle.cursor.specs.Rows.{P, file_frame, unpack_frame, plain, language}
use Rattle.cursor.specs.Refusals.{cut_short}
use Rattle.cursor.specs.Leaves.{number, block, manufacturer, guid}
use Rattle.room.specs.Parts.{part, joined}
use Rattle.vlq.specs.Vlq.{vlq}
use Rattle.cursor.specs.declared.Node.{Node}
use Rattle.cursor.specs.declared.Item.{Item}
use Rattle.header.specs.Header.{Header, Edition}
use Rattle.header.specs.Types.{Declared}

-- ---- a content: an item row, with its field's name and its data

pub record Content : Type 0 where
  pub node : ℕ
  pub item : ℕ
  pub kind : ℕ
  pub field : ℕ
  pub name : List ℕ
  pub version : ℕ
  pub declared : ℕ
  pub format : ℕ
  pub bytes : List ℕ

-- a custom field has a name and no number, a standard one a number and an empty name
unfoldable pub content : List ℕ → Item → Content
content f r = record {
  node = r.node;
  item = r.item;
  kind = r.kind;
  field = cond (eqb r.kind 1) 0 r.field;
  name = part f r.field r.name_length;
  version = r.version;
  declared = r.declared;
  format = r.format;
  bytes = part f r.place r.size;
}

-- ---- unpackers and types table: each program answers what it read, with every number in its shortest form and all else as it is

-- the bytes that m reads, as they are
unfoldable pub copied : {A : Type 0} → List ℕ → P A → P (List ℕ)
copied f m = do
  p ← place
  a ← m
  q ← place
  ret (part f p (q - p))

-- what names an unpacker: a GUID; a manufacturer and a VLQ; a VLQ
unfoldable pub identifier_text : List ℕ → ℕ → P (List ℕ)
identifier_text f kind =
    when eqb kind 3 then copied f (guid unpack_frame (length f))
    else when eqb kind 1
    then (do
      m ← copied f (manufacturer unpack_frame (length f))
      v ← number unpack_frame cut_short (length f)
      ret (joined (m ∷ vlq v ∷ [])))
    else (do
      v ← number unpack_frame cut_short (length f)
      ret (vlq v))

-- an unpacker, behind others: its kind, what names it, its decoded size
unfoldable pub unpacker_text : List ℕ → List ℕ → P (List ℕ)
unpacker_text f before = do
  kind ← number unpack_frame cut_short (length f)
  i ← identifier_text f kind
  size ← number unpack_frame cut_short (length f)
  ret (joined (before ∷ vlq kind ∷ i ∷ vlq size ∷ []))

-- an entry of the types table, behind others: a type, its string format, the language's name with its length
unfoldable pub entry_text : List ℕ → List ℕ → P (List ℕ)
entry_text f before = do
  t ← number file_frame cut_short (length f)
  format ← number file_frame cut_short (length f)
  n ← block file_frame cut_short (length f)
  p ← place
  skip (plain language) n
  ret (joined (before ∷ vlq t ∷ vlq format ∷ vlq n ∷ part f p n ∷ []))

-- from FileLength on: the types table's count and entries, without the table's length
unfoldable pub table_text : List ℕ → P (List ℕ)
table_text f = do
  size ← number file_frame cut_short (length f)
  n ← block file_frame cut_short (length f)
  count ← number file_frame cut_short (length f)
  times count (entry_text f) (vlq count)

-- what was answered; an accepted file's unpackers and types table are never refused
abbrev pub answer : Out (List ℕ) → List ℕ
answer (ok s p) = s
answer (refused n p) = []

-- ---- a node: a node row, with its unpackers and its resource

pub record Shape : Type 0 where
  pub contained : ℕ
  pub parent : ℕ
  pub depth : ℕ
  pub reference : ℕ
  pub unpackers : List ℕ
  pub unpacker_count : ℕ
  pub rows : ℕ
  pub body : List ℕ
  pub detached : ℕ

-- the body is inline data or a URI; a folder has none of its own
unfoldable pub shape : List ℕ → Node → Shape
shape f r = record {
  contained = r.contained;
  parent = r.parent;
  depth = r.depth;
  reference = r.reference;
  unpackers = answer (run (times r.unpacker_count (unpacker_text f) []) f r.unpackers);
  unpacker_count = r.unpacker_count;
  rows = r.rows;
  body = cond (eqb r.contained 0) (part f r.target r.extent) [];
  detached = r.detached;
}

-- ---- a file

-- `opening` is what stands before FileLength: magic, version, in 2.00 type and revision. `gap` stands between header and tree, `after` behind the tree.
pub record Description : Type 0 where
  pub version : ℕ
  pub edition : Edition
  pub declared : List Declared
  pub opening : List ℕ
  pub types : List ℕ
  pub gap : List ℕ
  pub nodes : List Shape
  pub items : List Content
  pub after : List ℕ

-- where FileLength begins
abbrev pub opening_size : ℕ → ℕ
opening_size version = cond (eqb version 200) 16 8

unfoldable pub described : List ℕ → Header → List Node → List Item → Description
described f h ns is = record {
  version = h.version;
  edition = h.edition;
  declared = h.types;
  opening = take (opening_size h.version) f;
  types = answer (run (table_text f) f (opening_size h.version));
  gap = part f h.extent.end (h.extent.start - h.extent.end);
  nodes = map (shape f) ns;
  items = map (content f) is;
  after = drop (h.extent.last + 1) f;
}

-- ---- the same with other data in content i

unfoldable pub titled : List ℕ → Content → Content
titled text c = record {
  node = c.node;
  item = c.item;
  kind = c.kind;
  field = c.field;
  name = c.name;
  version = c.version;
  declared = c.declared;
  format = c.format;
  bytes = text;
}

unfoldable pub titled_at : ℕ → List ℕ → List Content → List Content
titled_at i text [] = []
titled_at zero text (c ∷ cs) = titled text c ∷ cs
titled_at (suc i) text (c ∷ cs) = c ∷ titled_at i text cs

unfoldable pub retitled : ℕ → List ℕ → Description → Description
retitled i text d = record {
  version = d.version;
  edition = d.edition;
  declared = d.declared;
  opening = d.opening;
  types = d.types;
  gap = d.gap;
  nodes = d.nodes;
  items = titled_at i text d.items;
  after = d.after;
}
