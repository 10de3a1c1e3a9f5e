-- A node up to its contents (01, Nodes): its three numbers, metadata, unpackers, reference.
-- Assumes nothing.
use Rattle.std.specs.Prelude.{◌||◌, ℕ, ◌+◌, ◌-◌, ltb, leb, eqb}
use Rattle.machine.specs.Machine.{ret, ◌>>=◌, ◌>>◌, when◌then◌else◌, place, skip, check, many}
use Rattle.cursor.specs.Rows.{P, node_frame, unpack_frame, reference_frame, plain, uri}
use Rattle.cursor.specs.Refusals.{cut_short, bad_node, bad_unpacker, bad_reference, bad_folder, bytes_left, bad_target, bad_detached}
use Rattle.cursor.specs.Leaves.{number, block, manufacturer, guid}
use Rattle.cursor.specs.declared.Node.{Node}
use Rattle.metadata.specs.Metadata.{Context, metadata}
use Rattle.metadata.specs.declared.Made.{Made}
use Rattle.node.specs.declared.Bounds.{Bounds}
use Rattle.node.specs.declared.Head.{Head}
use Rattle.node.specs.declared.Unpackers.{Unpackers}
use Rattle.node.specs.declared.Reference.{Reference}
use Rattle.node.specs.declared.Front.{Front}

-- ---- NodeLength, NodeContainedItems, NodeHeaderLength

-- NodeHeaderLength of a node that starts at p. It counts from the node's first byte to its ReferenceTypeID.
unfoldable pub header_length : (p size contained : ℕ) → P Head
header_length p size contained = do
  h ← place
  header ← number node_frame cut_short (p + size)
  q ← place
  check (leb header size) bad_node h
  check (leb q (p + header)) bad_node h
  ret (record { size = record { 0 = size }; contained = contained; header = record { 0 = header } })

-- The node may not end past `end`, nor before `least`. A detached one may not end past `taken`, the first byte of another, and is no folder: both are
-- refused at the number that names it.
unfoldable pub head : Bounds → P Head
head s = do
  p ← place
  size ← number node_frame cut_short s.end.0
  check (leb (p + size) s.end.0) bad_node p
  check (leb s.least.0 (p + size)) bad_node p
  check (leb (p + size) s.taken.0) bad_detached s.offset.0
  contained ← number node_frame cut_short (p + size)
  check (eqb contained 0 || eqb s.detached 0) bad_detached s.offset.0
  header_length p size contained

-- how a node of the tree stands in its holder; how a detached one stands
abbrev pub in_tree : (least end : ℕ) → Bounds
in_tree least end = record { least = record { 0 = least }; end = record { 0 = end }; taken = record { 0 = end }; offset = record { 0 = 0 }; detached = 0 }

abbrev pub outside_tree : (end taken offset : ℕ) → Bounds
outside_tree end taken offset = record { least = record { 0 = 0 }; end = record { 0 = end }; taken = record { 0 = taken }; offset = record { 0 = offset }; detached = 1 }

-- ---- unpackers

-- a VLQ whose value is not kept
unfoldable pub value : ℕ → P (Unit {0})
value end = do
  v ← number unpack_frame cut_short end
  ret tt

-- what names an unpacker, by its kind: 0 and 2 a VLQ, 1 a manufacturer and a VLQ, 3 a GUID
unfoldable pub identifier : (kind end : ℕ) → P (Unit {0})
identifier kind end =
    when eqb kind 3 then guid unpack_frame end
    else when eqb kind 1
    then (do
      m ← manufacturer unpack_frame end
      value end)
    else value end

-- an entry, after n others: a kind, what names it, a decoded size
unfoldable pub unpacker : (end n : ℕ) → P ℕ
unpacker end n = do
  p ← place
  kind ← number unpack_frame cut_short end
  check (leb kind 3) bad_unpacker p
  i ← identifier kind end
  size ← value end
  ret (n + 1)

-- unpackers end to end
unfoldable pub entries : ℕ → P Unpackers
entries end = do
  q ← place
  k ← many end (unpacker end) 0
  ret (record { place = record { 0 = q }; count = k })

-- the length is a field of the node's header, which ends at `end`; a folder has no unpackers
unfoldable pub unpackers : (contained end : ℕ) → P Unpackers
unpackers contained end = do
  p ← place
  n ← block unpack_frame bad_node end
  check (eqb contained 0 || eqb n 0) bad_folder p
  q ← place
  entries (q + n)

-- ---- reference: `header_end` is the file header's end, `size` the file's length; the node ends at `end`

-- 2: a place of the file at or after the header's end; it has no length, so its extent runs to the file's end
unfoldable pub resource : (header_end size end : ℕ) → P Reference
resource header_end size end = do
  q ← place
  o ← number reference_frame cut_short end
  check (leb header_end o) bad_target q
  check (leb o size) bad_target q
  ret (record { kind = 2; target = o; extent = size - o })

-- 3: the place of a node's first byte
unfoldable pub node_place : ℕ → P Reference
node_place end = do
  o ← number reference_frame cut_short end
  ret (record { kind = 3; target = o; extent = 0 })

-- 4: an XString with a URI
unfoldable pub uri_place : ℕ → P Reference
uri_place end = do
  n ← block reference_frame cut_short end
  q ← place
  skip (plain uri) n
  ret (record { kind = 4; target = q; extent = n })

-- 1: the contents follow, to the node's end
unfoldable pub target : (header_end size reference end : ℕ) → P Reference
target header_end size r end =
    when eqb r 1
    then (do
      q ← place
      ret (record { kind = r; target = q; extent = end - q }))
    else when eqb r 2 then resource header_end size end else when eqb r 3 then node_place end else uri_place end

-- ReferenceTypeID and its target; a folder uses reference 1
unfoldable pub reference : (header_end size contained end : ℕ) → P Reference
reference header_end size contained end = do
  p ← place
  r ← number reference_frame cut_short end
  check (ltb 0 r) bad_reference p
  check (leb r 4) bad_reference p
  check (eqb contained 0 || eqb r 1) bad_folder p
  target header_end size r end

-- ---- the whole

pub record Rest : Type 0 where
  pub unpackers : Unpackers
  pub reference : Reference

-- what follows the metadata: unpackers, which end where the header does, and the reference
unfoldable pub rest : (header_end size contained inner stop : ℕ) → P Rest
rest header_end size contained inner stop = do
  u ← unpackers contained inner
  e ← place
  check (leb inner e) bytes_left e
  r ← reference header_end size contained stop
  ret (record { unpackers = u; reference = r })

abbrev pub row_of : ℕ → Head → (parent depth detached : ℕ) → Reference → Unpackers → ℕ → Node
row_of start h parent depth detached r u rows = record {
  start = start;
  size = h.size.0;
  header = h.header.0;
  contained = h.contained;
  parent = parent;
  depth = depth;
  reference = r.kind;
  target = r.target;
  extent = r.extent;
  unpackers = u.place.0;
  unpacker_count = u.count;
  rows = rows;
  detached = detached;
}

-- a node up to its contents: the rows of its items are made, and its own row is known
unfoldable pub front : Context → (parent depth : ℕ) → Bounds → Made → P Front
front x parent depth s m = do
  p ← place
  h ← head s
  m' ← metadata x m.nodes (p + h.header.0) m
  o ← rest x.header_end x.size h.contained (p + h.header.0) (p + h.size.0)
  ret (record { row = row_of p h parent depth s.detached o.reference o.unpackers (m'.items - m.items); made = m' })
