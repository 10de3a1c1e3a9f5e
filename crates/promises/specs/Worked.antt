-- The cases of document 01, 'On both sides', and others, computed in one test: whole files, and the questions themselves.
-- Assumes nothing.
use Rattle.std.specs.Prelude.{◌≡◌, refl, List, [], ◌∷◌, ◌++◌, ℕ, length, get_or, take, drop}
use Rattle.machine.specs.Machine.{Out, ok, refused, run, trace, rows_of, ◌>>=◌, ◌>>◌, when◌then◌else◌, place, skip, check, turns, many, times}
use Rattle.cursor.specs.Rows.{file_frame}
use Rattle.cursor.specs.Leaves.{next, digits, number, block, manufacturer, guid}
use Rattle.header.specs.Types.{format_of}
use Rattle.header.specs.Header.{four, opening, edition, file_length, entry, types_table, extent, header}
use Rattle.metadata.specs.Metadata.{field, contents, item_frame, universal, declared_format, version, rows_for, item, next_item, meta_items, metadata}
use Rattle.node.specs.Node.{header_length, head, value, identifier, unpacker, entries, unpackers, resource, node_place, uri_place, target, reference, rest, front}
use Rattle.tree.specs.Tree as tree
use Rattle.tree.specs.Tree.{folder, node}
use Rattle.file.specs.Reading.{rows, refusal, logged, detached_at, follow_row, follow, reading, read_tree, read_file, node_table, item_table}
use Rattle.targets.specs.Targets.{starts_at, offset_at, is_missing, outside, part_end, is_taken, first_of, first_taken}
use Rattle.cursor.specs.declared.Node.{Node}
use Rattle.file.specs.Asking.{Result, good, bad, ask, counts}
use Rattle.file.specs.Hidden.{is_hidden}
use Rattle.file.specs.Own as own
use Rattle.find.specs.Find as find
use Rattle.resolve.specs.Resolve as resolve
use Rattle.description.specs.Row as row
use Rattle.description.specs.Description as description
use Rattle.description.specs.Count as count
use Rattle.description.specs.Worked.{example}
use Rattle.mobile.specs.Mobile as mobile
use Rattle.text.specs.Text as text
use Rattle.sheet.specs.Sheet as sheet
use Rattle.room.specs.Room as room
use Rattle.room.specs.Decimal as decimal
use Rattle.utf16.specs.Unicode as unicode
use Rattle.promises.specs.Promises as promises
use Rattle.promises.specs.Promises.{Question, find_item, find_own, resolve_row, copy_resource, count_for, judge_mobile, write_sheet, Sizes, full, reads, leaves, outcome}

-- the number that the bytes begin with
unfoldable pub first : List ℕ → Out ℕ
first f = run (number file_frame 3 (length f)) f 0

-- the answer's words
unfoldable pub answer : Question → Sizes → List ℕ → List ℕ
answer q ls f = (outcome q ls f).answer

-- ---- files

-- the mended worked file (docs/DECISIONS.md)
abbrev pub worked : List ℕ
worked =
    0x58 ∷ 0x4D ∷ 0x46 ∷ 0x5F ∷ 0x32 ∷ 0x2E ∷ 0x30 ∷ 0x30 ∷ 0x00 ∷ 0x00 ∷ 0x00 ∷ 0x02 ∷ 0x00 ∷ 0x00 ∷ 0x00 ∷ 0x01
    ∷ 0x38 ∷ 0x01 ∷ 0x00 ∷ 0x15 ∷ 0x37 ∷ 0x23 ∷ 0x01 ∷ 0x05 ∷ 0x00 ∷ 0x00 ∷ 0x01 ∷ 0x1D ∷ 0x00 ∷ 0x1A ∷ 0x15 ∷ 0x01
    ∷ 0x61 ∷ 0x00 ∷ 0x03 ∷ 0x00 ∷ 0x48 ∷ 0x69 ∷ 0x01 ∷ 0x74 ∷ 0x00 ∷ 0x03 ∷ 0x07 ∷ 0x11 ∷ 0x22 ∷ 0x00 ∷ 0x03 ∷ 0x00
    ∷ 0x03 ∷ 0x06 ∷ 0x00 ∷ 0x00 ∷ 0x00 ∷ 0x01 ∷ 0xAA ∷ 0xBB ∷ []

-- its sheet
abbrev pub worked_sheet : List ℕ
worked_sheet =
    0x58 ∷ 0x4D ∷ 0x46 ∷ 0x09 ∷ 0x32 ∷ 0x2E ∷ 0x30 ∷ 0x30 ∷ 0x09 ∷ 0x35 ∷ 0x36 ∷ 0x09 ∷ 0x32 ∷ 0x09 ∷ 0x33 ∷ 0x0A
    ∷ 0x4E ∷ 0x09 ∷ 0x30 ∷ 0x09 ∷ 0x30 ∷ 0x09 ∷ 0x31 ∷ 0x09 ∷ 0x31 ∷ 0x09 ∷ 0x32 ∷ 0x37 ∷ 0x09 ∷ 0x32 ∷ 0x39 ∷ 0x0A
    ∷ 0x4E ∷ 0x09 ∷ 0x31 ∷ 0x09 ∷ 0x30 ∷ 0x09 ∷ 0x32 ∷ 0x09 ∷ 0x31 ∷ 0x09 ∷ 0x35 ∷ 0x34 ∷ 0x09 ∷ 0x32 ∷ 0x0A
    ∷ 0x4D ∷ 0x09 ∷ 0x31 ∷ 0x09 ∷ 0x43 ∷ 0x09 ∷ 0x61 ∷ 0x09 ∷ 0x30 ∷ 0x09 ∷ 0x30 ∷ 0x09 ∷ 0x48 ∷ 0x69 ∷ 0x0A
    ∷ 0x4D ∷ 0x09 ∷ 0x31 ∷ 0x09 ∷ 0x53 ∷ 0x09 ∷ 0x33 ∷ 0x09 ∷ 0x30 ∷ 0x09 ∷ 0x36 ∷ 0x09 ∷ 0x5C ∷ 0x30 ∷ 0x30 ∷ 0x5C ∷ 0x30 ∷ 0x30 ∷ 0x0A ∷ []

-- the 55 bytes that document 01 prints, whose types table has no count
abbrev pub printed : List ℕ
printed =
    0x58 ∷ 0x4D ∷ 0x46 ∷ 0x5F ∷ 0x32 ∷ 0x2E ∷ 0x30 ∷ 0x30 ∷ 0x00 ∷ 0x00 ∷ 0x00 ∷ 0x02 ∷ 0x00 ∷ 0x00 ∷ 0x00 ∷ 0x01
    ∷ 0x37 ∷ 0x00 ∷ 0x14 ∷ 0x36 ∷ 0x23 ∷ 0x01 ∷ 0x05 ∷ 0x00 ∷ 0x00 ∷ 0x01 ∷ 0x1D ∷ 0x00 ∷ 0x1A ∷ 0x15 ∷ 0x01 ∷ 0x61
    ∷ 0x00 ∷ 0x03 ∷ 0x00 ∷ 0x48 ∷ 0x69 ∷ 0x01 ∷ 0x74 ∷ 0x00 ∷ 0x03 ∷ 0x07 ∷ 0x11 ∷ 0x22 ∷ 0x00 ∷ 0x03 ∷ 0x00 ∷ 0x03
    ∷ 0x06 ∷ 0x00 ∷ 0x00 ∷ 0x00 ∷ 0x01 ∷ 0xAA ∷ 0xBB ∷ []

-- a folder, rows 1 to 5 of which each refers to the next, row 6 with an inline byte at 60, row 7 that refers to itself
abbrev pub chained : List ℕ
chained =
    0x58 ∷ 0x4D ∷ 0x46 ∷ 0x5F ∷ 0x31 ∷ 0x2E ∷ 0x30 ∷ 0x30 ∷ 0x44 ∷ 0x01 ∷ 0x00 ∷ 0x0D ∷ 0x43 ∷ 0x37 ∷ 0x07 ∷ 0x05
    ∷ 0x00 ∷ 0x00 ∷ 0x01 ∷ 0x07 ∷ 0x00 ∷ 0x05 ∷ 0x00 ∷ 0x00 ∷ 0x03 ∷ 0x1A ∷ 0x07 ∷ 0x00 ∷ 0x05 ∷ 0x00 ∷ 0x00 ∷ 0x03
    ∷ 0x21 ∷ 0x07 ∷ 0x00 ∷ 0x05 ∷ 0x00 ∷ 0x00 ∷ 0x03 ∷ 0x28 ∷ 0x07 ∷ 0x00 ∷ 0x05 ∷ 0x00 ∷ 0x00 ∷ 0x03 ∷ 0x2F ∷ 0x07
    ∷ 0x00 ∷ 0x05 ∷ 0x00 ∷ 0x00 ∷ 0x03 ∷ 0x36 ∷ 0x07 ∷ 0x00 ∷ 0x05 ∷ 0x00 ∷ 0x00 ∷ 0x01 ∷ 0xAA ∷ 0x07 ∷ 0x00 ∷ 0x05
    ∷ 0x00 ∷ 0x00 ∷ 0x03 ∷ 0x3D ∷ []

-- a root with the standard field 9, and a child with none
abbrev pub family : List ℕ
family =
    0x58 ∷ 0x4D ∷ 0x46 ∷ 0x5F ∷ 0x31 ∷ 0x2E ∷ 0x30 ∷ 0x30 ∷ 0x21 ∷ 0x01 ∷ 0x00 ∷ 0x0D ∷ 0x20 ∷ 0x14 ∷ 0x01 ∷ 0x0C
    ∷ 0x07 ∷ 0x00 ∷ 0x09 ∷ 0x00 ∷ 0x03 ∷ 0x00 ∷ 0x48 ∷ 0x69 ∷ 0x00 ∷ 0x01 ∷ 0x07 ∷ 0x00 ∷ 0x05 ∷ 0x00 ∷ 0x00 ∷ 0x01
    ∷ 0xAA ∷ []

-- ---- other bytes at private places, texts in UTF-16, nodes outside the tree

-- the worked file with other inline data, which is its last two bytes
abbrev pub with_inline : ℕ → ℕ → List ℕ
with_inline a b = take 54 worked ++ a ∷ b ∷ []

-- the worked file with one byte after the tree
abbrev pub with_tail : ℕ → List ℕ
with_tail b = take 16 worked ++ 0x39 ∷ drop 17 worked ++ b ∷ []

-- its sheet, whose length is 57
abbrev pub tail_sheet : List ℕ
tail_sheet = take 10 worked_sheet ++ 0x37 ∷ drop 11 worked_sheet

-- the worked file with another reference in its last node: the byte before the inline data
abbrev pub with_reference : ℕ → List ℕ
with_reference b = take 53 worked ++ b ∷ drop 54 worked

-- a file whose title stands in UTF-16, with a mark in front, and in another language; a text of format 2 that does not convert; a hidden text of format 3
abbrev pub titled : List ℕ
titled =
    0x58 ∷ 0x4D ∷ 0x46 ∷ 0x5F ∷ 0x31 ∷ 0x2E ∷ 0x30 ∷ 0x30 ∷ 0x57 ∷ 0x0B ∷ 0x02 ∷ 0x01 ∷ 0x02 ∷ 0x02 ∷ 0x64 ∷ 0x61
    ∷ 0x02 ∷ 0x00 ∷ 0x02 ∷ 0x65 ∷ 0x6E ∷ 0x17 ∷ 0x56 ∷ 0x40 ∷ 0x00 ∷ 0x3B ∷ 0x36 ∷ 0x00 ∷ 0x08 ∷ 0x02 ∷ 0x01 ∷ 0x12
    ∷ 0xFE ∷ 0xFF ∷ 0x00 ∷ 0x46 ∷ 0x00 ∷ 0xE6 ∷ 0x00 ∷ 0x72 ∷ 0x00 ∷ 0x67 ∷ 0x00 ∷ 0x65 ∷ 0x00 ∷ 0x20 ∷ 0xD8 ∷ 0x34
    ∷ 0xDD ∷ 0x1E ∷ 0x02 ∷ 0x05 ∷ 0x46 ∷ 0x65 ∷ 0x72 ∷ 0x72 ∷ 0x79 ∷ 0x00 ∷ 0x09 ∷ 0x00 ∷ 0x05 ∷ 0x02 ∷ 0x00 ∷ 0x32
    ∷ 0xD8 ∷ 0x00 ∷ 0x03 ∷ 0x6B ∷ 0x65 ∷ 0x79 ∷ 0x00 ∷ 0x09 ∷ 0x03 ∷ 0x00 ∷ 0x6B ∷ 0x00 ∷ 0x6F ∷ 0x00 ∷ 0x64 ∷ 0x00
    ∷ 0x65 ∷ 0x00 ∷ 0x01 ∷ 0x74 ∷ 0x75 ∷ 0x6E ∷ 0x65 ∷ []

-- its sheet
abbrev pub titled_sheet : List ℕ
titled_sheet =
    0x58 ∷ 0x4D ∷ 0x46 ∷ 0x09 ∷ 0x31 ∷ 0x2E ∷ 0x30 ∷ 0x30 ∷ 0x09 ∷ 0x38 ∷ 0x37 ∷ 0x09 ∷ 0x31 ∷ 0x09 ∷ 0x34 ∷ 0x0A
    ∷ 0x4E ∷ 0x09 ∷ 0x30 ∷ 0x09 ∷ 0x30 ∷ 0x09 ∷ 0x31 ∷ 0x09 ∷ 0x31 ∷ 0x09 ∷ 0x38 ∷ 0x33 ∷ 0x09 ∷ 0x34 ∷ 0x0A
    ∷ 0x4D ∷ 0x09 ∷ 0x30 ∷ 0x09 ∷ 0x53 ∷ 0x09 ∷ 0x38 ∷ 0x09 ∷ 0x31 ∷ 0x09 ∷ 0x32 ∷ 0x09 ∷ 0x46 ∷ 0xC3 ∷ 0xA6 ∷ 0x72 ∷ 0x67 ∷ 0x65 ∷ 0x20 ∷ 0xF0 ∷ 0x9D ∷ 0x84 ∷ 0x9E ∷ 0x0A
    ∷ 0x4D ∷ 0x09 ∷ 0x30 ∷ 0x09 ∷ 0x53 ∷ 0x09 ∷ 0x38 ∷ 0x09 ∷ 0x32 ∷ 0x09 ∷ 0x30 ∷ 0x09 ∷ 0x46 ∷ 0x65 ∷ 0x72 ∷ 0x72 ∷ 0x79 ∷ 0x0A
    ∷ 0x4D ∷ 0x09 ∷ 0x30 ∷ 0x09 ∷ 0x53 ∷ 0x09 ∷ 0x39 ∷ 0x09 ∷ 0x30 ∷ 0x09 ∷ 0x32 ∷ 0x09 ∷ 0x5C ∷ 0x30 ∷ 0x30 ∷ 0x32 ∷ 0x5C ∷ 0x64 ∷ 0x38 ∷ 0x5C ∷ 0x30 ∷ 0x30 ∷ 0x0A ∷ []

-- a file of version 1.00 with no types: its length, the tree's first and last byte, and what follows the header
abbrev pub small : (size start last : ℕ) → List ℕ → List ℕ
small size start last rest = 0x58 ∷ 0x4D ∷ 0x46 ∷ 0x5F ∷ 0x31 ∷ 0x2E ∷ 0x30 ∷ 0x30 ∷ size ∷ 0x01 ∷ 0x00 ∷ start ∷ last ∷ rest

-- a file whose one node has a content description: the example of document 002, with this kind in place of the second resource's
abbrev pub needing : (kind : ℕ) → List ℕ
needing kind =
    small 49 13 48
    (0x24 ∷ 0x00 ∷ 0x22 ∷ 0x1D ∷ 0x00 ∷ 0x0D ∷ 0x00 ∷ 0x19 ∷ 0x06 ∷ take 5 example ++ kind ∷ drop 6 example ++ 0x00 ∷ 0x01 ∷ 0xAA ∷ [])

-- a file node that refers to the node at p; one that holds AA BB; what a folder of two nodes that refer to p and q begins with, and these
abbrev pub to : ℕ → List ℕ
to p = 0x07 ∷ 0x00 ∷ 0x05 ∷ 0x00 ∷ 0x00 ∷ 0x03 ∷ p ∷ []

abbrev pub holding : List ℕ
holding = 0x08 ∷ 0x00 ∷ 0x05 ∷ 0x00 ∷ 0x00 ∷ 0x01 ∷ 0xAA ∷ 0xBB ∷ []

abbrev pub both : (p q : ℕ) → List ℕ
both p q = 0x14 ∷ 0x02 ∷ 0x05 ∷ 0x00 ∷ 0x00 ∷ 0x01 ∷ to p ++ to q

-- of each node row: start, parent, depth, target, the thirteenth word
unfoldable pub places : List Node → List (List ℕ)
places [] = []
places (r ∷ rs) = (r.start ∷ r.parent ∷ r.depth ∷ r.target ∷ r.detached ∷ []) ∷ places rs

unfoldable pub nodes_read : List ℕ → Result (List (List ℕ))
nodes_read f = ask (reads full f) λ h ns is. good (places ns)

-- ---- the test

cases : (first (0x7F ∷ []) ≡ ok 127 1)
    × (first (0x81 ∷ 0x00 ∷ []) ≡ ok 128 2)
    × (first (0xFF ∷ 0xFF ∷ 0xFF ∷ 0x7F ∷ []) ≡ ok 268435455 4)
    × (first (0x80 ∷ 0x01 ∷ []) ≡ ok 1 2)
    × (first (0x81 ∷ 0x46 ∷ []) ≡ ok 198 2)
    × (first (0x80 ∷ []) ≡ refused 3 0)
    × (first (0x81 ∷ []) ≡ refused 3 0)
    × (first (0xFF ∷ 0xFF ∷ 0xFF ∷ 0xFF ∷ []) ≡ refused 4 0)
    × (first (0x80 ∷ 0x80 ∷ 0x80 ∷ 0x01 ∷ []) ≡ ok 1 4)
    × (first (0x80 ∷ 0x80 ∷ 0x80 ∷ 0x80 ∷ 0x01 ∷ []) ≡ refused 4 0)
    × (reads full [] ≡ refusal 1 0)
    × (reads full (take 55 worked) ≡ refusal 5 16)
    × (reads full printed ≡ refusal 3 18)
    × (reads full worked
    ≡ rows
    (record { version = 200; edition = record { type = 2; revision = 1 }; types = []; extent = record { start = 21; last = 55; end = 21 } })
    (record { start = 21; size = 35; header = 5; contained = 1; parent = 0; depth = 1; reference = 1; target = 27; extent = 29; unpackers = 26; unpacker_count = 0; rows = 0; detached = 0 }
    ∷ record { start = 27; size = 29; header = 26; contained = 0; parent = 0; depth = 2; reference = 1; target = 54; extent = 2; unpackers = 53; unpacker_count = 0; rows = 3; detached = 0 } ∷ [])
    (record { node = 1; item = 0; kind = 1; field = 32; name_length = 1; version = 0; declared = 0; format = 0; place = 36; size = 2 }
    ∷ record { node = 1; item = 1; kind = 1; field = 39; name_length = 1; version = 0; declared = 0; format = 7; place = 43; size = 2 }
    ∷ record { node = 1; item = 2; kind = 0; field = 3; name_length = 0; version = 0; declared = 0; format = 6; place = 50; size = 2 } ∷ []))
    × (outcome promises.read_tree (28 ∷ 33 ∷ []) worked
    ≡ record {
      answer = 0 ∷ 0 ∷ 200 ∷ 2 ∷ 3 ∷ [];
      holds =
          (21 ∷ 35 ∷ 5 ∷ 1 ∷ 0 ∷ 1 ∷ 1 ∷ 27 ∷ 29 ∷ 26 ∷ 0 ∷ 0 ∷ 0 ∷ 27 ∷ 29 ∷ 26 ∷ 0 ∷ 0 ∷ 2 ∷ 1 ∷ 54 ∷ 2 ∷ 53 ∷ 0 ∷ 3 ∷ 0 ∷ 0 ∷ 0 ∷ [])
          ∷ (1 ∷ 0 ∷ 1 ∷ 32 ∷ 1 ∷ 0 ∷ 0 ∷ 0 ∷ 36 ∷ 2 ∷ 1 ∷ 1 ∷ 1 ∷ 39 ∷ 1 ∷ 0 ∷ 0 ∷ 7 ∷ 43 ∷ 2 ∷ 1 ∷ 2 ∷ 0 ∷ 3 ∷ 0 ∷ 0 ∷ 0 ∷ 6 ∷ 50 ∷ 2 ∷ 0 ∷ 0 ∷ 0 ∷ [])
          ∷ [];
    })
    × (outcome promises.read_tree (25 ∷ 3 ∷ []) worked ≡ record { answer = 10 ∷ 27 ∷ []; holds = (0 ∷ 0 ∷ 0 ∷ 0 ∷ 0 ∷ 0 ∷ 0 ∷ 0 ∷ 0 ∷ 0 ∷ 0 ∷ 0 ∷ 0 ∷ 0 ∷ 0 ∷ 0 ∷ 0 ∷ 0 ∷ 0 ∷ 0 ∷ 0 ∷ 0 ∷ 0 ∷ 0 ∷ 0 ∷ []) ∷ (0 ∷ 0 ∷ 0 ∷ []) ∷ [] })
    × (answer judge_mobile full worked ≡ 0 ∷ 0 ∷ 7 ∷ [])
    × (answer write_sheet (28 ∷ 33 ∷ 100 ∷ []) worked ≡ 0 ∷ 0 ∷ 81 ∷ [])
    × (ask (reads full worked) (sheet.write 100 worked) ≡ good worked_sheet)
    × (outcome write_sheet (26 ∷ 30 ∷ 2 ∷ []) worked ≡ record { answer = 22 ∷ 0 ∷ []; holds = (0 ∷ 0 ∷ 0 ∷ 0 ∷ 0 ∷ 0 ∷ 0 ∷ 0 ∷ 0 ∷ 0 ∷ 0 ∷ 0 ∷ 0 ∷ 0 ∷ 0 ∷ 0 ∷ 0 ∷ 0 ∷ 0 ∷ 0 ∷ 0 ∷ 0 ∷ 0 ∷ 0 ∷ 0 ∷ 0 ∷ []) ∷ (0 ∷ 0 ∷ 0 ∷ 0 ∷ 0 ∷ 0 ∷ 0 ∷ 0 ∷ 0 ∷ 0 ∷ 0 ∷ 0 ∷ 0 ∷ 0 ∷ 0 ∷ 0 ∷ 0 ∷ 0 ∷ 0 ∷ 0 ∷ 0 ∷ 0 ∷ 0 ∷ 0 ∷ 0 ∷ 0 ∷ 0 ∷ 0 ∷ 0 ∷ 0 ∷ []) ∷ (0 ∷ 0 ∷ []) ∷ [] })
    × (answer (find_item (find.custom (0x61 ∷ [])) 1) full worked ≡ 0 ∷ 0 ∷ 0 ∷ 1 ∷ 0 ∷ 1 ∷ 32 ∷ 1 ∷ 0 ∷ 0 ∷ 0 ∷ 36 ∷ 2 ∷ [])
    × (answer (find_item (find.custom (0x61 ∷ [])) 0) full worked ≡ 23 ∷ 0 ∷ [])
    × (answer (find_item (find.standard 9) 1) full family ≡ 0 ∷ 0 ∷ 0 ∷ 0 ∷ 0 ∷ 0 ∷ 9 ∷ 0 ∷ 0 ∷ 0 ∷ 0 ∷ 22 ∷ 2 ∷ [])
    × (answer (find_item (find.standard 8) 1) full family ≡ 23 ∷ 0 ∷ [])
    × (answer (find_item (find.standard 9) 2) full family ≡ 18 ∷ 0 ∷ [])
    × (answer (find_own (find.custom (0x61 ∷ [])) 1) full worked ≡ 0 ∷ 0 ∷ 0 ∷ 1 ∷ 0 ∷ 1 ∷ 32 ∷ 1 ∷ 0 ∷ 0 ∷ 0 ∷ 36 ∷ 2 ∷ [])
    × (answer (find_own (find.standard 9) 0) full family ≡ 0 ∷ 0 ∷ 0 ∷ 0 ∷ 0 ∷ 0 ∷ 9 ∷ 0 ∷ 0 ∷ 0 ∷ 0 ∷ 22 ∷ 2 ∷ [])
    × (answer (find_own (find.standard 9) 1) full family ≡ 23 ∷ 0 ∷ [])
    × (answer (find_own (find.standard 9) 2) full family ≡ 18 ∷ 0 ∷ [])
    × (answer (resolve_row 0) full chained ≡ 19 ∷ 0 ∷ [])
    × (answer (resolve_row 1) full chained ≡ 21 ∷ 0 ∷ [])
    × (answer (resolve_row 2) full chained ≡ 0 ∷ 0 ∷ 60 ∷ 1 ∷ 6 ∷ 4 ∷ [])
    × (answer (resolve_row 6) full chained ≡ 0 ∷ 0 ∷ 60 ∷ 1 ∷ 6 ∷ 0 ∷ [])
    × (answer (resolve_row 7) full chained ≡ 21 ∷ 0 ∷ [])
    × (answer (resolve_row 8) full chained ≡ 18 ∷ 0 ∷ [])
    × (answer (count_for 0 3 1) full (needing 0) ≡ 0 ∷ 0 ∷ 2 ∷ [])
    × (answer (count_for 1 3 1) full (needing 0) ≡ 18 ∷ 0 ∷ [])
    × (answer (count_for 0 4 0) full (needing 0) ≡ 23 ∷ 0 ∷ [])
    × (answer (count_for 0 4 0) full (needing 6) ≡ 25 ∷ 27 ∷ [])
    × (answer (count_for 2 0 0) full worked ≡ 23 ∷ 0 ∷ [])
    × (promises.resource 2 full chained ≡ 0xAA ∷ [])
    × (promises.resource 1 full chained ≡ [])
    × (answer (copy_resource 1) (28 ∷ 33 ∷ 4 ∷ []) worked ≡ 0 ∷ 0 ∷ 54 ∷ 2 ∷ 1 ∷ 0 ∷ [])
    × (get_or (outcome (copy_resource 1) (28 ∷ 33 ∷ 4 ∷ []) worked).holds 2 [] ≡ 0xAA ∷ 0xBB ∷ 0 ∷ 0 ∷ [])
    × (answer (copy_resource 1) (28 ∷ 33 ∷ 1 ∷ []) worked ≡ 22 ∷ 0 ∷ [])
    × (reads full (with_inline 0x00 0xFF) ≡ reads full worked)
    × (ask (reads full (with_inline 0x00 0xFF)) (sheet.write 100 (with_inline 0x00 0xFF)) ≡ good worked_sheet)
    × (reads full (with_tail 0x00) ≡ reads full (with_tail 0xFF))
    × (ask (reads full (with_tail 0x00)) (sheet.write 100 (with_tail 0x00)) ≡ good tail_sheet)
    × (ask (reads full (with_tail 0xFF)) (sheet.write 100 (with_tail 0xFF)) ≡ good tail_sheet)
    × (reads full (with_reference 0x05) ≡ refusal 13 53)
    × (nodes_read (small 28 13 19 (to 20 ++ holding)) ≡ good ((13 ∷ 0 ∷ 1 ∷ 20 ∷ 0 ∷ []) ∷ (20 ∷ 1 ∷ 0 ∷ 26 ∷ 1 ∷ []) ∷ []))
    × (nodes_read (small 28 21 27 (holding ++ to 13)) ≡ good ((21 ∷ 0 ∷ 1 ∷ 13 ∷ 0 ∷ []) ∷ (13 ∷ 1 ∷ 0 ∷ 19 ∷ 1 ∷ []) ∷ []))
    × (nodes_read (small 27 13 19 (to 20 ++ to 20)) ≡ good ((13 ∷ 0 ∷ 1 ∷ 20 ∷ 0 ∷ []) ∷ (20 ∷ 1 ∷ 0 ∷ 20 ∷ 1 ∷ []) ∷ []))
    × (nodes_read (small 35 13 19 (to 20 ++ to 27 ++ holding)) ≡ good ((13 ∷ 0 ∷ 1 ∷ 20 ∷ 0 ∷ []) ∷ (20 ∷ 1 ∷ 0 ∷ 27 ∷ 1 ∷ []) ∷ (27 ∷ 2 ∷ 0 ∷ 33 ∷ 1 ∷ []) ∷ []))
    × (nodes_read (small 41 13 32 (both 33 33 ++ holding)) ≡ good ((13 ∷ 0 ∷ 1 ∷ 19 ∷ 0 ∷ []) ∷ (19 ∷ 0 ∷ 2 ∷ 33 ∷ 0 ∷ []) ∷ (26 ∷ 0 ∷ 2 ∷ 33 ∷ 0 ∷ []) ∷ (33 ∷ 3 ∷ 0 ∷ 39 ∷ 1 ∷ []) ∷ []))
    × (nodes_read (small 49 13 32 (both 41 33 ++ holding ++ holding))
    ≡ good ((13 ∷ 0 ∷ 1 ∷ 19 ∷ 0 ∷ []) ∷ (19 ∷ 0 ∷ 2 ∷ 41 ∷ 0 ∷ []) ∷ (26 ∷ 0 ∷ 2 ∷ 33 ∷ 0 ∷ []) ∷ (41 ∷ 3 ∷ 0 ∷ 47 ∷ 1 ∷ []) ∷ (33 ∷ 4 ∷ 0 ∷ 39 ∷ 1 ∷ []) ∷ []))
    × (nodes_read (small 34 13 19 (to 20 ++ (0x0E ∷ 0x01 ∷ 0x05 ∷ 0x00 ∷ 0x00 ∷ 0x01 ∷ holding))) ≡ bad 24 19)
    × (nodes_read (small 27 13 19 (to 20 ++ to 22)) ≡ bad 24 26)
    × (nodes_read (small 27 13 19 (to 20 ++ to 23)) ≡ bad 3 24)
    × (nodes_read (small 20 13 19 (to 5)) ≡ bad 16 19)
    × (nodes_read (small 28 13 19 (to 28 ++ holding)) ≡ bad 16 19)
    × (nodes_read (small 20 13 19 (to 14)) ≡ bad 16 19)
    × (nodes_read (small 27 20 26 (0x08 ∷ 0x00 ∷ 0x05 ∷ 0x00 ∷ 0x00 ∷ 0x01 ∷ 0xAA ∷ to 13)) ≡ bad 8 13)
    × (ask (reads full titled) (sheet.write 100 titled) ≡ good titled_sheet)
    × (unicode.to_utf8 (0xFE ∷ 0xFF ∷ 0x00 ∷ 0x41 ∷ 0x20 ∷ 0xAC ∷ 0xD8 ∷ 0x34 ∷ 0xDD ∷ 0x1E ∷ []) ≡ good (0x41 ∷ 0xE2 ∷ 0x82 ∷ 0xAC ∷ 0xF0 ∷ 0x9D ∷ 0x84 ∷ 0x9E ∷ []))
    × (unicode.to_utf8 (0xFE ∷ 0xFF ∷ 0xFE ∷ 0xFF ∷ []) ≡ good (0xEF ∷ 0xBB ∷ 0xBF ∷ []))
    × (unicode.to_utf8 (0x00 ∷ 0x41 ∷ 0x00 ∷ []) ≡ bad 26 2)
    × (unicode.to_utf8 (0x00 ∷ 0x41 ∷ 0xD8 ∷ 0x00 ∷ 0xDC ∷ []) ≡ bad 26 2)
    × (unicode.to_utf8 (0xDC ∷ 0x00 ∷ 0xD8 ∷ 0x00 ∷ []) ≡ bad 26 0)
    × (unicode.to_utf16 (0xEF ∷ 0xBB ∷ 0xBF ∷ 0xF0 ∷ 0x90 ∷ 0x80 ∷ 0x80 ∷ []) ≡ good (0xFE ∷ 0xFF ∷ 0xD8 ∷ 0x00 ∷ 0xDC ∷ 0x00 ∷ []))
    × (unicode.to_utf16 (0x41 ∷ 0xC1 ∷ 0x81 ∷ []) ≡ bad 26 1)
    × (unicode.to_utf16 (0xED ∷ 0xA0 ∷ 0x80 ∷ []) ≡ bad 26 0)
    × (unicode.to_utf16 (0xF4 ∷ 0x90 ∷ 0x80 ∷ 0x80 ∷ []) ≡ bad 26 0)
unfolding run trace rows_of ◌>>=◌ ◌>>◌ when◌then◌else◌ place skip check turns many times next digits number block manufacturer guid format_of four opening edition file_length entry types_table extent header field contents item_frame universal declared_format version rows_for item next_item meta_items metadata header_length head value identifier unpacker entries unpackers resource node_place uri_place target reference rest front folder node tree.tree starts_at offset_at is_missing logged outside part_end is_taken first_of first_taken detached_at follow_row follow tree.detached reading read_tree read_file first answer reads leaves outcome counts node_table item_table ask promises.resource is_hidden find.same_bytes find.matches find.among own.numbered own.those own.own find.look find.rows_up find.path find.or_else find.first_answer find.nearest find.find find.find_own resolve.row_starting resolve.resource_of resolve.reached resolve.chain resolve.resolve_row resolve.resolve resolve.part resolve.fitting resolve.copy_into row.is_field row.is_binary row.is_description description.value description.a_byte description.guid description.identifier description.resource description.numbers description.lists description.table description.description count.data_read count.is_read count.is_readable count.count_at count.count_of count.count_in count.count_row count.count_for mobile.all mobile.is_empty mobile.role_of_type mobile.role_of_number mobile.role_of_row mobile.role_of_rows mobile.role_of mobile.rows_from mobile.children_that mobile.each_typed mobile.right_edition mobile.is_file mobile.files_only mobile.is_plain mobile.plain_references mobile.is_unpacked mobile.no_unpackers mobile.one_tune mobile.is_need mobile.are_needs mobile.tune_needs mobile.is_short mobile.field_size mobile.is_small mobile.small_fields mobile.check mobile.verdict mobile.mobile text.hex_digit text.plain text.escaped text.escaped_part text.tabbed text.number text.version_text sheet.first_line sheet.node_line sheet.label sheet.text_of sheet.item_line sheet.visible_line sheet.node_lines sheet.item_lines sheet.lines_of sheet.sheet_of sheet.fitting sheet.write sheet.counted sheet.kept room.padded text.shown_byte text.shown text.shown_or text.unicode_text unicode.units unicode.bytes_of unicode.utf16 unicode.bytes16 unicode.utf8 unicode.paired unicode.of_units unicode.first16 unicode.tails unicode.first8 unicode.before unicode.next unicode.chars unicode.bytes_all unicode.unmark unicode.written unicode.converted unicode.to_utf8 unicode.to_utf16 places nodes_read decimal.digits decimal.decimal text.hex_digits text.hexed
cases = (refl, refl, refl, refl, refl, refl, refl, refl, refl, refl, refl, refl, refl, refl, refl, refl, refl, refl, refl, refl, refl, refl, refl, refl, refl, refl, refl, refl, refl, refl, refl, refl, refl, refl, refl, refl, refl, refl, refl, refl, refl, refl, refl, refl, refl, refl, refl, refl, refl, refl, refl, refl, refl, refl, refl, refl, refl, refl, refl, refl, refl, refl, refl, refl, refl, refl, refl, refl, refl, refl, refl, refl, refl, refl)
