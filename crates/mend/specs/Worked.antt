-- Mending, computed in one test: the worked file with other values in its two fields, as it is, cut short and with a byte more; fields of more than one byte; values that
-- their bytes cannot hold; and the refusals' order.
-- Assumes nothing.
use Rattle.std.specs.Prelude.{◌≡◌, refl, List, [], ◌∷◌, ◌++◌, ℕ, take, replicate}
use Rattle.machine.specs.Machine.{run, trace, rows_of, ◌>>=◌, ◌>>◌, when◌then◌else◌, place, skip, check, turns, many, times}
use Rattle.cursor.specs.Leaves.{next, digits, number, block, manufacturer, guid}
use Rattle.vlq.specs.Vlq as vlq
use Rattle.header.specs.Types.{format_of}
use Rattle.header.specs.Header.{four, opening, edition, file_length, entry, types_table, extent, header}
use Rattle.metadata.specs.Tables.{limits, full_nodes, full_items}
use Rattle.metadata.specs.Metadata.{field, contents, item_frame, universal, declared_format, version, rows_for, item, next_item, meta_items, metadata}
use Rattle.node.specs.Node.{header_length, head, value, identifier, unpacker, entries, unpackers, resource, node_place, uri_place, target, reference, rest, front}
use Rattle.room.specs.Decimal as decimal
use Rattle.tree.specs.Tree as tree
use Rattle.tree.specs.Tree.{folder, node}
use Rattle.file.specs.Reading.{logged, detached_at, follow_row, follow, reading, read_tree, read_file}
use Rattle.targets.specs.Targets.{starts_at, offset_at, is_missing, outside, part_end, is_taken, first_of, first_taken}
use Rattle.file.specs.Asking.{Result, good, bad, ask}
use Rattle.mend.specs.Fields.{number_field, fields}
use Rattle.mend.specs.Mend.{with_field, set_to, number_at, last_of, set_right, mended, tabbed, line, both_lines, lines_of, changes, Mended, fitting, mend}

-- with full tables, and room of 100 bytes for the lines
unfoldable pub given : (room : ℕ) → List ℕ → Result Mended
given room f = mend (limits full_nodes full_items) room 100 f

-- ---- files

-- document 01's file, mended in docs/DECISIONS.md, with these bytes for FileLength and TreeEnd; it is right with 56 and 55
abbrev pub worked : (length last : List ℕ) → List ℕ
worked a b =
    0x58 ∷ 0x4D ∷ 0x46 ∷ 0x5F ∷ 0x32 ∷ 0x2E ∷ 0x30 ∷ 0x30 ∷ 0x00 ∷ 0x00 ∷ 0x00 ∷ 0x02 ∷ 0x00 ∷ 0x00 ∷ 0x00 ∷ 0x01 ∷ [] ++ a ++ 0x01 ∷ 0x00 ∷ 0x15 ∷ [] ++ b
    ++ 0x23 ∷ 0x01 ∷ 0x05 ∷ 0x00 ∷ 0x00 ∷ 0x01 ∷ 0x1D ∷ 0x00 ∷ 0x1A ∷ 0x15 ∷ 0x01 ∷ 0x61 ∷ 0x00 ∷ 0x03 ∷ 0x00 ∷ 0x48 ∷ 0x69 ∷ 0x01
    ∷ 0x74 ∷ 0x00 ∷ 0x03 ∷ 0x07 ∷ 0x11 ∷ 0x22 ∷ 0x00 ∷ 0x03 ∷ 0x00 ∷ 0x03 ∷ 0x06 ∷ 0x00 ∷ 0x00 ∷ 0x00 ∷ 0x01 ∷ 0xAA ∷ 0xBB ∷ []

-- a file of version 1.00 whose two fields have two and four bytes; it is right with 27 and 26
abbrev pub wide : (length last : List ℕ) → List ℕ
wide a b = 0x58 ∷ 0x4D ∷ 0x46 ∷ 0x5F ∷ 0x31 ∷ 0x2E ∷ 0x30 ∷ 0x30 ∷ [] ++ a ++ 0x01 ∷ 0x00 ∷ 0x11 ∷ [] ++ b ++ 0x0A ∷ 0x00 ∷ 0x05 ∷ 0x00 ∷ 0x00 ∷ 0x01 ∷ 0xAA ∷ 0xBB ∷ 0xCC ∷ 0xDD ∷ []

-- the same with one byte each, and bytes after the tree
abbrev pub narrow : (length last : ℕ) → (more : ℕ) → List ℕ
narrow a b more = 0x58 ∷ 0x4D ∷ 0x46 ∷ 0x5F ∷ 0x31 ∷ 0x2E ∷ 0x30 ∷ 0x30 ∷ a ∷ 0x01 ∷ 0x00 ∷ 0x0D ∷ b ∷ 0x0A ∷ 0x00 ∷ 0x05 ∷ 0x00 ∷ 0x00 ∷ 0x01 ∷ 0xAA ∷ 0xBB ∷ 0xCC ∷ 0xDD ∷ [] ++ replicate more 0

-- ---- lines

abbrev pub file_length-5_56 : List ℕ
file_length-5_56 = 0x46 ∷ 0x69 ∷ 0x6C ∷ 0x65 ∷ 0x4C ∷ 0x65 ∷ 0x6E ∷ 0x67 ∷ 0x74 ∷ 0x68 ∷ 0x09 ∷ 0x31 ∷ 0x36 ∷ 0x09 ∷ 0x35 ∷ 0x09 ∷ 0x35 ∷ 0x36 ∷ 0x0A ∷ []

abbrev pub tree_end_0_55 : List ℕ
tree_end_0_55 = 0x54 ∷ 0x72 ∷ 0x65 ∷ 0x65 ∷ 0x45 ∷ 0x6E ∷ 0x64 ∷ 0x09 ∷ 0x32 ∷ 0x30 ∷ 0x09 ∷ 0x30 ∷ 0x09 ∷ 0x35 ∷ 0x35 ∷ 0x0A ∷ []

-- ---- the test

cases : (given 56 (worked (56 ∷ []) (55 ∷ [])) ≡ good (record { copy = worked (56 ∷ []) (55 ∷ []); lines = [] }))
    × (given 56 (worked (5 ∷ []) (55 ∷ [])) ≡ good (record { copy = worked (56 ∷ []) (55 ∷ []); lines = file_length-5_56 }))
    × (given 56 (worked (56 ∷ []) (0 ∷ [])) ≡ good (record { copy = worked (56 ∷ []) (55 ∷ []); lines = tree_end_0_55 }))
    × (given 56 (worked (5 ∷ []) (0 ∷ [])) ≡ good (record { copy = worked (56 ∷ []) (55 ∷ []); lines = file_length-5_56 ++ tree_end_0_55 }))
    × (given 56 (worked (0x81 ∷ 0x00 ∷ []) (55 ∷ [])) ≡ bad 5 16)
    × (given 56 (take 55 (worked (56 ∷ []) (55 ∷ []))) ≡ bad 5 16)
    × (given 57 (worked (56 ∷ []) (55 ∷ []) ++ 0xCC ∷ []) ≡ good (record { copy = worked (57 ∷ []) (55 ∷ []) ++ 0xCC ∷ []; lines = 0x46 ∷ 0x69 ∷ 0x6C ∷ 0x65 ∷ 0x4C ∷ 0x65 ∷ 0x6E ∷ 0x67 ∷ 0x74 ∷ 0x68 ∷ 0x09 ∷ 0x31 ∷ 0x36 ∷ 0x09 ∷ 0x35 ∷ 0x36 ∷ 0x09 ∷ 0x35 ∷ 0x37 ∷ 0x0A ∷ [] }))
    × (given 55 (worked (5 ∷ []) (55 ∷ [])) ≡ bad 22 0)
    × (mend (limits full_nodes full_items) 56 18 (worked (5 ∷ []) (55 ∷ [])) ≡ bad 22 0)
    × (mend (limits full_nodes full_items) 56 19 (worked (5 ∷ []) (55 ∷ [])) ≡ good (record { copy = worked (56 ∷ []) (55 ∷ []); lines = file_length-5_56 }))
    × (mend (limits full_nodes full_items) 0 0 (take 55 (worked (56 ∷ []) (55 ∷ []))) ≡ bad 5 16)
    × (mend (limits 25 full_items) 0 0 (worked (56 ∷ []) (55 ∷ [])) ≡ bad 10 27)
    × (mend (limits 25 full_items) 56 100 (worked (5 ∷ []) (55 ∷ [])) ≡ bad 5 16)
    × (given 27 (wide (0x80 ∷ 0x1B ∷ []) (0xFF ∷ 0xFF ∷ 0xFF ∷ 0x7F ∷ []))
    ≡ good (record { copy = wide (0x80 ∷ 0x1B ∷ []) (0x80 ∷ 0x80 ∷ 0x80 ∷ 0x1A ∷ []); lines = 0x54 ∷ 0x72 ∷ 0x65 ∷ 0x65 ∷ 0x45 ∷ 0x6E ∷ 0x64 ∷ 0x09 ∷ 0x31 ∷ 0x33 ∷ 0x09 ∷ 0x32 ∷ 0x36 ∷ 0x38 ∷ 0x34 ∷ 0x33 ∷ 0x35 ∷ 0x34 ∷ 0x35 ∷ 0x35 ∷ 0x09 ∷ 0x32 ∷ 0x36 ∷ 0x0A ∷ [] }))
    × (given 29 (wide (0xFF ∷ 0xFF ∷ 0xFF ∷ 0xFF ∷ []) (0x80 ∷ 0x80 ∷ 0x80 ∷ 0x1A ∷ [])) ≡ bad 4 8)
    × (given 27 (wide (0x80 ∷ 0x1B ∷ []) (0xFF ∷ 0xFF ∷ 0xFF ∷ 0xFF ∷ [])) ≡ bad 4 13)
    × (given 200 (narrow 127 22 104) ≡ good (record { copy = narrow 127 22 104; lines = [] }))
    × (given 200 (narrow 127 22 105) ≡ bad 5 8)
unfolding run trace rows_of ◌>>=◌ ◌>>◌ when◌then◌else◌ place skip check turns many times next digits number block manufacturer guid format_of four opening edition file_length entry types_table extent header field contents item_frame universal declared_format version rows_for item next_item meta_items metadata header_length head value identifier unpacker entries unpackers resource node_place uri_place target reference rest front folder node tree.tree tree.detached starts_at offset_at is_missing logged outside part_end is_taken first_of first_taken detached_at follow_row follow reading read_tree read_file ask vlq.in_bytes decimal.digits decimal.decimal number_field fields with_field set_to number_at last_of set_right mended tabbed line both_lines lines_of changes fitting mend given
cases = (refl, refl, refl, refl, refl, refl, refl, refl, refl, refl, refl, refl, refl, refl, refl, refl, refl, refl)
