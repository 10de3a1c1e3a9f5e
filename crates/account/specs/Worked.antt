-- The account of two files, computed in one test: the worked file, and one with nodes and bytes outside the tree, which has all nine kinds, place by place; what is
-- refused; and the totals.
-- Assumes nothing.
use Rattle.std.specs.Prelude.{◌≡◌, refl, List, [], ◌∷◌, ◌++◌, ℕ, take, replicate}
use Rattle.machine.specs.Machine.{run, trace, rows_of, ◌>>=◌, ◌>>◌, when◌then◌else◌, place, skip, check, turns, many, times}
use Rattle.cursor.specs.Leaves.{next, digits, number, block, manufacturer, guid}
use Rattle.header.specs.Types.{format_of}
use Rattle.header.specs.Header.{four, opening, edition, file_length, entry, types_table, extent, header}
use Rattle.metadata.specs.Tables.{limits, full_nodes, full_items}
use Rattle.metadata.specs.Metadata.{field, contents, item_frame, universal, declared_format, version, rows_for, item, next_item, meta_items, metadata}
use Rattle.node.specs.Node.{header_length, head, value, identifier, unpacker, entries, unpackers, resource, node_place, uri_place, target, reference, rest, front}
use Rattle.tree.specs.Tree as tree
use Rattle.tree.specs.Tree.{folder, node}
use Rattle.file.specs.Reading.{logged, detached_at, follow_row, follow, reading, read_tree, read_file}
use Rattle.targets.specs.Targets.{starts_at, offset_at, is_missing, outside, part_end, is_taken, first_of, first_taken}
use Rattle.room.specs.Room.{padded, fitting, kept}
use Rattle.file.specs.Asking.{Result, good, bad, ask}
use Rattle.file.specs.Hidden.{is_hidden}
use Rattle.account.specs.Account.{kind_at, kinds_from, places, events_of, kinds_of}
use Rattle.account.specs.Marks.{marks_of}
use Rattle.account.specs.Totals.{allowed, totals_left}
use Rattle.account.specs.Told.{total_words}
use Rattle.account.specs.declared.Kinds.{Kinds}
use Rattle.account.specs.declared.Totals.{Totals}

-- what a file gives with full tables
unfoldable pub given : List ℕ → Result Kinds
given f = ask (read_file (limits full_nodes full_items) f) (kinds_of (limits full_nodes full_items) f)

-- the kinds of its places, and what a buffer of `room` bytes holds after the call
unfoldable pub kinds_in : (room : ℕ) → List ℕ → Result (List ℕ)
kinds_in room f = ask (read_file (limits full_nodes full_items) f) (marks_of (limits full_nodes full_items) room f)

unfoldable pub marks_in : (room : ℕ) → List ℕ → List ℕ
marks_in room f = kept room (kinds_in room f)

-- totals of n files, with no byte
abbrev pub after : ℕ → Totals
after n = record { files = n; refused = n; kinds = record { header = 0; nodes = 0; metadata = 0; visible = 0; hidden = 0; unpackers = 0; references = 0; inline = 0; rest = 0 } }

-- document 01's file, mended
abbrev pub worked : List ℕ
worked =
    0x58 ∷ 0x4D ∷ 0x46 ∷ 0x5F ∷ 0x32 ∷ 0x2E ∷ 0x30 ∷ 0x30 ∷ 0x00 ∷ 0x00 ∷ 0x00 ∷ 0x02 ∷ 0x00 ∷ 0x00 ∷ 0x00 ∷ 0x01 ∷ 0x38 ∷ 0x01 ∷ 0x00 ∷ 0x15 ∷ 0x37 ∷ 0x23 ∷ 0x01 ∷ 0x05 ∷ 0x00 ∷ 0x00 ∷ 0x01 ∷ 0x1D
    ∷ 0x00 ∷ 0x1A ∷ 0x15 ∷ 0x01 ∷ 0x61 ∷ 0x00 ∷ 0x03 ∷ 0x00 ∷ 0x48 ∷ 0x69 ∷ 0x01 ∷ 0x74 ∷ 0x00 ∷ 0x03 ∷ 0x07 ∷ 0x11 ∷ 0x22 ∷ 0x00 ∷ 0x03 ∷ 0x00 ∷ 0x03 ∷ 0x06 ∷ 0x00 ∷ 0x00 ∷ 0x00 ∷ 0x01 ∷ 0xAA ∷ 0xBB ∷ []

-- with two nodes outside the tree, one before it and one after it, bytes around them, and all nine kinds
abbrev pub header_part : List ℕ
header_part = 0x58 ∷ 0x4D ∷ 0x46 ∷ 0x5F ∷ 0x31 ∷ 0x2E ∷ 0x30 ∷ 0x30 ∷ 0x4C ∷ 0x06 ∷ 0x01 ∷ 0x48 ∷ 0x00 ∷ 0x02 ∷ 0x64 ∷ 0x65 ∷ 0x26 ∷ 0x39 ∷ []

abbrev pub node_before : List ℕ
node_before = 0x11 ∷ 0x00 ∷ 0x0E ∷ 0x06 ∷ 0x01 ∷ 0x74 ∷ 0x00 ∷ 0x02 ∷ 0x07 ∷ 0x11 ∷ 0x03 ∷ 0x00 ∷ 0x05 ∷ 0x10 ∷ 0x01 ∷ 0xCC ∷ 0xDD ∷ []

abbrev pub tree_part : List ℕ
tree_part = 0x14 ∷ 0x02 ∷ 0x05 ∷ 0x00 ∷ 0x00 ∷ 0x01 ∷ 0x07 ∷ 0x00 ∷ 0x05 ∷ 0x00 ∷ 0x00 ∷ 0x03 ∷ 0x14 ∷ 0x07 ∷ 0x00 ∷ 0x05 ∷ 0x00 ∷ 0x00 ∷ 0x03 ∷ 0x3B ∷ []

abbrev pub node_after : List ℕ
node_after = 0x10 ∷ 0x00 ∷ 0x0C ∷ 0x07 ∷ 0x00 ∷ 0x03 ∷ 0x00 ∷ 0x03 ∷ 0x06 ∷ 0x00 ∷ 0x00 ∷ 0x00 ∷ 0x04 ∷ 0x02 ∷ 0x61 ∷ 0x62 ∷ []

abbrev pub around : List ℕ
around = header_part ++ (0xAA ∷ 0xBB ∷ []) ++ node_before ++ (0xEE ∷ []) ++ tree_part ++ (0xFF ∷ []) ++ node_after ++ (0x99 ∷ [])

cases : (given worked ≡ good (record { header = 21; nodes = 6; metadata = 17; visible = 4; hidden = 2; unpackers = 2; references = 2; inline = 2; rest = 0 }))
    × (given around ≡ good (record { header = 18; nodes = 15; metadata = 15; visible = 2; hidden = 1; unpackers = 8; references = 10; inline = 2; rest = 5 }))
    × (kinds_in 76 around ≡ good (replicate 18 0 ++ (8 ∷ 8 ∷ []) ++ (1 ∷ 1 ∷ 1 ∷ 2 ∷ 2 ∷ 2 ∷ 2 ∷ 2 ∷ 2 ∷ 4 ∷ 5 ∷ 5 ∷ 5 ∷ 5 ∷ 6 ∷ 7 ∷ 7 ∷ []) ++ (8 ∷ [])
    ++ (1 ∷ 1 ∷ 1 ∷ 2 ∷ 5 ∷ 6 ∷ 1 ∷ 1 ∷ 1 ∷ 2 ∷ 5 ∷ 6 ∷ 6 ∷ 1 ∷ 1 ∷ 1 ∷ 2 ∷ 5 ∷ 6 ∷ 6 ∷ []) ++ (8 ∷ []) ++ (1 ∷ 1 ∷ 1 ∷ 2 ∷ 2 ∷ 2 ∷ 2 ∷ 2 ∷ 2 ∷ 3 ∷ 3 ∷ 5 ∷ 6 ∷ 6 ∷ 6 ∷ 6 ∷ []) ++ (8 ∷ [])))
    × (marks_in 58 worked ≡ replicate 21 0 ++ (1 ∷ 1 ∷ 1 ∷ 2 ∷ 5 ∷ 6 ∷ 1 ∷ 1 ∷ 1 ∷ []) ++ replicate 6 2 ++ (3 ∷ 3 ∷ []) ++ replicate 5 2 ++ (4 ∷ 4 ∷ []) ++ replicate 5 2 ++ (3 ∷ 3 ∷ 5 ∷ 6 ∷ 7 ∷ 7 ∷ 0 ∷ 0 ∷ []))
    × (kinds_in 55 worked ≡ bad 22 0)
    × (marks_in 55 worked ≡ replicate 55 0)
    × (kinds_in 55 (take 55 worked) ≡ bad 5 16)
    × (given (take 55 worked) ≡ bad 5 16)
    × (allowed (after 999) (given worked) ≡ given worked)
    × (allowed (after 1000) (given worked) ≡ bad 32 0)
    × (total_words (totals_left (after 0) (given worked)) ≡ 1 ∷ 0 ∷ 21 ∷ 6 ∷ 17 ∷ 4 ∷ 2 ∷ 2 ∷ 2 ∷ 2 ∷ 0 ∷ [])
    × (total_words (totals_left (after 1) (given (take 55 worked))) ≡ 2 ∷ 2 ∷ 0 ∷ 0 ∷ 0 ∷ 0 ∷ 0 ∷ 0 ∷ 0 ∷ 0 ∷ 0 ∷ [])
    × (total_words (totals_left (after 1000) (given worked)) ≡ 1000 ∷ 1000 ∷ 0 ∷ 0 ∷ 0 ∷ 0 ∷ 0 ∷ 0 ∷ 0 ∷ 0 ∷ 0 ∷ [])
unfolding run trace rows_of ◌>>=◌ ◌>>◌ when◌then◌else◌ place skip check turns many times next digits number block manufacturer guid format_of four opening edition file_length entry types_table extent header field contents item_frame universal declared_format version rows_for item next_item meta_items metadata header_length head value identifier unpacker entries unpackers resource node_place uri_place target reference rest front folder node tree.tree starts_at offset_at is_missing logged outside part_end is_taken first_of first_taken detached_at follow_row follow tree.detached reading read_tree read_file ask is_hidden kind_at kinds_from places events_of kinds_of allowed totals_left padded fitting kept marks_of given kinds_in marks_in
cases = (refl, refl, refl, refl, refl, refl, refl, refl, refl, refl, refl, refl, refl)
