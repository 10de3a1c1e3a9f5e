-- The correction of a title, computed: what the call leaves of the worked file, and on a refusal.
-- Assumes nothing.
use Rattle.std.specs.Prelude.{◌≡◌, refl, List, [], ◌∷◌, ◌++◌, ℕ, drop, replicate, take}
use Rattle.machine.specs.Machine.{run, trace, rows_of, ◌>>=◌, ◌>>◌, when◌then◌else◌, place, skip, check, turns, many, times}
use Rattle.cursor.specs.Leaves.{next, digits, number, block, manufacturer, guid}
use Rattle.vlq.specs.Vlq as vlq
use Rattle.header.specs.Types.{format_of}
use Rattle.header.specs.Header.{four, opening, edition, file_length, entry, types_table, extent, header}
use Rattle.metadata.specs.Metadata.{field, contents, item_frame, universal, declared_format, version, rows_for, item, next_item, meta_items, metadata}
use Rattle.node.specs.Node.{header_length, head, value, identifier, unpacker, entries, unpackers, resource, node_place, uri_place, target, reference, rest, front}
use Rattle.tree.specs.Tree as tree
use Rattle.tree.specs.Tree.{folder, node}
use Rattle.file.specs.Reading.{logged, detached_at, follow_row, follow, reading, read_tree, read_file, node_table, item_table}
use Rattle.targets.specs.Targets.{starts_at, offset_at, is_missing, outside, part_end, is_taken, first_of, first_taken}
use Rattle.file.specs.Asking.{ask}
use Rattle.file.specs.Hidden.{is_hidden}
use Rattle.title_text.specs.Description as described
use Rattle.title_text.specs.Text as text
use Rattle.title_text.specs.Title as title
use Rattle.room.specs.Room as room
use Rattle.promises.specs.Promises.{correct_title, reads, leaves, outcome}
use Rattle.promises.specs.Worked.{worked}

-- Hello
abbrev hello : List ℕ
hello = 0x48 ∷ 0x65 ∷ 0x6C ∷ 0x6C ∷ 0x6F ∷ []

-- the worked file with that title: FileLength, TreeEnd, both NodeLengths, a NodeHeaderLength, the metadata's length and the content's are 3 more
abbrev greeting : List ℕ
greeting =
    take 16 worked ++ (0x3B ∷ 0x01 ∷ 0x00 ∷ 0x15 ∷ 0x3A ∷ 0x26 ∷ 0x01 ∷ 0x05 ∷ 0x00 ∷ 0x00 ∷ 0x01 ∷ 0x20 ∷ 0x00 ∷ 0x1D ∷ 0x18 ∷ 0x01 ∷ 0x61 ∷ 0x00 ∷ 0x06 ∷ 0x00 ∷ [])
    ++ hello ++ drop 38 worked

cases : (outcome (correct_title 0 hello) (27 ∷ 31 ∷ 60 ∷ []) worked
    ≡ record {
      answer = 0 ∷ 0 ∷ 59 ∷ [];
      holds =
          (21 ∷ 38 ∷ 5 ∷ 1 ∷ 0 ∷ 1 ∷ 1 ∷ 27 ∷ 32 ∷ 26 ∷ 0 ∷ 0 ∷ 0 ∷ 27 ∷ 32 ∷ 29 ∷ 0 ∷ 0 ∷ 2 ∷ 1 ∷ 57 ∷ 2 ∷ 56 ∷ 0 ∷ 3 ∷ 0 ∷ 0 ∷ [])
          ∷ (1 ∷ 0 ∷ 1 ∷ 32 ∷ 1 ∷ 0 ∷ 0 ∷ 0 ∷ 36 ∷ 5 ∷ 1 ∷ 1 ∷ 1 ∷ 42 ∷ 1 ∷ 0 ∷ 0 ∷ 7 ∷ 46 ∷ 2 ∷ 1 ∷ 2 ∷ 0 ∷ 3 ∷ 0 ∷ 0 ∷ 0 ∷ 6 ∷ 53 ∷ 2 ∷ 0 ∷ [])
          ∷ (greeting ++ 0 ∷ [])
          ∷ [];
    })
    × (outcome (correct_title 0 hello) (26 ∷ 30 ∷ 58 ∷ []) worked ≡ record { answer = 22 ∷ 0 ∷ []; holds = replicate 26 0 ∷ replicate 30 0 ∷ replicate 58 0 ∷ [] })
    × (outcome (correct_title 1 hello) (26 ∷ 30 ∷ 60 ∷ []) worked ≡ record { answer = 37 ∷ 0 ∷ []; holds = replicate 26 0 ∷ replicate 30 0 ∷ replicate 60 0 ∷ [] })
unfolding run trace rows_of ◌>>=◌ ◌>>◌ when◌then◌else◌ place skip check turns many times next digits number block manufacturer guid format_of four opening edition file_length entry types_table extent header field contents item_frame universal declared_format version rows_for item next_item meta_items metadata header_length head value identifier unpacker entries unpackers resource node_place uri_place target reference rest front folder node tree.tree tree.detached logged starts_at offset_at is_missing outside part_end is_taken first_of first_taken detached_at follow_row follow reading read_tree read_file node_table item_table ask is_hidden vlq.in_bytes vlq.from vlq.least vlq.vlq vlq.sized described.content described.copied described.identifier_text described.unpacker_text described.entry_text described.table_text described.shape described.described described.titled described.titled_at described.retitled text.further text.field_text text.item_text text.universal_text text.version_text text.content_text text.items_text text.header_bytes text.header_size text.length_bytes text.header_of text.framed text.own_text text.node_text text.whole_text text.outer text.last_bytes text.start_bytes text.start_at text.file_bytes text.tree_start text.assembled text.file_of text.file_text title.elsewhere title.is_no_title title.titled_file title.fitting title.correct_title room.padded room.counted room.kept reads leaves outcome
cases = (refl, refl, refl)
