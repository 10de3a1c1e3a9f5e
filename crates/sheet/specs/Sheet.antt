-- The support sheet (01, Support sheet; 02, E6 and E8): lines of fields, written with bytes, in two editions. And what the questions answer.
-- Assumes nothing.
use Rattle.std.specs.Prelude.{Bool, cond, List, [], ◌∷◌, ◌++◌, ℕ, ◌+◌, eqb, length, take, drop}
use Rattle.cursor.specs.declared.Node.{Node}
use Rattle.cursor.specs.declared.Item.{Item}
use Rattle.room.specs.Room.{good, no_room}
unfoldable pub use Rattle.room.specs.Room.{fitting, counted, kept}
use Rattle.header.specs.Header.{Header}
use Rattle.file.specs.Asking.{Asks}
use Rattle.file.specs.Hidden.{is_hidden}
use Rattle.text.specs.Text.{tabbed, number, version_text, escaped_part, unicode_text}

-- ---- lines

-- version, the file's length, node count, item row count
abbrev pub head_fields : (version size nodes items : ℕ) → List ℕ
head_fields version size nodes items = version_text version ++ number size ++ number nodes ++ number items ++ 0x0A ∷ []

-- `XMF` and these
unfoldable pub first_line : (version size nodes items : ℕ) → List ℕ
first_line version size nodes items = 0x58 ∷ 0x4D ∷ 0x46 ∷ tabbed (head_fields version size nodes items)

-- `N`, row, parent, depth, reference, target, extent
unfoldable pub node_line : ℕ → Node → List ℕ
node_line k r = 0x4E ∷ number k ++ number r.parent ++ number r.depth ++ number r.reference ++ number r.target ++ number r.extent ++ 0x0A ∷ []

-- `C` and the name of a custom field, or `S` and the number of a standard one
unfoldable pub label : List ℕ → Item → List ℕ
label f r = cond (eqb r.kind 1) (tabbed (0x43 ∷ tabbed (escaped_part f r.field r.name_length))) (tabbed (0x53 ∷ number r.field))

-- the row's data: format 2 is UTF-16, every other format stands as its bytes
unfoldable pub text_of : List ℕ → Item → List ℕ
text_of f r = cond (eqb r.format 2) (unicode_text f r.place r.size) (escaped_part f r.place r.size)

-- `M`, node row, `S` or `C`, field, version, format, text
unfoldable pub item_line : List ℕ → Item → List ℕ
item_line f r = 0x4D ∷ number r.node ++ label f r ++ number r.version ++ number r.format ++ tabbed (text_of f r) ++ 0x0A ∷ []

-- no line for a hidden content
unfoldable pub visible_line : List ℕ → Item → List ℕ
visible_line f r = cond (is_hidden r) [] (item_line f r)

-- ---- the sheet

-- the rows from row k on
unfoldable pub node_lines : ℕ → List Node → List ℕ
node_lines k [] = []
node_lines k (r ∷ rs) = node_line k r ++ node_lines (k + 1) rs

unfoldable pub item_lines : List ℕ → List Item → List ℕ
item_lines f [] = []
item_lines f (r ∷ rs) = visible_line f r ++ item_lines f rs

-- all lines of a file of that version
unfoldable pub lines_of : ℕ → List ℕ → List Node → List Item → List ℕ
lines_of version f ns is = first_line version (length f) (length ns) (length is) ++ node_lines 0 ns ++ item_lines f is

unfoldable pub sheet_of : List ℕ → Header → List Node → List Item → List ℕ
sheet_of f h ns is = lines_of h.version f ns is

-- ---- its second edition (02, E8): the lines of a row's items stand behind the row's own line

-- `XMF2`, and the rest as in the first edition
unfoldable pub first_line2 : (version size nodes items : ℕ) → List ℕ
first_line2 version size nodes items = 0x58 ∷ 0x4D ∷ 0x46 ∷ 0x32 ∷ tabbed (head_fields version size nodes items)

-- from row k on, each row's line and the lines of as many items as the row counts
unfoldable pub group_lines : List ℕ → ℕ → List Node → List Item → List ℕ
group_lines f k [] is = []
group_lines f k (r ∷ rs) is = node_line k r ++ item_lines f (take r.rows is) ++ group_lines f (k + 1) rs (drop r.rows is)

unfoldable pub lines2_of : ℕ → List ℕ → List Node → List Item → List ℕ
lines2_of version f ns is = first_line2 version (length f) (length ns) (length is) ++ group_lines f 0 ns is

-- either edition
abbrev pub lines_in : (second : Bool) → ℕ → List ℕ → List Node → List Item → List ℕ
lines_in second = cond second lines2_of lines_of

-- ---- the questions

-- the sheet, if a buffer of `room` bytes holds it
unfoldable pub write : (room : ℕ) → Asks (List ℕ)
write room f h ns is = fitting room (good (sheet_of f h ns is))

-- its second edition
unfoldable pub write2 : (room : ℕ) → Asks (List ℕ)
write2 room f h ns is = fitting room (good (lines2_of h.version f ns is))

abbrev pub write_in : (second : Bool) (room : ℕ) → Asks (List ℕ)
write_in second = cond second write2 write

-- their own refusals, after the reader's
abbrev pub refusals : List ℕ
refusals = no_room ∷ []
