-- Every row of the two tables, a line each; and an item row that was found.
-- Assumes nothing.
use Rattle.std.specs.Prelude.{Bool, List, [], ◌∷◌, ◌++◌, ℕ, ◌+◌}
use Rattle.cursor.specs.declared.Node.{Node}
use Rattle.cursor.specs.declared.Item.{Item}
use Rattle.room.specs.Room.{good}
use Rattle.file.specs.Asking.{Asks, ask}
use Rattle.file.specs.Own.{Numbered}
use Rattle.text.specs.Text.{number}
use Rattle.sheet.specs.Sheet.{visible_line}
use Rattle.find.specs.Find.{Wanted}
use Rattle.find.specs.Told.{question}
use Rattle.lines.specs.Answer.{Answer, plainly, printed, reads}

-- ---- all rows, hidden ones too: a row's number and its words

unfoldable pub node_numbers : Node → List ℕ
node_numbers r =
    number r.start ++ number r.size ++ number r.header ++ number r.contained ++ number r.parent ++ number r.depth ++ number r.reference
    ++ number r.target ++ number r.extent ++ number r.unpackers ++ number r.unpacker_count ++ number r.rows ++ number r.detached

unfoldable pub item_numbers : Item → List ℕ
item_numbers r =
    number r.node ++ number r.item ++ number r.kind ++ number r.field ++ number r.name_length ++ number r.version ++ number r.declared
    ++ number r.format ++ number r.place ++ number r.size

-- `n`
unfoldable pub node_row : (k : ℕ) → Node → List ℕ
node_row k r = 0x6E ∷ number k ++ node_numbers r ++ 0x0A ∷ []

-- `i`, or another letter
unfoldable pub item_row : (letter k : ℕ) → Item → List ℕ
item_row letter k r = letter ∷ number k ++ item_numbers r ++ 0x0A ∷ []

-- the rows from row k on
unfoldable pub node_rows : (k : ℕ) → List Node → List ℕ
node_rows k [] = []
node_rows k (r ∷ rs) = node_row k r ++ node_rows (k + 1) rs

unfoldable pub item_rows : (k : ℕ) → List Item → List ℕ
item_rows k [] = []
item_rows k (r ∷ rs) = item_row 0x69 k r ++ item_rows (k + 1) rs

unfoldable pub all_rows : Asks (List ℕ)
all_rows f h ns is = good (node_rows 0 ns ++ item_rows 0 is)

unfoldable pub rows_answer : (room : ℕ) → List ℕ → Answer
rows_answer room f = printed room [] plainly (ask (reads f) (all_rows f))

-- ---- an item row that was found: `I` and its words, and its line on the sheet if it is visible

unfoldable pub found_lines : List ℕ → Numbered → List ℕ
found_lines f n = item_row 0x49 n.row n.item ++ visible_line f n.item

abbrev pub found_by : List ℕ → Numbered → Answer
found_by f n = plainly (found_lines f n)

unfoldable pub found_answer : (room : ℕ) → (climbs : Bool) → Wanted → (row : ℕ) → List ℕ → Answer
found_answer room climbs w row f = printed room [] (found_by f) (ask (reads f) (question climbs w row f))
