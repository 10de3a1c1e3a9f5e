-- The contents that can be corrected, and the file with another one.
-- Assumes nothing.
use Rattle.std.specs.Prelude.{cond, List, [], ◌∷◌, ◌++◌, ℕ, ◌+◌, eqb, leb, length}
use Rattle.cursor.specs.Refusals.{refers_elsewhere}
use Rattle.cursor.specs.declared.Item.{Item}
use Rattle.room.specs.Room.{Result, good, bad, fitting}
use Rattle.room.specs.Decimal.{decimal}
use Rattle.rows.specs.Rows.{item_at}
use Rattle.file.specs.Reading.{Reading, rows, refusal}
use Rattle.file.specs.Asking.{Asks, ask}
use Rattle.text.specs.Text.{tabbed}
use Rattle.sheet.specs.Sheet.{item_line}
use Rattle.title_text.specs.Title.{elsewhere, is_no_title, correct_title}
use Rattle.utf16.specs.Unicode.{to_utf16}
use Rattle.lines.specs.Answer.{Answer, plainly, refused_by, printed, reads}

-- ---- the contents that can be corrected: the item row's number, and its line on the sheet; none for a row that is hidden or a version

unfoldable pub title_line : List ℕ → ℕ → Item → List ℕ
title_line f k r = cond (is_no_title r) [] (decimal k ++ tabbed (item_line f r))

-- the rows from row k on
unfoldable pub title_lines : List ℕ → ℕ → List Item → List ℕ
title_lines f k [] = []
title_lines f k (r ∷ rs) = title_line f k r ++ title_lines f (k + 1) rs

-- where some node has reference 2 or 3, none can be corrected
unfoldable pub titles : Asks (List ℕ)
titles f h ns is = cond (elsewhere ns) (bad refers_elsewhere 0) (good (title_lines f 0 is))

unfoldable pub titles_answer : (room : ℕ) → List ℕ → Answer
titles_answer room f = printed room [] plainly (ask (reads f) (titles f))

-- ---- the file with another content

-- with these bytes
unfoldable pub corrected_answer : (room row : ℕ) → (bytes f : List ℕ) → Answer
corrected_answer room row bytes f = printed room [] plainly (ask (reads f) (correct_title row bytes room f))

-- the format of an item row that can be corrected; 1 for any other
unfoldable pub title_format : (row : ℕ) → Reading → ℕ
title_format row (rows h ns is) = cond (leb (length is) row) 1 (cond (is_no_title (item_at is row)) 1 (item_at is row).format)
title_format row (refusal n p) = 1

-- the bytes that a title stands for
unfoldable pub typed : (format : ℕ) → List ℕ → Result (List ℕ)
typed format title = cond (eqb format 2) (fitting 65536 (to_utf16 title)) (good title)

unfoldable pub typed_answer : (room row : ℕ) → Result (List ℕ) → List ℕ → Answer
typed_answer room row (good bytes) f = corrected_answer room row bytes f
typed_answer room row (bad n p) f = refused_by room [] n p

-- with this title
unfoldable pub retitled_answer : (room row : ℕ) → (title f : List ℕ) → Answer
retitled_answer room row title f = typed_answer room row (typed (title_format row (reads f)) title) f
