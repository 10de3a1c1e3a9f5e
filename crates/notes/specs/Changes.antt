-- What a correction changed, for people: the title and the file's length, before and after.
-- Assumes nothing.
use Rattle.std.specs.Prelude.{cond, List, [], ◌∷◌, ◌++◌, ℕ, leb, length}
use Rattle.rows.specs.Rows.{item_at}
use Rattle.file.specs.Reading.{Reading, rows, refusal}
use Rattle.text.specs.Text.{tabbed, number}
use Rattle.sheet.specs.Sheet.{text_of}
use Rattle.title_text.specs.Title.{is_no_title}
use Rattle.lines.specs.Answer.{reads}
use Rattle.notes.specs.Safe.{safe_text}

-- the text of an item row, as it stands on the sheet; none for a row that is not there, hidden or a version
unfoldable pub row_text : (row : ℕ) → List ℕ → Reading → List ℕ
row_text row f (rows h ns is) = cond (leb (length is) row) [] (cond (is_no_title (item_at is row)) [] (text_of f (item_at is row)))
row_text row f (refusal n p) = []

-- of a text, what stands in its first 200 bytes; nothing of one that has more than three times 65,536 bytes
unfoldable pub shown_text : List ℕ → List ℕ
shown_text t = cond (leb (length t) 196608) (safe_text 200 t) []

-- the field of an item row's text
unfoldable pub title_field : (row : ℕ) → (f : List ℕ) → List ℕ
title_field row f = tabbed (shown_text (row_text row f (reads f)))

-- `title` and the two titles; `length` and the two lengths
unfoldable pub changes_text : (row : ℕ) → (old new : List ℕ) → List ℕ
changes_text row old new =
    (0x74 ∷ 0x69 ∷ 0x74 ∷ 0x6C ∷ 0x65 ∷ [])
    ++ title_field row old
    ++ title_field row new
    ++ (0x0A ∷ 0x6C ∷ 0x65 ∷ 0x6E ∷ 0x67 ∷ 0x74 ∷ 0x68 ∷ [])
    ++ number (length old)
    ++ number (length new)
    ++ 0x0A ∷ []
