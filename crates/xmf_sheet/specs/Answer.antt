-- What the program writes for a file: its sheet, one refusal line, or `too long`.
-- Assumes nothing.
use Rattle.std.specs.Prelude.{cond, List, [], ◌∷◌, ◌++◌, ℕ, ltb, length}
use Rattle.metadata.specs.Tables.{full_nodes, full_items, limits}
use Rattle.file.specs.Reading.{read_file}
use Rattle.file.specs.Asking.{Result, good, bad, ask}
use Rattle.text.specs.Text.{number}
use Rattle.sheet.specs.Sheet.{write}

-- `R`, number, place
unfoldable pub refusal_line : ℕ → ℕ → List ℕ
refusal_line n p = 0x52 ∷ number n ++ number p ++ 0x0A ∷ []

-- `too long`
unfoldable pub too_long : List ℕ
too_long = 0x74 ∷ 0x6F ∷ 0x6F ∷ 0x20 ∷ 0x6C ∷ 0x6F ∷ 0x6E ∷ 0x67 ∷ 0x0A ∷ []

-- the lines of an answer
unfoldable pub lines : Result (List ℕ) → List ℕ
lines (good s) = s
lines (bad n p) = refusal_line n p

-- with full tables, and 65,536 bytes for the sheet
unfoldable pub answer_text : List ℕ → List ℕ
answer_text f = cond (ltb 65536 (length f)) too_long (lines (ask (read_file (limits full_nodes full_items) f) (write 65536 f)))
