-- The support sheet in either edition, and the conversions: the text of each answer.
-- Assumes nothing.
use Rattle.std.specs.Prelude.{Bool, List, [], ℕ}
use Rattle.room.specs.Room.{fitting}
use Rattle.file.specs.Asking.{ask}
use Rattle.sheet.specs.Sheet.{write_in}
use Rattle.editions.specs.Sheets.{move}
use Rattle.utf16.specs.Unicode.{to_utf8, to_utf16}
use Rattle.lines.specs.Answer.{Answer, plainly, printed, reads}

-- ---- the support sheet, in either edition

unfoldable pub sheet_answer : (room : ℕ) → (second : Bool) → (tail f : List ℕ) → Answer
sheet_answer room second tail f = printed room tail plainly (ask (reads f) (write_in second room f))

-- a sheet in its other edition
unfoldable pub moved_answer : (room : ℕ) → List ℕ → Answer
moved_answer room sheet = printed room [] plainly (fitting room (move sheet))

-- ---- the conversions

unfoldable pub utf8_answer : (room : ℕ) → List ℕ → Answer
utf8_answer room units = printed room [] plainly (fitting room (to_utf8 units))

unfoldable pub utf16_answer : (room : ℕ) → List ℕ → Answer
utf16_answer room text = printed room [] plainly (fitting room (to_utf16 text))
