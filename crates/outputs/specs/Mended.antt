-- The copy of a file whose header is mended, and the lines that tell of it.
-- Assumes nothing.
use Rattle.std.specs.Prelude.{List, [], ℕ}
use Rattle.metadata.specs.Tables.{full_nodes, full_items, limits}
use Rattle.mend.specs.Mend.{mend}
use Rattle.mend.specs.Told.{copy_in, lines_in}
use Rattle.lines.specs.Answer.{Answer, plainly, printed}

-- the copy, with room of 256 bytes for the lines
unfoldable pub mended_answer : (room : ℕ) → List ℕ → Answer
mended_answer room f = printed room [] plainly (copy_in (mend (limits full_nodes full_items) room 256 f))

-- the lines, with room of 65,536 bytes for the copy
unfoldable pub mend_lines_answer : (room : ℕ) → List ℕ → Answer
mend_lines_answer room f = printed room [] plainly (lines_in (mend (limits full_nodes full_items) 65536 room f))
