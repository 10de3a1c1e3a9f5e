-- What the rows of a file refuse.
-- Assumes nothing.
use Rattle.std.specs.Prelude.{cond, List, ℕ, leb, length}
use Rattle.cursor.specs.Refusals.{no_such_row, refers_elsewhere, not_a_title}
use Rattle.room.specs.Room.{Result, good, bad}
use Rattle.cursor.specs.declared.Node.{Node}
use Rattle.cursor.specs.declared.Item.{Item}
use Rattle.rows.specs.Rows.{item_at}
use Rattle.title_text.specs.Title.{elsewhere, is_no_title}

-- whether the rows allow the title: the first refusal that they give
unfoldable pub allowed : (row : ℕ) → List Node → List Item → Result (Unit {0})
allowed row ns is =
    cond (leb (length is) row) (bad no_such_row 0)
    (cond (elsewhere ns) (bad refers_elsewhere 0)
    (cond (is_no_title (item_at is row)) (bad not_a_title 0)
    (good tt)))
