-- A writer that need not count past its room, and how long a line is at least.
-- Assumes nothing.
use Rattle.std.specs.Prelude.{◌≡◌, cond, ◌&&◌, List, [], ◌∷◌, ℕ, ◌+◌, ◌/◌, ◌≤◌, ◌<◌, ltb, eqb, length}
use Rattle.cursor.specs.declared.Item.{Item}
use Rattle.file.specs.Hidden.{is_hidden}
use Rattle.room.specs.Counts.{Counts, too_many}

-- `out` became `out'` when bytes were put at `to`: r is the place after them where they fit, and else some place past the end
pub record Fills (out out' : List ℕ) (to : ℕ) (bytes : List ℕ) (r : ℕ) : Type 0 where
  pub fits : r ≤ length out → Counts out out' to bytes r
  pub past : length out < r → length out < to + length bytes
  pub most : r ≤ too_many
  pub long : length out' ≡ length out

-- no line of a visible row is shorter, whatever its data is
unfoldable pub least_text : Item → ℕ
least_text r = cond (eqb r.format 2) (r.size / 2) r.size

-- no line of the row is shorter, whatever its name and data are
unfoldable pub least_line : Item → ℕ
least_line r = cond (is_hidden r) 0 (cond (eqb r.kind 1 && ltb r.size r.name_length) r.name_length (least_text r))

-- nor are the lines of rows
unfoldable pub least_lines : List Item → ℕ
least_lines [] = 0
least_lines (r ∷ rs) = least_line r + least_lines rs
