-- `next_row` finds the next row of a field. The invariant: the rows of the field that are left are all.
-- Assumes nothing.
use mathlib.Core.Path.{◌≡◌}
use Prim.Native.Nat.{◌≤◌}
use Rattle.rows.specs.Rows.{items_in}
use Rattle.file.specs.Own.{those, part}
use Rattle.description.specs.Row.{is_field}
use Rattle.mobile.proofs.next_row.Given as goal

abbrev pub invariant-loop-i : goal.invariant-loop-i
invariant-loop-i l = (l.from ≤ l.i) × (l.i ≤ l.end) ×
    (those (is_field l.field) (part (items_in l.many l.items) l.from l.end) ≡ those (is_field l.field) (part (items_in l.many l.items) l.i l.end))
