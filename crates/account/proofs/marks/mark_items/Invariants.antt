-- `mark_items` marks row after row. The invariant: what is left to do is what the rows from row i on give.
-- Assumes nothing.
use Prim.Native.Nat.{◌≤◌}
use Rattle.rows.specs.Rows.{item_width, item_from}
use Rattle.account.specs.ByPlace.{over_item}
use Rattle.account.proofs.Marking.{Painting}
use Rattle.account.proofs.marks.mark_items.Given as goal

abbrev pub invariant-loop-i : goal.invariant-loop-i
invariant-loop-i l = (l.i ≤ l.count) × Painting over_item item_width item_from l.items l.count l.initial.marks l.i l.marks
