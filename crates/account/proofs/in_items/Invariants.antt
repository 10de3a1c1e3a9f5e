-- `in_items` adds row after row. The invariant: what is left to do is what the rows from row i on give.
-- Assumes nothing.
use Prim.Native.Nat.{◌≤◌}
use Rattle.rows.specs.Rows.{item_width, item_from}
use Rattle.account.specs.ByRows.{with_item}
use Rattle.account.proofs.Folding.{Folding}
use Rattle.account.proofs.in_items.Given as goal

abbrev pub invariant-loop-i : goal.invariant-loop-i
invariant-loop-i l = (l.i ≤ l.count) × Folding with_item item_width item_from l.items l.count l.initial.sum l.i l.sum
