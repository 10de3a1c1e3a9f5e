-- `put_item_lines` puts the lines of the visible rows. The invariant: of the whole, the lines from row i on are still to be put.
-- Assumes nothing.
use Prim.Native.Nat.{◌-◌, ◌≤◌}
use Rattle.rows.specs.Rows.{items_from}
use Rattle.sheet.specs.Sheet.{item_lines}
use Rattle.sheet.proofs.Filling.{Filling}
use Rattle.sheet.proofs.put_item_lines.Given as goal

abbrev pub invariant-loop-i : goal.invariant-loop-i
invariant-loop-i l = (l.i ≤ l.end) × Filling l.initial.out l.out l.initial.next l.next
    (item_lines l.file (items_from l.from (l.end - l.from) l.items)) (item_lines l.file (items_from l.i (l.end - l.i) l.items))
