-- `put_item_rows` puts the lines of the item rows. The invariant: of the whole, the lines from row i on are still to be put.
-- Assumes nothing.
use Prim.Native.Nat.{◌-◌}
use Rattle.room.proofs.Counting.{Going}
use Rattle.rows.specs.Rows.{items_from, items_in}
use Rattle.tables.specs.Rows.{item_rows}
use Rattle.tables.proofs.all_rows.put_item_rows.Given as goal

abbrev pub invariant-loop-i : goal.invariant-loop-i
invariant-loop-i l = Going l.initial.out l.out l.initial.next l.next (item_rows 0 (items_in l.count l.items)) (item_rows l.i (items_from l.i (l.count - l.i) l.items))
