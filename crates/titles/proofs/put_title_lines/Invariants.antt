-- `put_title_lines` puts the lines of all contents that can be corrected. The invariant: of the whole, the lines from row i on are still to be put.
-- Assumes nothing.
use Prim.Native.Nat.{◌-◌}
use Rattle.room.proofs.Counting.{Going}
use Rattle.rows.specs.Rows.{items_from, items_in}
use Rattle.titles.specs.Titles.{title_lines}
use Rattle.titles.proofs.put_title_lines.Given as goal

abbrev pub invariant-loop-i : goal.invariant-loop-i
invariant-loop-i l = Going l.initial.out l.out l.initial.next l.next (title_lines l.file 0 (items_in l.count l.items))
    (title_lines l.file l.i (items_from l.i (l.count - l.i) l.items))
