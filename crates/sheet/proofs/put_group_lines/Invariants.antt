-- `put_group_lines` puts each node line with the lines of its item rows. The invariant: of the whole, the lines of the node rows from i on and of the item rows from `first` on
-- are still to be put.
-- Assumes nothing.
use Prim.Native.Nat.{◌-◌, ◌≤◌}
use Rattle.rows.specs.Rows.{nodes_from, nodes_in, items_from, items_in}
use Rattle.sheet.specs.Sheet.{group_lines}
use Rattle.sheet.proofs.Filling.{Filling}
use Rattle.sheet.proofs.put_group_lines.Given as goal

abbrev pub invariant-loop-i : goal.invariant-loop-i
invariant-loop-i l = (l.first ≤ l.contents) × Filling l.initial.out l.out l.initial.next l.next (group_lines l.file 0 (nodes_in l.rows l.nodes) (items_in l.contents l.items))
    (group_lines l.file l.i (nodes_from l.i (l.rows - l.i) l.nodes) (items_from l.first (l.contents - l.first) l.items))
