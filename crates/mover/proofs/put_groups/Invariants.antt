-- `put_groups` puts each node line with its items. The invariant: of the whole walk, the node lines from here on with the item lines from the next one on are still to be put,
-- and the lines are known.
-- Assumes nothing.
use Prim.Native.Nat.{◌-◌, ◌≤◌}
use lib.ListN.{length, drop}
use Rattle.room.proofs.Counting.{Going}
use Rattle.editions.specs.Sheets.{parted, written, nodes_of, items_of}
use Rattle.editions.specs.Reads.{AllKnown, walk}
use Rattle.mover.specs.Told.{item_lines, Right}
use Rattle.mover.proofs.put_groups.Given as goal

abbrev pub invariant-loop-at : goal.invariant-loop-at
invariant-loop-at l = let body = parted 0x0A (drop l.from l.sheet) in let rest = parted 0x0A (drop l.at l.sheet) in
    Going l.initial.out l.out l.to l.next (written (walk 0 (nodes_of body) (items_of body))) (written (walk l.row (nodes_of rest) (item_lines l.sheet l.item))) × Right
    l.sheet 0 l.item × (l.row ≤ l.at) × AllKnown rest

abbrev pub decreases-loop-at : goal.decreases-loop-at
decreases-loop-at l = length l.sheet - l.at
