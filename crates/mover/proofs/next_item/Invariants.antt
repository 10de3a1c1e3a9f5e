-- `next_item` finds the next item line. The invariant: the item lines from here on are all of them, and the lines are known.
-- Assumes nothing.
use mathlib.Core.Path.{◌≡◌}
use Prim.Native.Nat.{◌-◌, ◌≤◌}
use lib.ListN.{length, drop}
use Rattle.editions.specs.Sheets.{parted, items_of}
use Rattle.editions.specs.Reads.{AllKnown}
use Rattle.mover.proofs.next_item.Given as goal

abbrev pub invariant-loop-at : goal.invariant-loop-at
invariant-loop-at l = (items_of (parted 0x0A (drop l.from l.sheet)) ≡ items_of (parted 0x0A (drop l.at l.sheet))) × (l.from ≤ l.at) × AllKnown (parted 0x0A (drop l.at l.sheet))

abbrev pub decreases-loop-at : goal.decreases-loop-at
decreases-loop-at l = length l.sheet - l.at
