-- `put_kind` puts the lines of one kind. The invariant: of all of them, those from here on are still to be put, and the lines are known.
-- Assumes nothing.
use Prim.Native.Nat.{◌-◌}
use lib.ListN.{length, drop}
use Rattle.room.proofs.Counting.{Going}
use Rattle.editions.specs.Sheets.{parted, written, picked, is_kind}
use Rattle.editions.specs.Reads.{AllKnown}
use Rattle.mover.proofs.put_kind.Given as goal

abbrev pub invariant-loop-at : goal.invariant-loop-at
invariant-loop-at l = Going l.initial.out l.out l.to l.next (written (picked (is_kind l.items) (parted 0x0A (drop l.from l.sheet))))
    (written (picked (is_kind l.items) (parted 0x0A (drop l.at l.sheet)))) × AllKnown (parted 0x0A (drop l.at l.sheet))

abbrev pub decreases-loop-at : goal.decreases-loop-at
decreases-loop-at l = length l.sheet - l.at
