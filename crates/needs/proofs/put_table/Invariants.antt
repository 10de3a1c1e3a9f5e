-- `put_table` puts the lines of a count table. The invariant: the counts up to this one were read, and their lines were put. Each turn reads a byte of the item or more: there are no more
-- turns than it has bytes, whatever the count.
-- Assumes nothing.
use Prim.Native.Nat.{◌*◌}
use Rattle.description.proofs.Ways.{Further}
use Rattle.needs.proofs.Needing.{Listing}
use Rattle.needs.proofs.put_table.Given as goal

abbrev pub invariant-loop-i : goal.invariant-loop-i
invariant-loop-i l = Listing l.file l.end.0 (l.channels * l.resources)
    l.initial.at.at.0 l.row l.resources l.initial.out l.out l.initial.next l.next l.i l.at.at.0 × Further l.end.0 l.initial.at.at.0 l.i l.at.at.0
