-- `read_numbers` reads the numbers one by one and keeps one of them. The invariant: what is picked of all of them is picked of those that are left, or was kept. Each turn reads a byte
-- of the item or more: there are no more turns than it has bytes, whatever the count.
-- Assumes nothing.
use Rattle.description.proofs.Ways.{Picking, Further}
use Rattle.description.proofs.read_numbers.Given as goal

abbrev pub invariant-loop-i : goal.invariant-loop-i
invariant-loop-i l = Picking l.file l.end.0 l.count l.index l.initial.next.at.0 l.i l.kept l.next.at.0 × Further l.end.0 l.initial.next.at.0 l.i l.next.at.0
