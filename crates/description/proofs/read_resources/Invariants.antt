-- `read_resources` reads the resources one by one. The invariant: what is left of them is the whole. Each turn reads a byte of the item or more: there are no more turns than it has
-- bytes, whatever the count.
-- Assumes nothing.
use Prim.Native.Nat.{◌-◌}
use Rattle.description.proofs.Ways.{Going, Further}
use Rattle.description.proofs.read_resources.Given as goal

abbrev pub invariant-loop-i : goal.invariant-loop-i
invariant-loop-i l = Going l.file l.end.0 l.count l.initial.next.at.0 (l.count - l.i) l.next.at.0 × Further l.end.0 l.initial.next.at.0 l.i l.next.at.0
