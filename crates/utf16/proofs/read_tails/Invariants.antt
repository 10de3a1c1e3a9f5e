-- What is left of the definition is the whole, and the value is small.
-- Assumes nothing.
use Prim.Native.Nat.{◌+◌, ◌-◌}
use Rattle.utf16.proofs.Tails.{Tailing}
use Rattle.utf16.proofs.read_tails.Given as goal

abbrev pub invariant-loop-at : goal.invariant-loop-at
invariant-loop-at l = Tailing l.text l.from l.count l.lead l.size l.low l.at (l.from + l.count - l.at) l.v
