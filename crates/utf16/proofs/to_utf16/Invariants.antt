-- `to_utf16` answers and leaves in its buffer what `to_utf16` says.
-- Assumes nothing.
use Prim.Native.Nat.{◌-◌}
use lib.ListN.{length}
use Rattle.utf16.specs.Unicode.{bytes16, first8, to_utf16}
use Rattle.utf16.proofs.Converting.{Converting}
use Rattle.utf16.proofs.to_utf16.Given as goal

abbrev pub invariant-loop-at : goal.invariant-loop-at
invariant-loop-at l = Converting first8 bytes16 l.text l.initial.units l.units 0 l.at l.next (to_utf16 l.text)

abbrev pub decreases-loop-at : goal.decreases-loop-at
decreases-loop-at l = length l.text - l.at
