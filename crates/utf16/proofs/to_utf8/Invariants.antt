-- `to_utf8` answers and leaves in its buffer what `to_utf8` says.
-- Assumes nothing.
use Prim.Native.Nat.{◌-◌}
use lib.ListN.{length}
use Rattle.utf16.specs.Unicode.{utf8, first16, to_utf8}
use Rattle.utf16.proofs.Converting.{Converting}
use Rattle.utf16.proofs.to_utf8.Given as goal

abbrev pub invariant-loop-at : goal.invariant-loop-at
invariant-loop-at l = Converting first16 utf8 l.units l.initial.text l.text 0 l.at l.next (to_utf8 l.units)

abbrev pub decreases-loop-at : goal.decreases-loop-at
decreases-loop-at l = length l.units - l.at
