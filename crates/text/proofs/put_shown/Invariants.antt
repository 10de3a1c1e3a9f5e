-- `put_shown` puts a converted text as it is shown. The invariant: what is left is what the bytes from `at` on give.
-- Assumes nothing.
use Prim.Native.Nat.{◌-◌}
use lib.ListN.{length}
use Rattle.utf16.specs.Unicode.{first16, to_utf8}
use Rattle.utf16.proofs.Converting.{Converting}
use Rattle.text.proofs.Shown.{shown8, as_shown}
use Rattle.text.proofs.put_shown.Given as goal

abbrev pub invariant-loop-at : goal.invariant-loop-at
invariant-loop-at l = Converting first16 shown8 l.units l.initial.out l.out l.initial.next l.at l.next (as_shown (to_utf8 l.units))

abbrev pub decreases-loop-at : goal.decreases-loop-at
decreases-loop-at l = length l.units - l.at
