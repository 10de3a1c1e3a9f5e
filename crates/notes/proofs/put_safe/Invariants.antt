-- `put_safe` puts the safe text. The invariant: what is left is what the pieces from `at` on give.
-- Assumes nothing.
use Prim.Native.Nat.{◌-◌, ◌≤◌}
use lib.ListN.{length}
use Rattle.room.proofs.Counting.{Going}
use Rattle.notes.specs.Safe.{safe_text}
use Rattle.notes.proofs.Safe.{left}
use Rattle.notes.proofs.put_safe.Given as goal

abbrev pub invariant-loop-at : goal.invariant-loop-at
invariant-loop-at l = (l.at ≤ length l.text) × (l.at ≤ l.most) × Going l.initial.out l.out l.to l.next (safe_text l.most l.text) (left l.most l.text l.at)

abbrev pub decreases-loop-at : goal.decreases-loop-at
decreases-loop-at l = length l.text - l.at
