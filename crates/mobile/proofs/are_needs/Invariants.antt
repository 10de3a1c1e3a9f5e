-- `are_needs` says what `are_needs` says. The invariant: what is left of the rows of field 13 decides.
-- Assumes nothing.
use Prim.Native.Nat.{◌-◌, ◌≤◌}
use Rattle.mobile.proofs.Checks.{NeedsLeft}
use Rattle.mobile.proofs.are_needs.Given as goal

abbrev pub invariant-loop-i : goal.invariant-loop-i
invariant-loop-i l = (l.i ≤ l.many) × NeedsLeft l.file l.tune l.items l.many l.i

abbrev pub decreases-loop-i : goal.decreases-loop-i
decreases-loop-i l = l.many - l.i
