-- `first_taken` goes over the rows from the last on. The invariant: what the rows from row i on take.
-- Assumes nothing.
use Prim.Native.Nat.{◌-◌, ◌≤◌}
use Rattle.targets.proofs.Targets.{TakenTo}
use Rattle.targets.proofs.first_taken.Given as goal

abbrev pub invariant-loop-i : goal.invariant-loop-i
invariant-loop-i l = (l.tree ≤ l.i) × (l.i ≤ l.count) × TakenTo l.nodes l.count l.place.0 l.initial.taken l.i l.taken

abbrev pub decreases-loop-i : goal.decreases-loop-i
decreases-loop-i l = l.i - l.tree
