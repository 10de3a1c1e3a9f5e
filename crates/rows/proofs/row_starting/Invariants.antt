-- `row_starting` gives what `row_starting` gives. In the first loop rows before `low` start before the place and rows of the tree from `high` on after it; in the second no row so far starts there.
-- Assumes nothing.
use Prim.Native.Nat.{◌-◌, ◌≤◌}
use Rattle.rows.proofs.Search.{Between, NoneBefore}
use Rattle.rows.proofs.row_starting.Given as goal

abbrev pub invariant-loop-low : goal.invariant-loop-low
invariant-loop-low l = (l.high ≤ l.tree) × Between l.nodes l.tree l.place.0 l.low l.high

abbrev pub decreases-loop-low : goal.decreases-loop-low
decreases-loop-low l = l.high - l.low

abbrev pub invariant-loop-i : goal.invariant-loop-i
invariant-loop-i l = NoneBefore l.nodes l.place.0 l.i
