-- `rows_end` counts back to the row behind node k's own: the item rows of the nodes before row i end there.
-- Assumes nothing.
use Prim.Native.Nat.{◌<◌}
use Rattle.find.proofs.Climbing.{EndsAt}
use Rattle.find.proofs.rows_end.Given as goal

abbrev pub invariant-loop-i : goal.invariant-loop-i
invariant-loop-i l = (l.k < l.i) × EndsAt l.nodes l.n l.i l.end
