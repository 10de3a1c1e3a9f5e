-- `refers_elsewhere` looks at row after row. The invariant: no row so far has reference 2 or 3.
-- Assumes nothing.
use Rattle.title.proofs.Refusals.{Looking}
use Rattle.title.proofs.refers_elsewhere.Given as goal

abbrev pub invariant-loop-i : goal.invariant-loop-i
invariant-loop-i l = Looking l.nodes l.count l.i
