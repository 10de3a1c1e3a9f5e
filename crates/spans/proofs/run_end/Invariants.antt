-- `run_end` finds the end of a run. The invariant: the run goes on up to `at`.
-- Assumes nothing.
use Rattle.spans.proofs.Running.{GoingOn}
use Rattle.spans.proofs.run_end.Given as goal

abbrev pub invariant-loop-at : goal.invariant-loop-at
invariant-loop-at l = GoingOn l.kinds l.place l.at
