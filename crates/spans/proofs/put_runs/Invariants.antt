-- `put_runs` puts the lines of all runs. The invariant: of the whole, the lines of the runs from `place` on are still to be put.
-- Assumes nothing.
use Prim.Native.Nat.{◌-◌, ◌≤◌}
use lib.ListN.{length}
use Rattle.room.proofs.Counting.{Going}
use Rattle.spans.specs.Runs.{runs_of, run_lines, runs_at}
use Rattle.spans.proofs.put_runs.Given as goal

abbrev pub invariant-loop-place : goal.invariant-loop-place
invariant-loop-place l = (l.place ≤ length l.kinds) × Going l.initial.out l.out l.initial.next l.next (run_lines (runs_of l.kinds)) (run_lines (runs_at l.kinds l.place))

abbrev pub decreases-loop-place : goal.decreases-loop-place
decreases-loop-place l = length l.kinds - l.place
