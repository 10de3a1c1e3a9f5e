-- `put_runs` puts the lines of all runs. The invariant: of the whole, the lines of the runs from `place` on are still to be put.
-- Assumes nothing.
use mathlib.Core.Path.{refl}
use native.Mathlib.Omega.{arith}
use Rattle.room.proofs.Counting.{going_start, going_on, going_end}
use Rattle.spans.proofs.Running.{lines_next, lines_none}
use Rattle.spans.proofs.put_runs.Goals as goal

pub loop-place-init : goal.loop-place-init
loop-place-init c = (omega arith, going_start _ (omega arith) refl)

pub run_end-end-requires : goal.run_end-end-requires
run_end-end-requires c = c.loop-place-test.true

pub overflow_sub-end : goal.overflow_sub-end
overflow_sub-end c = omega (arith, c.run_end-end.ensures.behind)

pub bounds-kinds-place : goal.bounds-kinds-place
bounds-kinds-place c = omega (arith, c.loop-place-test.true)

pub loop-place-smaller : goal.loop-place-smaller
loop-place-smaller c = omega (arith, c.run_end-end.ensures.behind, c.run_end-end.ensures.within)

pub loop-place-preserved : goal.loop-place-preserved
loop-place-preserved c = (c.run_end-end.ensures.within, going_on (lines_next _ c.run_end-end.ensures) c.loop-place.invariant.1 c.put_run-next.ensures)

pub returns : goal.returns
returns c = going_end (lines_none _ _ c.loop-place-test.false) c.loop-place.invariant.1
