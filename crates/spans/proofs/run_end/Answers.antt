-- `run_end` finds the end of a run. The invariant: the run goes on up to `at`.
-- Assumes nothing.
use native.Mathlib.Omega.{arith}
use Rattle.spans.proofs.Running.{run-begun, run_on, run-stopped, run-last}
use Rattle.spans.proofs.run_end.Goals as goal

pub loop-at-init : goal.loop-at-init
loop-at-init c = run-begun _ _ c.requires

pub bounds-kinds-place : goal.bounds-kinds-place
bounds-kinds-place c = omega (arith, c.requires)

pub returns-then-kinds-at : goal.returns-then-kinds-at
returns-then-kinds-at c = run-stopped _ c.loop-at.invariant c.loop-at-test.true c.if-kinds-at.true

pub loop-at-preserved : goal.loop-at-preserved
loop-at-preserved c = run_on _ c.loop-at.invariant c.loop-at-test.true c.if-kinds-at.false

pub returns : goal.returns
returns c = run-last _ c.loop-at.invariant c.loop-at-test.false
