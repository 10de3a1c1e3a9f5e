-- `fill` marks a span. The invariant: the places from `from` up to `at` are marked, the others as they were.
-- Assumes nothing.
use native.Mathlib.Omega.{arith}
use Rattle.account.proofs.Marking.{filling_none, filling_more, filling_all}
use Rattle.account.proofs.marks.fill.Goals as goal

pub loop-at-init : goal.loop-at-init
loop-at-init c = (omega arith, filling_none _ _ _)

pub loop-at-preserved : goal.loop-at-preserved
loop-at-preserved c = (omega arith, filling_more _ _ _ _ _ (omega (arith, c.loop-at.invariant.1.same)) c.loop-at.invariant.1)

pub returns : goal.returns
returns c = filling_all _ _ _ _ _ _ (omega (arith, c.loop-at.invariant.0))
    (omega (arith, c.loop-at-test.false)) c.loop-at.invariant.1
