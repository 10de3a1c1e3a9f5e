-- `read_entries` counts unpackers end to end. The invariant: what is left of them is the whole.
-- Assumes nothing.
use mathlib.Core.Path.{refl}
use Rattle.refusals.proofs.Passing.{passed_on}
use Rattle.node.proofs.Ways.{entries-begun, entries-done, entries-no, entries-further, entries-on}
use native.Mathlib.Omega.{arith}
use Rattle.node.proofs.read_entries.Goals as goal

pub loop-at-init : goal.loop-at-init
loop-at-init c = (refl, entries-begun _ _ _)

pub returns-in_err-next : goal.returns-in_err-next
returns-in_err-next c = rw (passed_on c.from_residual.ensures.1) (entries-no c.loop-at.invariant.1 c.loop-at-test.true _ (λ n. rw c.loop-at.invariant.0 at (c.read_unpacker.ensures n)) c.in_err-next.was)

pub overflow_add-count : goal.overflow_add-count
overflow_add-count c = omega (arith, c.loop-at.invariant.1.few, c.requires)

pub loop-at-smaller : goal.loop-at-smaller
loop-at-smaller c = omega (
  arith,
  entries-further c.loop-at.invariant.1 c.loop-at-test.true _
      (λ n. rw c.loop-at.invariant.0 at (c.read_unpacker.ensures n)) c.in_ok-next.was,
)

pub loop-at-preserved : goal.loop-at-preserved
loop-at-preserved c = (
  refl,
  entries-on c.loop-at.invariant.1 c.loop-at-test.true _
      (λ n. rw c.loop-at.invariant.0 at (c.read_unpacker.ensures n)) c.in_ok-next.was,
)

pub returns : goal.returns
returns c = rw c.loop-at.invariant.0 (entries-done c.loop-at.invariant.1 c.loop-at-test.false)
