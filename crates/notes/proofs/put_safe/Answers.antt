-- `put_safe` puts the safe text. The invariant: what is left is what the pieces from `at` on give.
-- Assumes nothing.
use mathlib.Core.Path.{refl}
use native.Mathlib.Omega.{arith}
use Rattle.room.proofs.Counting.{going_start, going_on, going_end}
use Rattle.notes.proofs.Safe.{size_in, left-start, left_end, byte_put, byte_cut, char-put, char-cut}
use Rattle.notes.proofs.put_safe.Goals as goal

pub loop-at-init : goal.loop-at-init
loop-at-init c = (omega arith, omega arith, going_start _ (omega arith) (left-start _ _))

pub overflow_add-at : goal.overflow_add-at
overflow_add-at c = let w = size_in _ _ c.safe_size-size.ensures c.loop-at.invariant.0 in omega arith

pub returns-then-most-at : goal.returns-then-most-at
returns-then-most-at c = going_end refl (going_on (char-cut _ _ _ c.loop-at-test.true c.safe_size-size.ensures (omega arith) c.if-most-at.true) c.loop-at.invariant.2 c.put_cut.ensures)

pub returns-then-most-at-2 : goal.returns-then-most-at-2
returns-then-most-at-2 c = going_end refl (going_on (byte_cut _ _ _ c.loop-at-test.true c.safe_size-size.ensures c.if-size-eq0.true c.if-most-at-2.true) c.loop-at.invariant.2 c.put_cut-then-most-at-2.ensures)

pub loop-at-preserved-then-size-eq0 : goal.loop-at-preserved-then-size-eq0
loop-at-preserved-then-size-eq0 c = (omega arith, omega arith, going_on (byte_put _ _ _ c.loop-at-test.true c.safe_size-size.ensures c.if-size-eq0.true c.if-most-at-2.false) c.loop-at.invariant.2 c.put_escaped-next.ensures)

pub put_part-next-requires : goal.put_part-next-requires
put_part-next-requires c = size_in _ _ c.safe_size-size.ensures c.loop-at.invariant.0

pub overflow_add-at-else-size-eq0 : goal.overflow_add-at-else-size-eq0
overflow_add-at-else-size-eq0 c = let w = size_in _ _ c.safe_size-size.ensures c.loop-at.invariant.0 in omega arith

pub loop-at-smaller : goal.loop-at-smaller
loop-at-smaller c = let w = size_in _ _ c.safe_size-size.ensures c.loop-at.invariant.0 in omega (arith, c.if-size-eq0.false)

pub loop-at-preserved : goal.loop-at-preserved
loop-at-preserved c = (
  size_in _ _ c.safe_size-size.ensures c.loop-at.invariant.0,
  c.if-most-at.false,
  going_on (char-put _ _ _ c.loop-at-test.true c.safe_size-size.ensures (omega (arith, c.if-size-eq0.false)) c.if-most-at.false) c.loop-at.invariant.2 c.put_part-next.ensures,
)

pub returns : goal.returns
returns c = going_end (left_end _ _ _ c.loop-at-test.false) c.loop-at.invariant.2
