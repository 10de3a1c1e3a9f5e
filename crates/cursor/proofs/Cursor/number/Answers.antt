-- `Cursor::number` gives what `number` gives. The invariant: what is left of the definition is the whole, and the value is below 128 to the bytes read.
-- Assumes nothing.
use mathlib.Core.Path.{sym}
use native.Mathlib.Omega.{arith}
use Rattle.cursor.proofs.Digits.{begun, out, missing, last, more, grown, below}
use Rattle.cursor.proofs.Leaves.{number_short}
use Rattle.cursor.proofs.Cursor.number.Goals as goal

pub returns-then-one-lt128 : goal.returns-then-one-lt128
returns-then-one-lt128 c κ = sym (number_short κ _ _ _ _ (omega arith) c.byte-one.ensures.is c.if-one-lt128.true c.byte-one.ensures.on)

pub loop-left-init : goal.loop-left-init
loop-left-init c = (begun _ _ _ _, omega arith, omega arith)

pub overflow_mul-value : goal.overflow_mul-value
overflow_mul-value c = omega (arith, below _ _ c.loop-left.invariant.2)

pub overflow_add-value : goal.overflow_add-value
overflow_add-value c = omega (arith, below _ _ c.loop-left.invariant.2)

pub loop-left-preserved : goal.loop-left-preserved
loop-left-preserved c = (
  more c.loop-left.invariant.0 c.if-left-eq0.false c.if-stop-at.false c.wide-byte.ensures.0 c.if-byte-lt128.false,
  omega arith,
  grown _ _ _
      c.if-left-eq0.false c.loop-left.invariant.1 c.loop-left.invariant.2,
)

pub returns-then-left-eq0 : goal.returns-then-left-eq0
returns-then-left-eq0 c = out c.loop-left.invariant.0 c.if-left-eq0.true

pub returns-then-stop-at : goal.returns-then-stop-at
returns-then-stop-at c = missing c.loop-left.invariant.0 c.if-left-eq0.false c.if-stop-at.true

pub returns-then-byte-lt128 : goal.returns-then-byte-lt128
returns-then-byte-lt128 c = last c.loop-left.invariant.0 c.if-left-eq0.false c.if-stop-at.false c.wide-byte.ensures.0 c.if-byte-lt128.true
