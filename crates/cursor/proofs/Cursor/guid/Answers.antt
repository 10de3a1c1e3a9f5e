use Rattle.cursor.proofs.Digits.{guid-begun, out, missing, last, more}
use native.Mathlib.Omega.{arith}
use Rattle.cursor.proofs.Cursor.guid.Goals as goal

pub loop-left-init : goal.loop-left-init
loop-left-init c = (guid-begun _ _ _, omega arith)

pub loop-left-preserved : goal.loop-left-preserved
loop-left-preserved c = ((_, more c.loop-left.invariant.0.1 c.if-left-eq0.false c.if-stop-at.false c.wide-byte.ensures.0 c.if-byte-lt128.false), omega arith)

pub returns-then-left-eq0 : goal.returns-then-left-eq0
returns-then-left-eq0 c = out c.loop-left.invariant.0.1 c.if-left-eq0.true

pub returns-then-stop-at : goal.returns-then-stop-at
returns-then-stop-at c = missing c.loop-left.invariant.0.1 c.if-left-eq0.false c.if-stop-at.true

pub returns-then-byte-lt128 : goal.returns-then-byte-lt128
returns-then-byte-lt128 c = last c.loop-left.invariant.0.1 c.if-left-eq0.false c.if-stop-at.false c.wide-byte.ensures.0 c.if-byte-lt128.true
