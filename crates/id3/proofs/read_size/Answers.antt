-- `read_size` gives what `size` gives.
-- Assumes nothing.
use native.Mathlib.Omega.{arith}
use Rattle.id3.proofs.Ways.{size-cut, size-first, size-second, size-third, size-fourth, size-all}
use Rattle.id3.proofs.read_size.Goals as goal

pub returns-then-end-at-lt4 : goal.returns-then-end-at-lt4
returns-then-end-at-lt4 c = size-cut _ _ _ (omega arith)

pub returns-then-first-ge128 : goal.returns-then-first-ge128
returns-then-first-ge128 c = size-first _ _ _ (omega arith) c.wide-first.ensures.0 c.if-first-ge128.true

pub returns-then-second-ge128 : goal.returns-then-second-ge128
returns-then-second-ge128 c = size-second _ _ _ (omega arith) c.wide-first.ensures.0 c.if-first-ge128.false c.wide-second.ensures.0 c.if-second-ge128.true

pub returns-then-third-ge128 : goal.returns-then-third-ge128
returns-then-third-ge128 c = size-third _ _ _ (omega arith) c.wide-first.ensures.0 c.if-first-ge128.false c.wide-second.ensures.0 c.if-second-ge128.false c.wide-third.ensures.0 c.if-third-ge128.true

pub returns-then-fourth-ge128 : goal.returns-then-fourth-ge128
returns-then-fourth-ge128 c = size-fourth _ _ _ (omega arith) c.wide-first.ensures.0 c.if-first-ge128.false c.wide-second.ensures.0 c.if-second-ge128.false
    c.wide-third.ensures.0 c.if-third-ge128.false c.wide-fourth.ensures.0 c.if-fourth-ge128.true

pub returns : goal.returns
returns c = size-all _ _ _ (omega arith) c.wide-first.ensures.0 c.if-first-ge128.false c.wide-second.ensures.0 c.if-second-ge128.false
    c.wide-third.ensures.0 c.if-third-ge128.false c.wide-fourth.ensures.0 c.if-fourth-ge128.false c.on.ensures
