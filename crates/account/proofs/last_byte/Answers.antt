-- `last_byte` looks for the first byte below 80h.
-- Assumes nothing.
use native.Mathlib.Omega.{arith}
use Rattle.account.proofs.Numbers.{last-first, last-second, last-third, last-fourth}
use Rattle.account.proofs.last_byte.Goals as goal

pub returns-then-file-at-lt128 : goal.returns-then-file-at-lt128
returns-then-file-at-lt128 c = (last-first _ _ c.if-file-at-lt128.true, omega arith)

pub returns-then-file-at-lt128-2 : goal.returns-then-file-at-lt128-2
returns-then-file-at-lt128-2 c = (last-second _ _ c.if-file-at-lt128.false c.if-file-at-lt128-2.true, omega arith)

pub returns-then-file-at-lt128-3 : goal.returns-then-file-at-lt128-3
returns-then-file-at-lt128-3 c = (last-third _ _ c.if-file-at-lt128.false c.if-file-at-lt128-2.false c.if-file-at-lt128-3.true, omega arith)

pub returns : goal.returns
returns c = (last-fourth _ _ c.if-file-at-lt128.false c.if-file-at-lt128-2.false c.if-file-at-lt128-3.false, omega arith)
