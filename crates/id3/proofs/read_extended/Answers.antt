-- `read_extended` gives what `extended` gives.
-- Assumes nothing.
use native.Mathlib.Omega.{arith}
use Rattle.cursor.specs.Told.{number_told}
use Rattle.machine.proofs.Laws.{was}
use Rattle.refusals.proofs.Passing.{passed_on}
use Rattle.id3.proofs.Ways.{extended-cut, extended-short, extended-past, extended-all}
use Rattle.id3.proofs.read_extended.Goals as goal

pub returns-then-size-lt6 : goal.returns-then-size-lt6
returns-then-size-lt6 c = extended-short _ _ _ (was number_told c.read_size.ensures c.in_ok-size.was) c.if-size-lt6.true

pub returns-then-end-place : goal.returns-then-end-place
returns-then-end-place c = extended-past _ _ _ (was number_told c.read_size.ensures c.in_ok-size.was) c.if-size-lt6.false (omega arith)

pub returns-in_err-size : goal.returns-in_err-size
returns-in_err-size c = rw (passed_on c.from_residual.ensures.1) (extended-cut _ _ _ (was number_told c.read_size.ensures c.in_err-size.was))

pub returns : goal.returns
returns c = extended-all _ _ _ (was number_told c.read_size.ensures c.in_ok-size.was) c.if-size-lt6.false (omega arith) c.on.ensures
