-- `frame` gives what `frame_at` gives.
-- Assumes nothing.
use mathlib.Core.Path.{sym}
use Rattle.machine.proofs.Laws.{was}
use Rattle.id3.specs.Told.{walk_told}
use Rattle.refusals.proofs.Passing.{passed_on}
use Rattle.id3.proofs.Ways.{at_no, at_none, at_all}
use Rattle.id3.proofs.frame.Goals as goal

pub returns-then-count-number : goal.returns-then-count-number
returns-then-count-number c = at_none _ _ (sym (was walk_told c.walk.ensures c.in_ok-count.was)) c.if-count-number.true

pub returns-in_err-count : goal.returns-in_err-count
returns-in_err-count c = rw (passed_on c.from_residual.ensures.1) (at_no _ _ (sym (was walk_told c.walk.ensures c.in_err-count.was)))

pub returns : goal.returns
returns c = at_all _ _ (sym (was walk_told c.walk.ensures c.in_ok-count.was)) c.if-count-number.false
