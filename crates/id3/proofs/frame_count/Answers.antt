-- `frame_count` gives what `frame_count` gives.
-- Assumes nothing.
use mathlib.Core.Path.{sym}
use Rattle.machine.proofs.Laws.{was}
use Rattle.id3.specs.Told.{walk_told}
use Rattle.refusals.proofs.Passing.{passed_on}
use Rattle.id3.proofs.Ways.{count_no, count-all}
use Rattle.id3.proofs.frame_count.Goals as goal

pub returns-in_err-count : goal.returns-in_err-count
returns-in_err-count c = rw (passed_on c.from_residual.ensures.1) (count_no _ (sym (was walk_told c.walk.ensures c.in_err-count.was)))

pub returns : goal.returns
returns c = count-all _ (sym (was walk_told c.walk.ensures c.in_ok-count.was))
