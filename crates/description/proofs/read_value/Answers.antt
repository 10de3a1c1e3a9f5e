-- `read_value` gives what `value` gives.
-- Assumes nothing.
use Rattle.cursor.specs.Rows.{meta_frame}
use Rattle.cursor.specs.Told.{number_told}
use Rattle.refusals.proofs.Passing.{passed_on}
use Rattle.machine.proofs.Laws.{was}
use Rattle.description.proofs.Ways.{value-cut, value-all}
use Rattle.description.proofs.read_value.Goals as goal

pub returns-in_err-d : goal.returns-in_err-d
returns-in_err-d c = rw (passed_on c.from_residual.ensures.1) (value-cut _ _ _ (was number_told (c.number.ensures meta_frame) c.in_err-d.was))

pub returns : goal.returns
returns c = value-all _ _ _ (was number_told (c.number.ensures meta_frame) c.in_ok-d.was)
