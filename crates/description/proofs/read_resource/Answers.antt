-- `read_resource` gives what `resource` gives.
-- Assumes nothing.
use Rattle.cursor.specs.Rows.{meta_frame}
use Rattle.cursor.specs.Told.{number_told}
use Rattle.refusals.proofs.Passing.{passed_on}
use Rattle.machine.proofs.Laws.{was}
use Rattle.description.proofs.Ways.{resource-cut, resource-bad, resource-all}
use Rattle.description.proofs.read_resource.Goals as goal

pub returns-then-kind-gt5 : goal.returns-then-kind-gt5
returns-then-kind-gt5 c = resource-bad _ _ _ (was number_told (c.number.ensures meta_frame) c.in_ok-kind.was) c.if-kind-gt5.true

pub returns-in_err-kind : goal.returns-in_err-kind
returns-in_err-kind c = rw (passed_on c.from_residual.ensures.1) (resource-cut _ _ _ (was number_told (c.number.ensures meta_frame) c.in_err-kind.was))

pub returns : goal.returns
returns c = resource-all _ _ _ (was number_told (c.number.ensures meta_frame) c.in_ok-kind.was) c.if-kind-gt5.false c.read_identifier.ensures
