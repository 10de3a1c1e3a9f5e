-- `read_identifier` gives what `identifier` gives.
-- Assumes nothing.
use Rattle.cursor.specs.Rows.{meta_frame}
use Rattle.cursor.specs.Told.{pass_told}
use Rattle.refusals.proofs.Passing.{passed_on}
use Rattle.machine.proofs.Laws.{was}
use Rattle.description.proofs.Ways.{identifier-three, identifier-five, identifier-cut, identifier-two, identifier-one}
use Rattle.description.proofs.read_identifier.Goals as goal

pub returns-then-kind-eq3 : goal.returns-then-kind-eq3
returns-then-kind-eq3 c = identifier-three _ _ _ _ c.if-kind-eq3.true c.read_guid.ensures

pub returns-then-kind-eq5 : goal.returns-then-kind-eq5
returns-then-kind-eq5 c = identifier-five _ _ _ _ c.if-kind-eq3.false c.if-kind-eq5.true c.read_guid-then-kind-eq5.ensures

pub returns-in_err-d : goal.returns-in_err-d
returns-in_err-d c = rw (passed_on c.from_residual.ensures.1)
    (identifier-cut _ _ _ _ c.if-kind-eq3.false c.if-kind-eq5.false c.if-kind-eq1.true (was pass_told (c.manufacturer.ensures meta_frame) c.in_err-d.was))

pub returns-then-kind-eq1 : goal.returns-then-kind-eq1
returns-then-kind-eq1 c = identifier-two _ _ _ _ c.if-kind-eq3.false c.if-kind-eq5.false c.if-kind-eq1.true
    (was pass_told (c.manufacturer.ensures meta_frame) c.in_ok-d.was) c.read_value.ensures

pub returns : goal.returns
returns c = identifier-one _ _ _ _ c.if-kind-eq3.false c.if-kind-eq5.false c.if-kind-eq1.false c.read_value-2.ensures
