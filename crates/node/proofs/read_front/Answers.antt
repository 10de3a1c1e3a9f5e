-- `read_front` gives what `front` gives, and leaves the rows of the items in the table.
-- Assumes nothing.
use mathlib.Core.Path.{ap}
use Rattle.machine.proofs.Laws.{was}
use Rattle.refusals.proofs.Passing.{passed_on}
use mathlib.Core.List.{[]}
use Rattle.metadata.specs.Told.{walked}
use Rattle.metadata.proofs.Gives.{done, stopped, fitting}
use Rattle.node.specs.Told.{head_told, rest_told}
use Rattle.node.proofs.Ends.{head-inside, metadata-since}
use Rattle.node.proofs.Ways.{front-no, front-yes, front-head, front-metadata, front_rest, front-all}
use native.Mathlib.Omega.{arith}
use Rattle.node.proofs.read_front.Goals as goal

pub of-inner-requires : goal.of-inner-requires
of-inner-requires c = omega (arith, c.requires, head-inside _ _ _ (was head_told c.read_head.ensures c.in_ok-h.was))

pub read_metadata-requires : goal.read_metadata-requires
read_metadata-requires c = omega (arith, c.requires, head-inside _ _ _ (was head_told c.read_head.ensures c.in_ok-h.was), c.of-inner.ensures)

pub of-stop-requires : goal.of-stop-requires
of-stop-requires c = omega (arith, c.requires, head-inside _ _ _ (was head_told c.read_head.ensures c.in_ok-h.was))

pub read_rest-requires : goal.read_rest-requires
read_rest-requires c = omega (arith, c.requires, head-inside _ _ _ (was head_told c.read_head.ensures c.in_ok-h.was), c.of-inner.ensures, c.of-stop.ensures)

pub overflow_sub-rows : goal.overflow_sub-rows
overflow_sub-rows c = omega (arith, metadata-since _ _ _ _ _ _ _ (done (c.read_metadata.ensures []) (ap (walked _) c.in_ok-rows.was)))

pub returns-in_err-h : goal.returns-in_err-h
returns-in_err-h c = λ t. rw (passed_on c.from_residual.ensures.1) (front-no (front-head _ _ _ _ _ _ _ _ (was head_told c.read_head.ensures c.in_err-h.was)))

pub returns-in_err-rows : goal.returns-in_err-rows
returns-in_err-rows c = λ t. rw (passed_on c.from_residual-in_err-rows.ensures.1) (front-no (front-metadata _ _ _ _ _ _ _ _ (was head_told c.read_head.ensures c.in_ok-h.was) c.of-inner.ensures
    (stopped (c.read_metadata.ensures t) (ap (walked _) c.in_err-rows.was))))

pub returns-in_err-u : goal.returns-in_err-u
returns-in_err-u c = λ t. rw (passed_on c.from_residual-in_err-u.ensures.1) (front-no (front_rest _ _ _ _ _ _ _ _ (was head_told c.read_head.ensures c.in_ok-h.was) c.of-inner.ensures
    (done (c.read_metadata.ensures t) (ap (walked _) c.in_ok-rows.was)) c.of-stop.ensures
    (was rest_told c.read_rest.ensures c.in_err-u.was)))

pub returns : goal.returns
returns c = λ t. front-yes (front-all _ _ _ _ _ _ _ _ (was head_told c.read_head.ensures c.in_ok-h.was) c.of-inner.ensures
    (done (c.read_metadata.ensures t) (ap (walked _) c.in_ok-rows.was)) c.of-stop.ensures
    (was rest_told c.read_rest.ensures c.in_ok-u.was) c.row_of-row.ensures)
    (fitting (c.read_metadata.ensures t) (ap (walked _) c.in_ok-rows.was))
