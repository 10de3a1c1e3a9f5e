-- `read_lists` gives what `lists` gives.
-- Assumes nothing.
use Rattle.cursor.specs.Told.{number_told, pass_told}
use Rattle.refusals.proofs.Passing.{passed_on}
use Rattle.machine.proofs.Laws.{was}
use Rattle.description.proofs.Ways.{lists-resource, lists-group, lists-all}
use Rattle.description.proofs.read_lists.Goals as goal

pub returns-in_err-d : goal.returns-in_err-d
returns-in_err-d c = rw (passed_on c.from_residual.ensures.1) (lists-resource _ _ _ _ (was pass_told c.read_resources.ensures c.in_err-d.was))

pub returns-in_err-e : goal.returns-in_err-e
returns-in_err-e c = rw (passed_on c.from_residual-in_err-e.ensures.1) (lists-group _ _ _ _ (was pass_told c.read_resources.ensures c.in_ok-d.was) 0
    (was number_told c.read_numbers.ensures c.in_err-e.was))

pub returns : goal.returns
returns c = lists-all _ _ _ _ (was pass_told c.read_resources.ensures c.in_ok-d.was) 0 (was number_told c.read_numbers.ensures c.in_ok-e.was)
