-- `copy_number` puts the number that it reads.
-- Assumes nothing.
use Rattle.title_parts.proofs.Copying.{copies-no, number-no, number_is}
use Rattle.cursor.specs.Told.{number_told}
use Rattle.machine.proofs.Laws.{was}
use Rattle.refusals.proofs.Passing.{passed_on}
use Rattle.title_parts.proofs.copy_number.Goals as goal

pub returns-in_err-v : goal.returns-in_err-v
returns-in_err-v c = λ κ. copies-no (passed_on c.from_residual.ensures.1) (number-no κ _ _ (was number_told (c.number.ensures κ) c.in_err-v.was))

pub returns : goal.returns
returns c = λ κ. record { is = (_, number_is κ _ _ (was number_told (c.number.ensures κ) c.in_ok-v.was), c.put_number.ensures) }
