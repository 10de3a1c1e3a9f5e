-- `copy_unpacker` puts kind, name and size.
-- Assumes nothing.
use Rattle.title_parts.proofs.Copying.{kind-no, name-no, unpacker-is, copies_as, copies_after, copied-was, copied-answer, copied-puts, copied-no, copies-no}
use Rattle.cursor.specs.Rows.{unpack_frame}
use Rattle.cursor.specs.Told.{number_told}
use Rattle.machine.proofs.Laws.{was}
use Rattle.refusals.proofs.Passing.{passed_on}
use mathlib.Core.Path.{sym}
use Rattle.title_parts.proofs.copy_unpacker.Goals as goal

pub returns-in_err-kind : goal.returns-in_err-kind
returns-in_err-kind c = copies-no (passed_on c.from_residual.ensures.1) (kind-no _ _ (was number_told (c.number.ensures unpack_frame) c.in_err-kind.was))

pub returns-in_err-b : goal.returns-in_err-b
returns-in_err-b c = copies-no (passed_on c.from_residual-in_err-b.ensures.1)
    (name-no _ _ (was number_told (c.number.ensures unpack_frame) c.in_ok-kind.was) (copied-no c.copy_identifier.ensures c.in_err-b.was))

pub returns : goal.returns
returns c = let k = copied-was c.copy_identifier.ensures c.in_ok-b.was in
    copies_as (sym (unpacker-is _ _ (was number_told (c.number.ensures unpack_frame) c.in_ok-kind.was) (copied-answer k)))
    (copies_after _ _ c.put_number-a.ensures
    (copies_after _ _ (copied-puts k) (c.copy_number.ensures unpack_frame)))
