-- `copy_table` passes FileLength and the table's length, and puts the count and the entries.
-- Assumes nothing.
use Rattle.title_parts.proofs.Copying.{size-no, block_no, count_no, table_is, copies_as, copies_after, copies-no}
use Rattle.cursor.specs.Rows.{file_frame}
use Rattle.cursor.specs.Told.{number_told}
use Rattle.machine.proofs.Laws.{was}
use Rattle.refusals.proofs.Passing.{passed_on}
use mathlib.Core.Path.{sym}
use Rattle.title_parts.proofs.copy_table.Goals as goal

pub returns-in_err-d : goal.returns-in_err-d
returns-in_err-d c = copies-no (passed_on c.from_residual.ensures.1) (size-no _ _ (was number_told (c.number.ensures file_frame) c.in_err-d.was))

pub returns-in_err-e : goal.returns-in_err-e
returns-in_err-e c = copies-no (passed_on c.from_residual-in_err-e.ensures.1)
    (block_no _ _ (was number_told (c.number.ensures file_frame) c.in_ok-d.was) (was number_told (c.block.ensures file_frame) c.in_err-e.was))

pub returns-in_err-count : goal.returns-in_err-count
returns-in_err-count c = copies-no (passed_on c.from_residual-in_err-count.ensures.1)
    (count_no _ _ (was number_told (c.number.ensures file_frame) c.in_ok-d.was) (was number_told (c.block.ensures file_frame) c.in_ok-e.was)
    (was number_told (c.number-2.ensures file_frame) c.in_err-count.was))

pub returns : goal.returns
returns c = copies_as (sym (table_is _ _ (was number_told (c.number.ensures file_frame) c.in_ok-d.was)
    (was number_told (c.block.ensures file_frame) c.in_ok-e.was)
    (was number_told (c.number-2.ensures file_frame) c.in_ok-count.was)))
    (copies_after _ _ c.put_number-a.ensures c.copy_entries.ensures)
