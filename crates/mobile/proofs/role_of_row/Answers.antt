-- `role_of_row` says what `role_of_row` says.
-- Assumes nothing.
use Rattle.cursor.specs.Rows.{meta_frame}
use Rattle.cursor.specs.Told.{number_told}
use Rattle.machine.proofs.Laws.{was}
use Rattle.mobile.proofs.Roles.{row_other, row-empty, row_first, row_cut, row-left, row_type}
use Rattle.mobile.proofs.role_of_row.Goals as goal

pub returns-then-not-is_binary : goal.returns-then-not-is_binary
returns-then-not-is_binary c = row_other c.args.file.now c.args.row c.is_binary.ensures c.if-not-is_binary.true

pub returns-then-size-eq0 : goal.returns-then-size-eq0
returns-then-size-eq0 c = row-empty c.args.file.now c.args.row c.if-size-eq0.true

pub returns-then-file-place-ne0 : goal.returns-then-file-place-ne0
returns-then-file-place-ne0 c = row_first c.args.file.now c.args.row c.if-file-place-ne0.true

pub returns-then-at-end : goal.returns-then-at-end
returns-then-at-end c = row-left c.args.file.now c.args.row (was number_told (c.number.ensures meta_frame) c.in-Ok.is) c.if-at-end.true

pub returns-in-Err : goal.returns-in-Err
returns-in-Err c = row_cut c.args.file.now c.args.row (was number_told (c.number.ensures meta_frame) c.in-Err.is)

pub returns-else-at-end : goal.returns-else-at-end
returns-else-at-end c = row_type c.args.file.now c.args.row (was number_told (c.number.ensures meta_frame) c.in-Ok.is)
    c.is_binary.ensures c.if-not-is_binary.false c.if-size-eq0.false
    c.if-file-place-ne0.false c.if-at-end.false c.role_of_type.ensures
