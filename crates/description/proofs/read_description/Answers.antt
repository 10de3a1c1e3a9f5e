-- `read_description` reads a whole item, and gives the count in it.
-- Assumes nothing.
use native.Mathlib.Omega.{arith}
use Rattle.cursor.specs.Rows.{meta_frame}
use Rattle.cursor.specs.Told.{number_told, pass_told}
use Rattle.refusals.proofs.Passing.{passed_on}
use Rattle.machine.proofs.Laws.{was}
use Rattle.cursor.proofs.Leaves.{number-inside}
use Rattle.description.proofs.Ways.{whole-message, whole-channels, whole-resources, whole-lists, whole-table}
use Rattle.description.proofs.read_description.Goals as goal

pub read_table-requires : goal.read_table-requires
read_table-requires c = (
  omega arith,
  (number-inside _ _ _ _ _ (was number_told (c.number-2.ensures meta_frame) c.in_ok-channels.was)).3,
  (number-inside _ _ _ _ _ (was number_told (c.number-3.ensures meta_frame) c.in_ok-resources.was)).3,
)

pub returns-in_err-d : goal.returns-in_err-d
returns-in_err-d c = rw (passed_on c.from_residual.ensures.1) (whole-message _ _ _ _ _ (was number_told (c.number.ensures meta_frame) c.in_err-d.was))

pub returns-in_err-channels : goal.returns-in_err-channels
returns-in_err-channels c = rw (passed_on c.from_residual-in_err-channels.ensures.1)
    (whole-channels _ _ _ _ _ (was number_told (c.number.ensures meta_frame) c.in_ok-d.was) (was number_told (c.number-2.ensures meta_frame) c.in_err-channels.was))

pub returns-in_err-resources : goal.returns-in_err-resources
returns-in_err-resources c = rw (passed_on c.from_residual-in_err-resources.ensures.1)
    (whole-resources _ _ _ _ _ (was number_told (c.number.ensures meta_frame) c.in_ok-d.was) (was number_told (c.number-2.ensures meta_frame) c.in_ok-channels.was)
    (was number_told (c.number-3.ensures meta_frame) c.in_err-resources.was))

pub returns-in_err-h : goal.returns-in_err-h
returns-in_err-h c = rw (passed_on c.from_residual-in_err-h.ensures.1)
    (whole-lists _ _ _ _ _ (was number_told (c.number.ensures meta_frame) c.in_ok-d.was) (was number_told (c.number-2.ensures meta_frame) c.in_ok-channels.was)
    (was number_told (c.number-3.ensures meta_frame) c.in_ok-resources.was) (was pass_told c.read_lists.ensures c.in_err-h.was))

pub returns : goal.returns
returns c = whole-table _ _ _ _ _ (was number_told (c.number.ensures meta_frame) c.in_ok-d.was) (was number_told (c.number-2.ensures meta_frame) c.in_ok-channels.was)
    (was number_told (c.number-3.ensures meta_frame) c.in_ok-resources.was) (was pass_told c.read_lists.ensures c.in_ok-h.was) c.read_table.ensures
