-- `read_item` gives what `item` gives, and leaves its rows in the table.
-- Assumes nothing.
use Rattle.machine.proofs.Laws.{was}
use Rattle.metadata.specs.Told.{item_told}
use Rattle.metadata.proofs.Gives.{yes, along}
use Rattle.metadata.proofs.Ways.{item-rows, common_was, common_inside, common_row}
use native.Mathlib.Omega.{arith}
use Rattle.metadata.proofs.read_item.Goals as goal

pub on-data-requires : goal.on-data-requires
on-data-requires c = omega (arith, common_inside _ _ _ (common_was _ _ _ c.read_common.ensures c.in-Some.is))

pub overflow_add-size : goal.overflow_add-size
overflow_add-size c = omega (arith, c.requires, common_inside _ _ _ (common_was _ _ _ c.read_common.ensures c.in-Some.is))

pub on-requires : goal.on-requires
on-requires c = omega (arith, c.requires, common_inside _ _ _ (common_was _ _ _ c.read_common.ensures c.in-Some.is))

pub returns-in-Some : goal.returns-in-Some
returns-in-Some c = λ t. yes (common_row _ _ _ _ _ _ _ _ (common_was _ _ _ c.read_common.ensures c.in-Some.is) c.if-rows-limits.true
    c.on-data.ensures c.row_of.ensures c.put_item.ensures c.on.ensures)
    (omega (arith, c.requires, c.if-rows-limits.true))

pub returns : goal.returns
returns c = λ t. along (item-rows _ _ _ _ _ _ _ _ (was item_told c.read_frame.ensures c.in_ok-is.was)) (c.read_rows.ensures t)
