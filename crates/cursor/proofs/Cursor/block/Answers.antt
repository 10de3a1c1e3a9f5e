use Rattle.cursor.proofs.Leaves.{number-inside, block_size, block-past, block-all}
use Rattle.machine.proofs.Laws.{was}
use Rattle.refusals.proofs.Passing.{passed_on}
use Rattle.cursor.specs.Told.{number_told}
use Rattle.cursor.specs.Rows.{file_frame}
use native.Mathlib.Omega.{arith}
use Rattle.cursor.proofs.Cursor.block.Goals as goal

pub overflow_sub-end : goal.overflow_sub-end
overflow_sub-end c = omega (arith, number-inside file_frame _ _ _ _ (was number_told (c.number.ensures file_frame) c.in_ok-size.was))

pub returns-then-end-first : goal.returns-then-end-first
returns-then-end-first c = λ κ. block-past κ _ _ _ _ (was number_told (c.number.ensures κ) c.in_ok-size.was)
    (omega (arith, number-inside κ _ _ _ _ (was number_told (c.number.ensures κ) c.in_ok-size.was), c.if-end-first.true))

pub returns-in_err-size : goal.returns-in_err-size
returns-in_err-size c = λ κ. rw (passed_on c.from_residual.ensures.1) (block_size κ _ _ _ _ (was number_told (c.number.ensures κ) c.in_err-size.was))

pub returns : goal.returns
returns c = λ κ. block-all κ _ _ _ _ (was number_told (c.number.ensures κ) c.in_ok-size.was)
    (omega (arith, number-inside κ _ _ _ _ (was number_told (c.number.ensures κ) c.in_ok-size.was), c.if-end-first.false))
