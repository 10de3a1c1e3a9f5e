-- `block_size` gives the bytes of a number and what it counts.
-- Assumes nothing.
use mathlib.Core.Path.{refl, sym, ap}
use Rattle.cursor.specs.Rows.{meta_frame}
use Rattle.cursor.specs.Told.{number_told}
use Rattle.machine.proofs.Laws.{was}
use native.Mathlib.Omega.{arith}
use Rattle.cursor.proofs.Leaves.{number_short, number-inside}
use Rattle.account.specs.ByRows.{counted}
use Rattle.account.proofs.block_size.Goals as goal

pub returns-then-first-lt128 : goal.returns-then-first-lt128
returns-then-first-lt128 c = let read = number_short meta_frame 3 c.args.end c.args.file.now c.args.at (omega arith) c.wide-first.ensures.0 c.if-first-lt128.true refl in
    omega (arith, ap (counted c.args.at) read)

pub overflow_add-result-in-Ok : goal.overflow_add-result-in-Ok
overflow_add-result-in-Ok c = omega (arith, number-inside meta_frame 3 _ _ _ (was number_told (c.number.ensures meta_frame) c.in-Ok.is))

pub overflow_sub-result : goal.overflow_sub-result
overflow_sub-result c = omega (arith, number-inside meta_frame 3 _ _ _ (was number_told (c.number.ensures meta_frame) c.in-Ok.is))

pub returns-in-Err : goal.returns-in-Err
returns-in-Err c = ap (counted _) (sym (was number_told (c.number.ensures meta_frame) c.in-Err.is))

pub returns-in-Ok : goal.returns-in-Ok
returns-in-Ok c = ap (counted _) (sym (was number_told (c.number.ensures meta_frame) c.in-Ok.is))
