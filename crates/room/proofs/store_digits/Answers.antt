-- `store_digits` stores the digits of n, the last one first.
-- Assumes nothing.
use Rattle.std.proofs.Common.{arith}
use Rattle.room.proofs.Decimal.{some-digit, stored_on, stored-end, stored-more, stored-one}
use Rattle.room.proofs.store_digits.Goals as goal

pub loop-at-preserved : goal.loop-at-preserved
loop-at-preserved c =
    let s = c.loop-at.invariant in
    stored_on s (omega arith) (stored-more s (omega (arith, c.loop-at-test.true))) (omega arith)

pub overflow_cast-out-2 : goal.overflow_cast-out-2
overflow_cast-out-2 c = omega (arith, stored-one c.loop-at.invariant (omega arith) (omega (arith, c.loop-at-test.false)))

pub overflow_add-out-2 : goal.overflow_add-out-2
overflow_add-out-2 c = omega (arith, stored-one c.loop-at.invariant (omega arith) (omega (arith, c.loop-at-test.false)))

pub bounds-out-from : goal.bounds-out-from
bounds-out-from c = omega (arith, some-digit c.args.n, c.requires)

pub returns : goal.returns
returns c = stored-end c.loop-at.invariant (stored-one c.loop-at.invariant (omega arith) (omega (arith, c.loop-at-test.false)))
