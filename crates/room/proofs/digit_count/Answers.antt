-- `digit_count` counts the digits of n by the power of ten that n is at or above.
-- Assumes nothing.
use Rattle.std.proofs.Common.{ap, arith, length}
use Rattle.room.proofs.Decimal.{decimal-one, sized}
use Rattle.room.proofs.digit_count.Goals as goal

pub returns-in-Some : goal.returns-in-Some
returns-in-Some c = let p = c.in-Some.ensures in sized c.in-Some.power c.args.n p.power_le p.next_power_gt (omega arith)

pub returns-in-None : goal.returns-in-None
returns-in-None c = ap length (decimal-one c.args.n (omega (arith, c.in-None.ensures.none)))
