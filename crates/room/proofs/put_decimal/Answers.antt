-- `put_decimal` puts the digits of n where there is room for them.
-- Assumes nothing.
use Rattle.room.proofs.Decimal.{decimal-one, some-digit}
use Rattle.room.proofs.Counting.{counts-as, counts-over, counts-stored}
use native.Mathlib.Omega.{arith}
use Rattle.room.proofs.put_decimal.Goals as goal

pub returns-then-n-lt10 : goal.returns-then-n-lt10
returns-then-n-lt10 c = counts-as (decimal-one _ c.if-n-lt10.true) c.put_byte.ensures

pub returns-then-room_at-size : goal.returns-then-room_at-size
returns-then-room_at-size c = counts-over _ (omega (arith, c.on.ensures, c.digit_count-size.ensures))
    (omega (arith, c.room_at.ensures, c.if-room_at-size.true, c.digit_count-size.ensures))

pub store_digits-requires : goal.store_digits-requires
store_digits-requires c = omega (arith, c.room_at.ensures, c.if-room_at-size.false, c.digit_count-size.ensures, some-digit c.args.n)

pub returns : goal.returns
returns c = counts-stored _ (omega (arith, c.room_at.ensures, c.if-room_at-size.false, c.digit_count-size.ensures)) c.store_digits.ensures
