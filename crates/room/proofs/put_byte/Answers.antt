-- `put_byte` puts its byte where there is room.
-- Assumes nothing.
use Rattle.room.proofs.Counting.{counts-over}
use native.Mathlib.Omega.{arith}
use Rattle.room.proofs.put_byte.Goals as goal

pub returns : goal.returns
returns c = counts-over _ c.on.ensures (omega (arith, c.if-to-out.false))
