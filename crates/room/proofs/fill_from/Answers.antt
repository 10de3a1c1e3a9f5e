-- `fill_from` sets each element of the part.
-- Assumes nothing.
use Rattle.std.proofs.Common.{arith}
use Rattle.room.proofs.Storing.{filled_more}
use Rattle.room.proofs.fill_from.Goals as goal

pub loop-x-preserved : goal.loop-x-preserved
loop-x-preserved g c = filled_more _ c.loop-x.x-index c.args.value (omega (arith, c.loop-x-test.true)) c.loop-x.invariant
