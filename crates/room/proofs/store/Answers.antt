-- `store` stores the elements one by one. The invariant: the first i are stored.
-- Assumes nothing.
use Rattle.room.proofs.Storing.{more, all}
use Rattle.room.proofs.store.Goals as goal

pub loop-i-preserved : goal.loop-i-preserved
loop-i-preserved g c = more _ _ _ _ c.loop-i-test.true c.index-others-i.is c.loop-i.invariant

pub returns : goal.returns
returns g c = all _ _ _ _ c.loop-i-test.false c.loop-i.invariant
