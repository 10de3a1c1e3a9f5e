-- `piece_end` finds the end of a piece. The invariant: what is left of the piece begins at i.
-- Assumes nothing.
use Rattle.editions.proofs.Numbers.{sought_here, sought_on, sought_end}
use Rattle.editions.proofs.piece_end.Goals as goal

pub returns-then-text-i : goal.returns-then-text-i
returns-then-text-i c = sought_here _ _ _ _ c.loop-i.invariant c.loop-i-test.true c.if-text-i.true

pub loop-i-preserved : goal.loop-i-preserved
loop-i-preserved c = sought_on _ _ _ _ c.loop-i.invariant c.loop-i-test.true c.if-text-i.false

pub returns : goal.returns
returns c = sought_end _ _ _ _ c.loop-i.invariant c.loop-i-test.false
