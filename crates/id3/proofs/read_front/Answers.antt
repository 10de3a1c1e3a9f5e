-- `read_front` gives what `front` gives.
-- Assumes nothing.
use Rattle.id3.proofs.Ways.{front-extended, front-none}
use Rattle.id3.proofs.read_front.Goals as goal

pub returns-then-flags-eq1 : goal.returns-then-flags-eq1
returns-then-flags-eq1 c = front-extended _ _ _ _ c.if-flags-eq1.true c.read_extended.ensures

pub returns : goal.returns
returns c = front-none _ _ _ _ c.if-flags-eq1.false
