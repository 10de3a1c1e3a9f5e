-- `follow_size` gives what `follow_size` gives.
-- Assumes nothing.
use Rattle.account.proofs.Ways.{follow_one, follow-none}
use Rattle.account.proofs.follow_size.Goals as goal

pub returns-then-row-eq1 : goal.returns-then-row-eq1
returns-then-row-eq1 c = follow_one _ c.if-row-eq1.true

pub returns-else-row-eq1 : goal.returns-else-row-eq1
returns-else-row-eq1 c = follow-none _ c.if-row-eq1.false
