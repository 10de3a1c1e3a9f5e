-- `contents_at` gives what `contents_at` gives.
-- Assumes nothing.
use Rattle.account.proofs.Ways.{contents-one, contents-other}
use Rattle.account.proofs.marks.contents_at.Goals as goal

pub returns-then-row-eq1 : goal.returns-then-row-eq1
returns-then-row-eq1 c = contents-one _ c.if-row-eq1.true

pub returns-else-row-eq1 : goal.returns-else-row-eq1
returns-else-row-eq1 c = contents-other _ c.if-row-eq1.false
