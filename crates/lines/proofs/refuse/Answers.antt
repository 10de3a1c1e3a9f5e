-- `refuse` answers the line of a refusal.
-- Assumes nothing.
use Rattle.lines.specs.Answer.{refused_by}
use Rattle.lines.proofs.refuse.Goals as goal

pub returns : goal.returns
unfolding refused_by
returns c = c.close.ensures _ _ c.put_refusal-end.ensures
