-- `refuse_long` answers that a file is too long.
-- Assumes nothing.
use Rattle.lines.proofs.refuse_long.Goals as goal

pub returns : goal.returns
returns c = c.close.ensures _ _ c.put_too_long-end.ensures
