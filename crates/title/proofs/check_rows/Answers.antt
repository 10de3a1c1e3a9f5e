-- `check_rows` tests in the order of the refusals.
-- Assumes nothing.
use Rattle.title.proofs.Refusals.{refuses_row, refuses_reference, refuses_content, refuses_none}
use Rattle.title.proofs.check_rows.Goals as goal

pub returns-then-total-row : goal.returns-then-total-row
returns-then-total-row c = refuses_row _ _ _ _ _ c.if-total-row.true

pub returns-then-refers : goal.returns-then-refers
returns-then-refers c = refuses_reference _ _ _ _ _ c.if-total-row.false c.refers_elsewhere-refers.ensures c.is_no_title-other.ensures c.if-refers.true

pub returns-then-other : goal.returns-then-other
returns-then-other c = refuses_content _ _ _ _ _ c.if-total-row.false c.refers_elsewhere-refers.ensures c.is_no_title-other.ensures c.if-refers.false c.if-other.true

pub returns : goal.returns
returns c = refuses_none _ _ _ _ _ c.if-total-row.false c.refers_elsewhere-refers.ensures c.is_no_title-other.ensures c.if-refers.false c.if-other.false
