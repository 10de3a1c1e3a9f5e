-- `mark_item` marks the data of an item row.
-- Assumes nothing.
use native.Mathlib.Omega.{arith}
use Rattle.account.proofs.Marking.{past, hidden_span, visible-span}
use Rattle.account.proofs.marks.mark_item.Goals as goal

pub returns-then-row-eq1 : goal.returns-then-row-eq1
returns-then-row-eq1 c = hidden_span _ c.if-row-eq1.true (past _ _ _ (omega (arith, c.well_formed)) (rw c.on-end.ensures at c.fill.ensures))

pub returns : goal.returns
returns c = visible-span _ c.if-row-eq1.false (past _ _ _ (omega (arith, c.well_formed)) (rw c.on-end.ensures at c.fill-2.ensures))
