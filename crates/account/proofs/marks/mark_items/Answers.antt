-- `mark_items` marks row after row. The invariant: what is left to do is what the rows from row i on give.
-- Assumes nothing.
use native.Mathlib.Omega.{arith}
use Rattle.account.proofs.Marking.{painting_begun, painting_on, items-painted}
use Rattle.account.proofs.marks.mark_items.Goals as goal

pub loop-i-init : goal.loop-i-init
loop-i-init c = (omega arith, painting_begun _ _ _ _ _ _)

pub loop-i-preserved : goal.loop-i-preserved
loop-i-preserved c = (omega arith, painting_on _ _ _ _ _ _ (omega arith) c.loop-i.invariant.1 c.item_at.ensures c.mark_item.ensures)

pub returns : goal.returns
returns c = items-painted _ _ (omega arith) c.loop-i.invariant.1
