-- `in_items` adds row after row. The invariant: what is left to do is what the rows from row i on give.
-- Assumes nothing.
use native.Mathlib.Omega.{arith}
use Rattle.account.proofs.Folding.{folding_begun, folding_on, items-done, items-small}
use Rattle.account.proofs.in_items.Goals as goal

pub loop-i-init : goal.loop-i-init
loop-i-init c = (omega arith, folding_begun _ _ _ _ _ _)

pub with_item-sum-requires : goal.with_item-sum-requires
with_item-sum-requires c = rw c.item_at.ensures (items-small _ _ (omega arith) c.loop-i.invariant.1 c.requires.1)

pub loop-i-preserved : goal.loop-i-preserved
loop-i-preserved c = (omega arith, folding_on _ _ _ _ _ _ (omega arith) c.loop-i.invariant.1 c.item_at.ensures c.with_item-sum.ensures)

pub returns : goal.returns
returns c = items-done _ _ (omega arith) c.loop-i.invariant.1
