-- `further` counts. The invariant: the rows passed are further versions.
-- Assumes nothing.
use Rattle.title_items.proofs.Putting.{counting_start, counting_on, counting_stop, counting_end}
use native.Mathlib.Omega.{arith}
use Rattle.title_items.proofs.further.Goals as goal

pub loop-k-init : goal.loop-k-init
loop-k-init c = counting_start _ _ _ c.requires.0

pub returns-then-item_at-le1 : goal.returns-then-item_at-le1
returns-then-item_at-le1 c = record {
  count = counting_stop c.loop-k-test.true c.item_at.ensures c.if-item_at-le1.true c.loop-k.invariant;
  few = omega arith;
}

pub loop-k-preserved : goal.loop-k-preserved
loop-k-preserved c = counting_on c.loop-k-test.true c.item_at.ensures c.if-item_at-le1.false c.loop-k.invariant

pub returns : goal.returns
returns c = record {
  count = λ f row title. omega (arith, counting_end c.loop-k-test.false c.loop-k.invariant f row title);
  few = omega arith;
}
