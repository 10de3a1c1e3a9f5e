-- `read_items` reads items end to end. The invariant: what is left of them comes to what the whole comes to.
-- Assumes nothing.
use mathlib.Core.Path.{refl, ap}
use native.Mathlib.Omega.{arith}
use Rattle.refusals.proofs.Passing.{passed_on}
use Rattle.metadata.specs.Told.{walked}
use Rattle.metadata.proofs.Ways.{items-begun, items-done, items-no, items-further, items-on}
use Rattle.metadata.proofs.read_items.Goals as goal

pub loop-next-init : goal.loop-next-init
loop-next-init c = items-begun _ _ _ _ _ _ _ (omega arith) (omega arith)

pub read_item-requires : goal.read_item-requires
read_item-requires c = omega (arith, c.requires, c.loop-next.invariant.long, c.loop-next.invariant.nodes-fit, c.loop-next.invariant.items-fit)

pub returns-in_err-m : goal.returns-in_err-m
returns-in_err-m c = rw (passed_on c.from_residual.ensures.1)
    (items-no _ _ _ _ _ _ _ c.loop-next.invariant c.loop-next-test.true c.read_item.ensures (ap (walked _) c.in_err-m.was))

pub overflow_add-index : goal.overflow_add-index
overflow_add-index c = omega (arith, c.loop-next.invariant.few, c.requires)

pub loop-next-smaller : goal.loop-next-smaller
loop-next-smaller c = omega (
  arith,
  items-further _ _ _ _ _ _ _ c.loop-next.invariant c.loop-next-test.true
      c.read_item.ensures (ap (walked _) c.in_ok-m.was),
)

pub loop-next-preserved : goal.loop-next-preserved
loop-next-preserved c = items-on _ _ _ _ _ _ _ c.loop-next.invariant c.loop-next-test.true
    c.read_item.ensures (ap (walked _) c.in_ok-m.was) c.read_item.auto.items

pub returns : goal.returns
returns c = items-done _ _ _ _ _ _ _ refl c.loop-next.invariant c.loop-next-test.false
