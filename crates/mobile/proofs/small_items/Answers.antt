-- `small_items` says what `all is_small` says. The invariant: what is left of the rows decides.
-- Assumes nothing.
use mathlib.Core.Path.{refl}
use Rattle.mobile.proofs.Lists.{items-no, items-on, items-yes}
use Rattle.mobile.proofs.Tests.{small-no, small-yes}
use native.Mathlib.Omega.{arith}
use Rattle.mobile.proofs.small_items.Goals as goal

pub loop-i-init : goal.loop-i-init
loop-i-init c = (omega arith, refl)

pub returns-then-field_size-gt256 : goal.returns-then-field_size-gt256
returns-then-field_size-gt256 c = items-no _ _ _ _ c.loop-i.invariant.1 c.loop-i-test.true c.item_at.ensures (small-no _ c.field_size.ensures c.if-field_size-gt256.true)

pub loop-i-preserved : goal.loop-i-preserved
loop-i-preserved c = (
  omega arith,
  items-on _ _ _ _ c.loop-i.invariant.1 c.loop-i-test.true c.item_at.ensures
      (small-yes _ c.field_size.ensures c.if-field_size-gt256.false),
)

pub returns : goal.returns
returns c = items-yes _ _ _ _ c.loop-i.invariant.1 c.loop-i-test.false
