-- `next_row` finds the next row of a field. The invariant: the rows of the field that are left are all.
-- Assumes nothing.
use mathlib.Core.Path.{refl}
use Rattle.mobile.proofs.Lists.{next_here, next-on, next-none}
use native.Mathlib.Omega.{arith}
use Rattle.mobile.proofs.next_row.Goals as goal

pub loop-i-init : goal.loop-i-init
loop-i-init c = (omega arith, omega arith, refl)

pub returns-then-is_field : goal.returns-then-is_field
returns-then-is_field c = next_here c.args.items.now c.args.many c.args.field c.args.from c.args.end c.loop-i.i
    c.loop-i.invariant.2 (omega arith) (omega arith) c.loop-i-test.true c.item_at.ensures
    c.is_field.ensures c.if-is_field.true

pub loop-i-preserved : goal.loop-i-preserved
loop-i-preserved c = (
  omega arith,
  omega arith,
  next-on c.args.items.now c.args.many c.args.field c.args.from c.args.end
      c.loop-i.i c.loop-i.invariant.2 (omega arith) (omega arith) c.loop-i-test.true c.item_at.ensures
      c.is_field.ensures c.if-is_field.false,
)

pub returns : goal.returns
returns c = next-none c.args.items.now c.args.many c.args.field c.args.from c.args.end c.loop-i.i
    c.loop-i.invariant.2 (omega arith) (omega arith) (omega arith) c.loop-i-test.false
