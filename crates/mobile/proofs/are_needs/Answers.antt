-- `are_needs` says what `are_needs` says. The invariant: what is left of the rows of field 13 decides.
-- Assumes nothing.
use mathlib.Core.Path.{sym}
use Rattle.file.proofs.Own.{row_in}
use Rattle.mobile.proofs.Checks.{needs-none, needs-begin, needs-no, needs-on}
use native.Mathlib.Omega.{arith}
use Rattle.mobile.proofs.are_needs.Goals as goal

pub returns-then-many-i : goal.returns-then-many-i
returns-then-many-i c = needs-none c.args.file.now c.args.tune c.args.items.now c.args.many c.next_row-i.ensures c.if-many-i.true

pub loop-i-init : goal.loop-i-init
loop-i-init c = (
  c.next_row-i.ensures.high,
  needs-begin c.args.file.now c.args.tune c.args.items.now
      c.args.many c.next_row-i.ensures c.if-many-i.false,
)

pub is_need-requires : goal.is_need-requires
is_need-requires c = row_in c.args.items.now c.requires c.loop-i-test.true c.item_at.ensures

pub returns-then-not-is_need : goal.returns-then-not-is_need
returns-then-not-is_need c = needs-no c.args.file.now c.args.tune c.args.items.now c.args.many c.loop-i.invariant.1
    c.loop-i-test.true c.item_at.ensures c.is_need.ensures
    c.if-not-is_need.true

pub loop-i-smaller : goal.loop-i-smaller
loop-i-smaller c = omega (arith, c.next_row-i-in-loop-i.ensures.low)

pub loop-i-preserved : goal.loop-i-preserved
loop-i-preserved c = (
  c.next_row-i-in-loop-i.ensures.high,
  needs-on c.args.file.now c.args.tune c.args.items.now c.args.many
      c.loop-i.invariant.1 c.loop-i-test.true c.item_at.ensures c.is_need.ensures
      c.if-not-is_need.false c.next_row-i-in-loop-i.ensures,
)

pub returns : goal.returns
returns c = sym (c.loop-i.invariant.1.none c.loop-i-test.false)
