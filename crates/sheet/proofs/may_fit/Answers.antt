-- `may_fit` sums up what the lines have at least. The invariant: what is left is the room less the rows before i.
-- Assumes nothing.
use mathlib.Core.Path.{ap, ◌∙◌}
use Prim.Native.Nat.{◌+◌}
use Rattle.sheet.specs.Inside.{least_line}
use Rattle.sheet.proofs.Least.{least, over-room, in_room, least_on, least-end}
use native.Mathlib.Omega.{arith}
use Rattle.sheet.proofs.may_fit.Goals as goal

pub returns-then-size-to : goal.returns-then-size-to
returns-then-size-to c = over-room (c.args.to + least c.args.items.now c.args.from c.args.end) c.args.size (omega (arith, c.if-size-to.true))

pub returns-then-left-least : goal.returns-then-left-least
returns-then-left-least c = let one = least_on c.args.items.now c.loop-i.i c.args.end c.loop-i-test.true in
    let count = c.least_line-least.ensures ∙ ap least_line c.item_at.ensures in
    over-room (c.args.to + least c.args.items.now c.args.from c.args.end) c.args.size (omega (arith, c.loop-i.invariant.1, one, count, c.if-left-least.true))

pub loop-i-preserved : goal.loop-i-preserved
loop-i-preserved c = let one = least_on c.args.items.now c.loop-i.i c.args.end c.loop-i-test.true in
    let count = c.least_line-least.ensures ∙ ap least_line c.item_at.ensures in
    (omega arith, omega (arith, c.loop-i.invariant.1, one, count, c.if-left-least.false))

pub returns : goal.returns
returns c = let none = least-end c.args.items.now c.loop-i.i c.args.end c.loop-i-test.false in
    in_room (c.args.to + least c.args.items.now c.args.from c.args.end) c.args.size (omega (arith, c.loop-i.invariant.1, none))
