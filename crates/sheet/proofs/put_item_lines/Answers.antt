-- `put_item_lines` puts the lines of the visible rows. The invariant: of the whole, the lines from row i on are still to be put.
-- Assumes nothing.
use Prim.Native.Nat.{◌+◌, ◌-◌}
use mathlib.Core.Path.{refl, sym, ◌∙◌}
use Rattle.rows.specs.Rows.{items_from}
use Rattle.sheet.specs.Inside.{least_lines}
use borrow.Author.Tests.{leb-false}
use Rattle.sheet.proofs.Filling.{fills-past, fills-counts, filling_start, filling_on, filling_past, filling_end, filling_length}
use native.Mathlib.Omega.{arith}
use Rattle.sheet.proofs.Lines.{items-on, items-end}
use Rattle.sheet.proofs.Least.{lines-least}
use Rattle.sheet.proofs.put_item_lines.Goals as goal

pub returns-then-not-may_fit : goal.returns-then-not-may_fit
returns-then-not-may_fit c = let lines = items_from c.args.from (c.args.end - c.args.from) c.args.items.now in
    let least = lines-least c.args.items.now c.args.file.now (λ i. omega (arith, c.shared_slice_known-1.given i)) c.args.from (c.args.end - c.args.from)
    (λ j l. c.requires.1.1 j (omega (arith, c.requires.0))) in
    let over = leb-false (c.args.to + least_lines lines) _ (sym c.may_fit.ensures ∙ c.if-not-may_fit.true) in
    fills-past _ (omega arith) (omega (arith, c.well_formed)) (omega (arith, least, over))

pub loop-i-init : goal.loop-i-init
loop-i-init c = (c.requires.0, filling_start _ (omega arith) refl)

pub returns-then-out-next : goal.returns-then-out-next
returns-then-out-next c = let one = filling_on (items-on _ _ _ _ c.loop-i-test.true) c.loop-i.invariant.1 (fills-counts c.put_visible_line-next.ensures) in
    filling_past one (omega (arith, c.if-out-next.true, filling_length one))

pub loop-i-preserved : goal.loop-i-preserved
loop-i-preserved c = (omega arith, filling_on (items-on _ _ _ _ c.loop-i-test.true) c.loop-i.invariant.1 (fills-counts c.put_visible_line-next.ensures))

pub returns : goal.returns
returns c = filling_end (items-end _ _ _ _ c.loop-i-test.false) c.loop-i.invariant.1
