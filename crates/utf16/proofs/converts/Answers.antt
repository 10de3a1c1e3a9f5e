-- `converts` says whether data converts.
-- Assumes nothing.
use mathlib.Core.Path.{sym, ap, ◌∙◌}
use Rattle.utf16.specs.Told.{char_told}
use Rattle.utf16.proofs.Sixteen.{form16}
use Rattle.utf16.proofs.Converting.{check-start, check-on, check-bad, check-end, char-in}
use native.Mathlib.Omega.{arith}
use Rattle.utf16.proofs.converts.Goals as goal

pub loop-at-init : goal.loop-at-init
loop-at-init c = check-start c.args.units.now

pub returns-in-None : goal.returns-in-None
returns-in-None c = check-bad c.args.units.now _ c.loop-at-test.true c.loop-at.invariant (sym (ap char_told c.in-None.is) ∙ c.char16.ensures)

pub overflow_add-at : goal.overflow_add-at
overflow_add-at c = (let w = check-on c.args.units.now _ c.loop-at-test.true c.loop-at.invariant
    (λ i. omega (arith, c.shared_slice_known-1.given i))
    (sym (ap char_told c.in-Some.is) ∙ c.char16.ensures) in omega (arith, w.within))

pub loop-at-smaller : goal.loop-at-smaller
loop-at-smaller c = (let w = char-in form16 c.args.units.now (λ i. omega (arith, c.shared_slice_known-1.given i)) _
    (sym (ap char_told c.in-Some.is) ∙ c.char16.ensures) c.loop-at.invariant.within in omega (arith, w.1, w.2))

pub loop-at-preserved : goal.loop-at-preserved
loop-at-preserved c = check-on c.args.units.now _ c.loop-at-test.true c.loop-at.invariant
    (λ i. omega (arith, c.shared_slice_known-1.given i))
    (sym (ap char_told c.in-Some.is) ∙ c.char16.ensures)

pub returns : goal.returns
returns c = check-end c.args.units.now _ c.loop-at-test.false c.loop-at.invariant
