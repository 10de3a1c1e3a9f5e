-- `put_shown` puts a converted text as it is shown. The invariant: what is left is what the bytes from `at` on give.
-- Assumes nothing.
use mathlib.Core.Path.{sym, ap, ◌∙◌}
use Rattle.utf16.specs.Told.{char_told}
use Rattle.utf16.specs.Unicode.{to_utf8}
use Rattle.utf16.proofs.Sixteen.{form16}
use Rattle.utf16.proofs.Converting.{conv_start, conv_on, conv_bad, char-in}
use Rattle.text.proofs.Shown.{shown-start, shown-end, shown-never}
use Rattle.text.proofs.LowBytes.{conv_letters}
use native.Mathlib.Omega.{arith}
use Rattle.text.proofs.put_shown.Goals as goal

pub loop-at-init : goal.loop-at-init
loop-at-init c = conv_start c.args.units.now _ _ (omega arith) c.after_mark-at.ensures.upper_bound (shown-start c.args.units.now _ c.after_mark-at.ensures.units_value)

pub returns-in-None : goal.returns-in-None
returns-in-None c = shown-never (to_utf8 c.args.units.now) c.requires
    (conv_bad c.loop-at.invariant c.loop-at-test.true (sym (ap char_told c.in-None.is) ∙ c.char16.ensures))

pub loop-at-preserved-then-n-gt0 : goal.loop-at-preserved-then-n-gt0
loop-at-preserved-then-n-gt0 c = conv_letters c.args.units.now (λ i. omega (arith, c.shared_slice_known-1.given i)) _
    c.letters_with-n.ensures c.loop-at.invariant c.put_lows-next.ensures

pub put_shown_char-next-requires : goal.put_shown_char-next-requires
put_shown_char-next-requires c = (let w = char-in form16 c.args.units.now (λ i. omega (arith, c.shared_slice_known-1.given i)) _
    (sym (ap char_told c.in-Some.is) ∙ c.char16.ensures) c.loop-at.invariant.within in w.0.most)

pub overflow_add-at-else-n-gt0 : goal.overflow_add-at-else-n-gt0
overflow_add-at-else-n-gt0 c = (let w = char-in form16 c.args.units.now (λ i. omega (arith, c.shared_slice_known-1.given i)) _
    (sym (ap char_told c.in-Some.is) ∙ c.char16.ensures) c.loop-at.invariant.within in omega (arith, w.2))

pub loop-at-smaller : goal.loop-at-smaller
loop-at-smaller c = (let w = char-in form16 c.args.units.now (λ i. omega (arith, c.shared_slice_known-1.given i)) _
    (sym (ap char_told c.in-Some.is) ∙ c.char16.ensures) c.loop-at.invariant.within in omega (arith, w.1, w.2))

pub loop-at-preserved : goal.loop-at-preserved
loop-at-preserved c = conv_on form16 c.args.units.now (λ i. omega (arith, c.shared_slice_known-1.given i)) _
    (sym (ap char_told c.in-Some.is) ∙ c.char16.ensures) c.loop-at-test.true c.loop-at.invariant
    c.put_shown_char-next.ensures

pub returns : goal.returns
returns c = shown-end (to_utf8 c.args.units.now) c.loop-at-test.false c.loop-at.invariant
