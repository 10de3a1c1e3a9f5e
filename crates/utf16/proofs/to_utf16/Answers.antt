-- `to_utf16` answers and leaves in its buffer what `to_utf16` says.
-- Assumes nothing.
use mathlib.Core.Path.{sym, ap, ◌∙◌}
use Rattle.utf16.specs.Told.{char_told}
use Rattle.utf16.proofs.Eight.{form8}
use Rattle.utf16.proofs.Converting.{conv_start, conv_on, conv_bad, conv_full, conv_good, conv_length, char-in, refused, fit-bad, utf16-start}
use native.Mathlib.Omega.{arith}
use Rattle.utf16.proofs.to_utf16.Goals as goal

pub loop-at-init : goal.loop-at-init
loop-at-init c = conv_start c.args.text.now _ _ (omega arith) (omega arith) (utf16-start _)

pub returns-in-None : goal.returns-in-None
returns-in-None c = let all = (refused (fit-bad _ (conv_bad c.loop-at.invariant c.loop-at-test.true
    (sym (ap char_told c.in-None.is) ∙ c.char8.ensures))) (conv_length c.loop-at.invariant)
    (c.fill.ensures.after (λ _ e. e))) in record { answer = all.0; units = all.1 }

pub put16-next-requires : goal.put16-next-requires
put16-next-requires c = (let w = char-in form8 c.args.text.now tt _ (sym (ap char_told c.in-Some.is) ∙ c.char8.ensures) c.loop-at.invariant.within in w.0.most)

pub overflow_add-at : goal.overflow_add-at
overflow_add-at c = (let w = char-in form8 c.args.text.now tt _ (sym (ap char_told c.in-Some.is) ∙ c.char8.ensures)
    c.loop-at.invariant.within in omega (arith, w.2))

pub loop-at-smaller : goal.loop-at-smaller
loop-at-smaller c = (let w = char-in form8 c.args.text.now tt _ (sym (ap char_told c.in-Some.is) ∙ c.char8.ensures)
    c.loop-at.invariant.within in omega (arith, w.1, w.2))

pub loop-at-preserved : goal.loop-at-preserved
loop-at-preserved c = conv_on form8 c.args.text.now tt _ (sym (ap char_told c.in-Some.is) ∙ c.char8.ensures)
    c.loop-at-test.true c.loop-at.invariant c.put16-next.ensures

pub returns-then-units-next : goal.returns-then-units-next
returns-then-units-next c = let all = (refused (conv_full c.loop-at.invariant c.loop-at-test.false c.if-units-next.true) (conv_length c.loop-at.invariant) (c.fill-then-units-next.ensures.after (λ _ e. e))) in record { answer = all.0; units = all.1 }

pub returns : goal.returns
returns c = let all = (conv_good c.loop-at.invariant c.loop-at-test.false c.if-units-next.false (omega arith) c.fill_from.ensures) in record { answer = all.0; units = all.1 }
