-- `is_faulty` looks at the cards one by one.
-- Assumes nothing.
use mathlib.Core.Path.{sym, ◌∙◌}
use native.Mathlib.Omega.{arith}
use Rattle.shelf.proofs.Search.{sifting_begins, sifting_here, sifting_on, sifting_ends}
use Rattle.shelf.proofs.is_faulty.Goals as goal

pub loop-i-init : goal.loop-i-init
loop-i-init c = sifting_begins

pub returns-then-is_card_faulty : goal.returns-then-is_card_faulty
returns-then-is_card_faulty c = sifting_here c.loop-i.invariant c.loop-i-test.true (sym c.is_card_faulty.ensures ∙ c.if-is_card_faulty.true)

pub loop-i-preserved : goal.loop-i-preserved
loop-i-preserved c = sifting_on c.loop-i.invariant c.loop-i-test.true (sym c.is_card_faulty.ensures ∙ c.if-is_card_faulty.false)

pub returns : goal.returns
returns c = sifting_ends c.loop-i.invariant (omega arith)
