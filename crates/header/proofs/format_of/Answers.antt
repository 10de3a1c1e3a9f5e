-- `format_of` finds the first declaration of a type. The invariant: what is left of the search is the whole.
-- Assumes nothing.
use Rattle.header.proofs.Types.{begin, found, on, nothing}
use Rattle.header.proofs.format_of.Goals as goal

pub loop-i-init : goal.loop-i-init
loop-i-init c = begin _ _ _

pub returns-then-types-i : goal.returns-then-types-i
returns-then-types-i c = found _ _ _ _ c.loop-i.invariant c.loop-i-test.true c.if-types-i.true

pub loop-i-preserved : goal.loop-i-preserved
loop-i-preserved c = on _ _ _ _ c.loop-i.invariant c.loop-i-test.true c.if-types-i.false

pub returns : goal.returns
returns c = nothing _ _ _ _ c.loop-i.invariant c.loop-i-test.false
