-- `find_from` looks at the cards from some card on.
-- Assumes nothing.
use mathlib.Core.Path.{◌≡◌, sym, ◌∙◌}
use native.Mathlib.Omega.{arith}
use lib.ListN.{length}
use Rattle.shelf.proofs.Search.{looking_begins, looking_here, looking_on, looking_ends}
use Rattle.shelf.proofs.find_from.Goals as goal

pub loop-i-init : goal.loop-i-init
loop-i-init c = looking_begins c.requires

pub returns-then-is_for : goal.returns-then-is_for
returns-then-is_for c = looking_here c.loop-i.invariant c.loop-i-test.true (sym c.is_for.ensures ∙ c.if-is_for.true)

pub loop-i-preserved : goal.loop-i-preserved
loop-i-preserved c = looking_on c.loop-i.invariant c.loop-i-test.true (sym c.is_for.ensures ∙ c.if-is_for.false)

pub returns : goal.returns
returns c = let e : length c.args.cards.now ≡ c.loop-i.i = omega (arith, c.loop-i.invariant.within) in e ∙ looking_ends c.loop-i.invariant (omega arith)
