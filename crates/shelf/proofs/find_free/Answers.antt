-- `find_free` looks at the cards from the first on.
-- Assumes nothing.
use mathlib.Core.Path.{◌≡◌, refl, ◌∙◌}
use native.Mathlib.Nat.{zero-add}
use native.Mathlib.Omega.{arith}
use lib.ListN.{length}
use Rattle.shelf.proofs.Search.{looking_begins, looking_here, looking_on, looking_ends, free_here, free_not}
use Rattle.shelf.proofs.find_free.Goals as goal

pub loop-i-init : goal.loop-i-init
loop-i-init c = looking_begins (omega arith)

pub returns-then-card-eq0 : goal.returns-then-card-eq0
returns-then-card-eq0 c = looking_here c.loop-i.invariant c.loop-i-test.true (free_here refl c.if-card-eq0.true) ∙ zero-add _

pub loop-i-preserved : goal.loop-i-preserved
loop-i-preserved c = looking_on c.loop-i.invariant c.loop-i-test.true (free_not refl c.if-card-eq0.false)

pub returns : goal.returns
returns c = let e : length c.args.cards.now ≡ c.loop-i.i = omega (arith, c.loop-i.invariant.within) in e ∙ looking_ends c.loop-i.invariant (omega arith) ∙ zero-add _
