-- `put_needs` puts the lines of all visible content descriptions. The invariant: of the whole, the rows from row i on are still to be put.
-- Assumes nothing.
use mathlib.Core.Path.{◌∙◌}
use native.Mathlib.Omega.{arith}
use Rattle.refusals.proofs.Passing.{passed_on}
use Rattle.needs.proofs.Needing.{needing-start, needing-on, needing-no, needing-end, puts-bad, puts-good}
use Rattle.needs.proofs.put_needs.Goals as goal

pub loop-i-init : goal.loop-i-init
loop-i-init c = needing-start _ _ _ _

pub item_at-requires : goal.item_at-requires
item_at-requires c = omega (arith, c.requires.0)

pub put_row_needs-requires : goal.put_row_needs-requires
put_row_needs-requires c = rw c.item_at.ensures (c.requires.1 _ c.loop-i-test.true)

pub returns-in_err-next : goal.returns-in_err-next
returns-in_err-next c = let z = puts-bad _ _ _ _ _ c.put_row_needs.ensures c.in_err-next.was
    in rw (passed_on c.from_residual.ensures.1) (needing-no _ _ _ c.loop-i.invariant c.loop-i-test.true c.item_at.ensures z.0, z.1 ∙ c.loop-i.invariant.puts.long)

pub loop-i-preserved : goal.loop-i-preserved
loop-i-preserved c = let z = puts-good _ _ _ _ _ c.put_row_needs.ensures c.in_ok-next.was in needing-on _ _ _ c.loop-i.invariant c.loop-i-test.true c.item_at.ensures z.1 z.2

pub returns : goal.returns
returns c = (c.loop-i.invariant.done, needing-end _ _ _ c.loop-i.invariant c.loop-i-test.false, c.loop-i.invariant.puts)
