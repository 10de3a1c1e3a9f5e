-- `fits_in` asks whether n is below 128 to the power of k.
-- Assumes nothing.
use native.Mathlib.Omega.{arith}
use Rattle.mend.proofs.Ways.{fits-at}
use Rattle.mend.proofs.fits_in.Goals as goal

pub returns-then-k-eq1 : goal.returns-then-k-eq1
returns-then-k-eq1 c = fits-at _ _ 1 c.if-k-eq1.true

pub returns-then-k-eq2 : goal.returns-then-k-eq2
returns-then-k-eq2 c = fits-at _ _ 2 c.if-k-eq2.true

pub returns-then-k-eq3 : goal.returns-then-k-eq3
returns-then-k-eq3 c = fits-at _ _ 3 c.if-k-eq3.true

pub returns : goal.returns
returns c = fits-at c.args.n c.args.k 4 (omega (arith, c.requires, c.if-k-eq1.false, c.if-k-eq2.false, c.if-k-eq3.false))
