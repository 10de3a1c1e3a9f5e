-- `opening_of` is 16 bytes for version 2.00, and 8 for the others.
-- Assumes nothing.
use mathlib.Core.Path.{refl}
use borrow.Author.Tests.{eq-eqb, ne_eqb}
use Rattle.title_file.proofs.opening_of.Goals as goal

pub returns-then-version-eq200 : goal.returns-then-version-eq200
returns-then-version-eq200 c = rw (eq-eqb _ 200 c.if-version-eq200.true) refl

pub returns-else-version-eq200 : goal.returns-else-version-eq200
returns-else-version-eq200 c = rw (ne_eqb _ 200 c.if-version-eq200.false) refl
