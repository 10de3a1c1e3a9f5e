-- `body_size` gives the extent of a file node.
-- Assumes nothing.
use mathlib.Core.Path.{refl}
use borrow.Author.Tests.{eq-eqb, ne_eqb}
use Rattle.title_nodes.proofs.body_size.Goals as goal

pub returns-then-row-eq0 : goal.returns-then-row-eq0
returns-then-row-eq0 c = rw (eq-eqb _ 0 c.if-row-eq0.true) refl

pub returns-else-row-eq0 : goal.returns-else-row-eq0
returns-else-row-eq0 c = rw (ne_eqb _ 0 c.if-row-eq0.false) refl
