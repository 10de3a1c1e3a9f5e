-- `is_version` knows the three versions.
-- Assumes nothing.
use mathlib.Core.Path.{◌∙◌}
use Rattle.std.proofs.lemmas.Bool.{false≢true}
use Rattle.editions.proofs.First.{version-one, version-next, version-last}
use Rattle.editions.proofs.is_version.Goals as goal
use Rattle.editions.proofs.is_version.Goals.{then-eq, else-eq}

pub returns-then-eq-2 : goal.returns-then-eq-2
returns-then-eq-2 c = elim c.if-eq.branch [
  | then-eq w ↦ c.if-eq-2.true ∙ version-one _ c.eq.ensures c.as_slice.ensures w.if-eq.true
  | else-eq w ↦ c.if-eq-2.true ∙ version-next _ c.eq.ensures c.as_slice.ensures w.if-eq.false w.eq-else-eq.ensures w.as_slice-else-eq.ensures (cc)
]

pub returns-else-eq-2 : goal.returns-else-eq-2
returns-else-eq-2 c = elim c.if-eq.branch [
  | then-eq w ↦ absurd (false≢true (cc))
  | else-eq w ↦ version-last _ c.eq.ensures c.as_slice.ensures w.if-eq.false w.eq-else-eq.ensures w.as_slice-else-eq.ensures (cc) c.eq-else-eq-2.ensures c.as_slice-else-eq-2.ensures
]
