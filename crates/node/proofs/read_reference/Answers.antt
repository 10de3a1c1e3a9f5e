-- The reference ends in the node, and reference 1 needs no more than its number.
-- Assumes nothing.
use Rattle.cursor.specs.Rows.{reference_frame}
use Rattle.cursor.specs.Told.{number_told}
use Rattle.machine.proofs.Laws.{was}
use Rattle.cursor.proofs.Leaves.{number-inside}
use Rattle.node.proofs.Ways.{reference-inline}
use native.Mathlib.Omega.{arith}
use Rattle.node.proofs.read_reference.Goals as goal

pub overflow_sub-extent : goal.overflow_sub-extent
overflow_sub-extent c = omega (arith, number-inside reference_frame _ _ _ _ (was number_told (c.number.ensures reference_frame) c.in_ok-kind.was))

pub returns-then-kind-eq1 : goal.returns-then-kind-eq1
returns-then-kind-eq1 c = reference-inline _ _ _ _ _ _ (was number_told (c.number.ensures reference_frame) c.in_ok-kind.was) c.if-kind-eq1.true
