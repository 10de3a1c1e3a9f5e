-- A node ends in the file.
-- Assumes nothing.
use Rattle.cursor.specs.Rows.{node_frame}
use Rattle.cursor.specs.Told.{number_told}
use Rattle.machine.proofs.Laws.{was}
use Rattle.cursor.proofs.Leaves.{number-inside}
use native.Mathlib.Omega.{arith}
use Rattle.node.proofs.read_head.Goals as goal

pub of-stop-requires : goal.of-stop-requires
of-stop-requires c = omega (arith, c.requires, number-inside node_frame _ _ _ _ (was number_told (c.number.ensures node_frame) c.in_ok-length.was))
