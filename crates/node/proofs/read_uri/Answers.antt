-- The URI ends in the file.
-- Assumes nothing.
use Rattle.cursor.specs.Rows.{reference_frame}
use Rattle.cursor.specs.Told.{number_told}
use Rattle.machine.proofs.Laws.{was}
use Rattle.cursor.proofs.Leaves.{block_inside}
use native.Mathlib.Omega.{arith}
use Rattle.node.proofs.read_uri.Goals as goal

pub on-requires : goal.on-requires
on-requires c = omega (arith, c.requires, block_inside reference_frame _ _ _ _ (was number_told (c.block.ensures reference_frame) c.in_ok-size.was))
