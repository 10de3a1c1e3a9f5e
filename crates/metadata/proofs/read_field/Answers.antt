-- A custom name ends in the part.
-- Assumes nothing.
use Rattle.cursor.specs.Rows.{meta_frame}
use Rattle.cursor.specs.Told.{number_told}
use Rattle.machine.proofs.Laws.{was}
use Rattle.cursor.proofs.Leaves.{block_inside}
use native.Mathlib.Omega.{arith}
use Rattle.metadata.proofs.read_field.Goals as goal

pub on-requires : goal.on-requires
on-requires c = omega (arith, block_inside meta_frame _ _ _ _ (was number_told (c.block.ensures meta_frame) c.in_ok-size.was))
