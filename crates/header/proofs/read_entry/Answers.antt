-- The language ends in the part.
-- Assumes nothing.
use native.Mathlib.Omega.{arith}
use Rattle.machine.proofs.Laws.{was}
use Rattle.cursor.specs.Rows.{file_frame}
use Rattle.cursor.specs.Told.{number_told}
use Rattle.cursor.proofs.Leaves.{block_inside}
use Rattle.header.proofs.read_entry.Goals as goal

pub on-requires : goal.on-requires
on-requires c = omega (arith, c.requires, block_inside file_frame _ _ _ _ (was number_told (c.block.ensures file_frame) c.in_ok-size.was))
