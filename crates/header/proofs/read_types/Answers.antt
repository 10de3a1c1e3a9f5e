-- The table ends in the file.
-- Assumes nothing.
use native.Mathlib.Omega.{arith}
use Rattle.machine.proofs.Laws.{was}
use Rattle.cursor.specs.Rows.{file_frame}
use Rattle.cursor.specs.Told.{number_told}
use Rattle.cursor.proofs.Leaves.{block_inside}
use Rattle.header.proofs.read_types.Goals as goal

pub on-requires : goal.on-requires
on-requires c = omega (arith, block_inside file_frame _ _ _ _ (was number_told (c.block.ensures file_frame) c.in_ok-size.was))

pub number-requires : goal.number-requires
number-requires c = omega (arith, c.on.ensures, block_inside file_frame _ _ _ _ (was number_told (c.block.ensures file_frame) c.in_ok-size.was))

pub read_entries-requires : goal.read_entries-requires
read_entries-requires c = omega (arith, c.on.ensures, block_inside file_frame _ _ _ _ (was number_told (c.block.ensures file_frame) c.in_ok-size.was))
