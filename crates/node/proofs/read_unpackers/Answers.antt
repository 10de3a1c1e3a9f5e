-- The unpackers end in the file; where there are none, no loop is run.
-- Assumes nothing.
use Rattle.cursor.specs.Rows.{unpack_frame}
use Rattle.cursor.specs.Told.{number_told}
use Rattle.machine.proofs.Laws.{was}
use Rattle.cursor.proofs.Leaves.{block_inside}
use Rattle.node.proofs.Ways.{unpackers-none}
use native.Mathlib.Omega.{arith}
use Rattle.node.proofs.read_unpackers.Goals as goal

pub on-after-requires : goal.on-after-requires
on-after-requires c = omega (arith, c.requires, block_inside unpack_frame _ _ _ _ (was number_told (c.block.ensures unpack_frame) c.in_ok-size.was))

pub read_entries-requires : goal.read_entries-requires
read_entries-requires c = omega (arith, c.requires, c.on-after.ensures, block_inside unpack_frame _ _ _ _ (was number_told (c.block.ensures unpack_frame) c.in_ok-size.was))

pub returns-then-size-eq0 : goal.returns-then-size-eq0
returns-then-size-eq0 c = unpackers-none _ _ _ _ (was number_told (c.block.ensures unpack_frame) c.in_ok-size.was) c.if-size-eq0.true
