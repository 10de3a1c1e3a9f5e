-- `read_metadata` gives what `metadata` gives.
-- Assumes nothing.
use Rattle.cursor.specs.Rows.{meta_frame}
use Rattle.cursor.specs.Told.{number_told}
use Rattle.machine.proofs.Laws.{was}
use Rattle.cursor.proofs.Leaves.{block_inside}
use Rattle.metadata.proofs.Gives.{along}
use Rattle.metadata.proofs.Ways.{metadata-items}
use native.Mathlib.Omega.{arith}
use Rattle.metadata.proofs.read_metadata.Goals as goal

pub on-after-requires : goal.on-after-requires
on-after-requires c = omega (arith, block_inside meta_frame _ _ _ _ (was number_told (c.block.ensures meta_frame) c.in_ok-size.was))

pub read_items-requires : goal.read_items-requires
read_items-requires c = omega (arith, c.requires, c.on-after.ensures, block_inside meta_frame _ _ _ _ (was number_told (c.block.ensures meta_frame) c.in_ok-size.was))

pub returns : goal.returns
returns c = λ t. along (metadata-items _ _ _ _ _ _ _ (was number_told (c.block.ensures meta_frame) c.in_ok-size.was)
    c.on-after.ensures) (c.read_items.ensures t)
