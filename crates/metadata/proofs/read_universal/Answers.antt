-- The content ends in the part, and its data in the content.
-- Assumes nothing.
use Rattle.cursor.specs.Rows.{meta_frame}
use Rattle.cursor.specs.Told.{number_told}
use Rattle.machine.proofs.Laws.{was}
use Rattle.cursor.proofs.Leaves.{number-inside, block_inside}
use native.Mathlib.Omega.{arith}
use Rattle.metadata.specs.Metadata.{universal}
use Rattle.metadata.proofs.Filling.{filling}
use Rattle.metadata.proofs.Gives.{yes}
use Rattle.metadata.proofs.read_universal.Goals as goal

pub on-after-requires : goal.on-after-requires
on-after-requires c = omega (arith, block_inside meta_frame _ _ _ _ (was number_told (c.block.ensures meta_frame) c.in_ok-size.was))

pub number-requires : goal.number-requires
number-requires c = omega (arith, c.on-after.ensures, block_inside meta_frame _ _ _ _ (was number_told (c.block.ensures meta_frame) c.in_ok-size.was))

pub overflow_sub-stop : goal.overflow_sub-stop
overflow_sub-stop c = omega (arith, number-inside meta_frame _ _ _ _ (was number_told (c.number.ensures meta_frame) c.in_ok-format.was))

pub returns : goal.returns
unfolding universal
returns c = λ ws t. yes
    (grind (arith, filling, number-inside meta_frame _ _ _ _ (was number_told (c.number.ensures meta_frame) c.in_ok-format.was)))
    (omega (arith, c.requires, c.if-limits-rows.false))
