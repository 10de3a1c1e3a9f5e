-- `put_items` puts rows. The invariant: of the whole, the rows from row k on are still to be put.
-- Assumes nothing.
use Rattle.title_items.proofs.Putting.{rows_on, rows_end}
use Rattle.room.proofs.Counting.{going_start, going_on, going_end}
use mathlib.Core.Path.{refl}
use native.Mathlib.Omega.{arith}
use Rattle.title_items.proofs.put_items.Goals as goal

pub loop-k-init : goal.loop-k-init
loop-k-init c = (omega arith, omega arith, going_start _ (omega arith) refl)

pub put_item-next-requires : goal.put_item-next-requires
put_item-next-requires c = (omega arith, omega (arith, c.requires.1.0), c.requires.1.1 _ c.loop-k-test.true)

pub loop-k-preserved : goal.loop-k-preserved
loop-k-preserved c = (omega arith, omega arith, going_on (rows_on _ _ _ _ _ _ c.loop-k-test.true) c.loop-k.invariant.2 c.put_item-next.ensures)

pub returns : goal.returns
returns c = going_end (rows_end _ _ _ _ _ _ c.loop-k-test.false) c.loop-k.invariant.2
