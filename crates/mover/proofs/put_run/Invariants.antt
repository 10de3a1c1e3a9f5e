-- `put_run` puts the item lines of a row. The invariant: of those lines, the ones from the next item line on are still to be put; what stands behind them is the same.
-- Assumes nothing.
use Rattle.mover.specs.Told.{left_of}
use Rattle.mover.proofs.Writing.{Running}
use Rattle.mover.proofs.put_run.Given as goal

abbrev pub invariant-loop-item : goal.invariant-loop-item
invariant-loop-item l = Running l.initial.out l.out l.to l.next l.sheet l.row l.initial.item l.item

abbrev pub decreases-loop-item : goal.decreases-loop-item
decreases-loop-item l = left_of l.sheet l.item
