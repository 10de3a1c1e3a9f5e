-- `put_run` puts the item lines of a row. The invariant: of those lines, the ones from the next item line on are still to be put; what stands behind them is the same.
-- Assumes nothing.
use mathlib.Core.Path.{refl}
use native.Mathlib.Omega.{arith}
use Rattle.room.proofs.Counting.{going_start}
use Rattle.mover.specs.Told.{Right}
use Rattle.editions.proofs.Places.{as_told}
use Rattle.mover.proofs.Writing.{run_none, run-over, run-less, run-turn}
use Rattle.mover.proofs.put_run.Goals as goal

pub loop-item-init : goal.loop-item-init
loop-item-init c = record { puts = going_start _ (omega arith) refl; past = refl; right = c.requires }

pub returns-in-None : goal.returns-in-None
returns-in-None c = let all = (run_none c.args.sheet.now c.args.row c.loop-item.invariant c.in-None.is) in record { puts = all.0; left = all.1 }

pub returns-then-k-row : goal.returns-then-k-row
returns-then-k-row c = let all = (run-over c.args.sheet.now c.args.row c.loop-item.invariant c.in-Some.is c.if-k-row.true) in record { puts = all.0; left = all.1 }

pub put_line-next-requires : goal.put_line-next-requires
put_line-next-requires c = (
  (as_told (Right c.args.sheet.now 0) c.loop-item.invariant.right c.in-Some.is).2,
  (as_told (Right c.args.sheet.now 0) c.loop-item.invariant.right c.in-Some.is).3,
)

pub overflow_add-end : goal.overflow_add-end
overflow_add-end c = omega (arith, (as_told (Right c.args.sheet.now 0) c.loop-item.invariant.right c.in-Some.is).3)

pub next_item-item-requires : goal.next_item-item-requires
next_item-item-requires c = (as_told (Right c.args.sheet.now 0) c.loop-item.invariant.right c.in-Some.is).5

pub loop-item-smaller : goal.loop-item-smaller
loop-item-smaller c = run-less c.args.sheet.now c.args.row c.loop-item.invariant c.in-Some.is c.next_item-item.result c.next_item-item.ensures

pub loop-item-preserved : goal.loop-item-preserved
loop-item-preserved c = run-turn c.args.sheet.now c.args.row c.loop-item.invariant c.in-Some.is c.if-k-row.false c.put_line-next.ensures c.next_item-item.result c.next_item-item.ensures
