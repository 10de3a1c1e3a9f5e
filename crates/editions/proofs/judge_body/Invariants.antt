-- `judge_body` judges the lines behind the first. The invariant: what is left of them is the whole; there are no more nodes, items and lines than bytes.
-- Assumes nothing.
use Prim.Native.Nat.{◌-◌}
use lib.ListN.{length}
use Rattle.editions.proofs.Judging.{Judging}
use Rattle.editions.proofs.judge_body.Given as goal

abbrev pub invariant-loop-at : goal.invariant-loop-at
invariant-loop-at l = Judging l.sheet l.second l.from l.t l.at l.number

abbrev pub decreases-loop-at : goal.decreases-loop-at
decreases-loop-at l = length l.sheet - l.at
