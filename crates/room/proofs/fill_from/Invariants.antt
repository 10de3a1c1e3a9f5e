-- The elements of the part before `x` are the value, the others as they were.
-- Assumes nothing.
use Rattle.std.proofs.Common.{◌≡◌, replicate}
use lib.Seq.{paste}
use Rattle.room.proofs.fill_from.Given as goal

abbrev pub invariant-loop-x : goal.invariant-loop-x
invariant-loop-x g l = l.x-items ≡ paste l.initial.x-items 0 (replicate l.x-index l.value) l.x-index
