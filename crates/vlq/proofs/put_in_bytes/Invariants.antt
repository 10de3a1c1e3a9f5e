-- `put_in_bytes` puts n byte by byte. The invariant: of its bytes the last `left` are still to be put.
-- Assumes nothing.
use Prim.Native.Nat.{◌≤◌}
use Rattle.vlq.specs.Vlq.{in_bytes}
use Rattle.room.proofs.Counting.{Going}
use Rattle.vlq.proofs.put_in_bytes.Given as goal

abbrev pub invariant-loop-left : goal.invariant-loop-left
invariant-loop-left l = (l.left ≤ 4) × Going l.initial.out l.out l.to l.next (in_bytes l.k l.n) (in_bytes l.left l.n)

abbrev pub decreases-loop-left : goal.decreases-loop-left
decreases-loop-left l = l.left
