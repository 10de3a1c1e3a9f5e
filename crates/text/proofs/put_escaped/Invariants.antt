-- `put_escaped` puts the escaped bytes of a part. The invariant: of the whole, the bytes from `at` on are still to be put.
-- Assumes nothing.
use Prim.Native.Nat.{◌-◌, ◌≤◌}
use lib.ListN.{length}
use Rattle.text.specs.Text.{escaped_part}
use Rattle.room.proofs.Counting.{Going}
use Rattle.text.proofs.put_escaped.Given as goal

abbrev pub invariant-loop-at : goal.invariant-loop-at
invariant-loop-at l = (l.at ≤ l.end) × (l.end ≤ length l.file) × Going l.initial.out l.out l.to l.next
    (escaped_part l.file l.from l.size) (escaped_part l.file l.at (l.end - l.at))

abbrev pub decreases-loop-at : goal.decreases-loop-at
decreases-loop-at l = l.end - l.at
