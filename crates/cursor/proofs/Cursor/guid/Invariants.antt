use Rattle.cursor.proofs.Digits.{GuidReading}
use Prim.Native.Nat.{◌≤◌}
use Rattle.cursor.proofs.Cursor.guid.Given as goal

abbrev pub invariant-loop-left : goal.invariant-loop-left
invariant-loop-left l = GuidReading l.file l.stop l.first l.left l.at × (l.left ≤ 19)

abbrev pub decreases-loop-left : goal.decreases-loop-left
decreases-loop-left l = l.left
