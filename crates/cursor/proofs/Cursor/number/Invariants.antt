-- `Cursor::number` gives what `number` gives. The invariant: what is left of the definition is the whole, and the value is below 128 to the bytes read.
-- Assumes nothing.
use Prim.Native.Nat.{◌≤◌, ◌<◌, ◌-◌, ◌^◌}
use Rattle.cursor.proofs.Digits.{Reading}
use Rattle.refusals.specs.Reasons.{number_of}
use Rattle.cursor.proofs.Cursor.number.Given as goal

abbrev pub invariant-loop-left : goal.invariant-loop-left
invariant-loop-left l = Reading l.file (number_of l.past) l.stop l.first l.left l.value l.at × (l.left ≤ 4) × (l.value < 128 ^ (4 - l.left))

abbrev pub decreases-loop-left : goal.decreases-loop-left
decreases-loop-left l = l.left
