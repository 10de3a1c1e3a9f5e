-- `put_hexes` puts bytes that do not stand for themselves. The invariant: those up to `at` are put.
-- Assumes nothing.
use Prim.Native.Nat.{◌-◌, ◌≤◌}
use Rattle.text.specs.Text.{escaped_part}
use Rattle.room.specs.Counts.{Counts}
use Rattle.text.proofs.put_hexes.Given as goal

abbrev pub invariant-loop-at : goal.invariant-loop-at
invariant-loop-at l = (l.from ≤ l.at) × (l.at ≤ l.end) × Counts l.initial.out l.out l.to (escaped_part l.file l.from (l.at - l.from)) l.next
