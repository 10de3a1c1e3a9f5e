-- `read_entries` counts unpackers end to end. The invariant: what is left of them is the whole.
-- Assumes nothing.
use mathlib.Core.Path.{◌≡◌}
use Prim.Native.Nat.{◌-◌}
use Rattle.node.proofs.Ways.{Going}
use Rattle.node.proofs.read_entries.Given as goal

abbrev pub invariant-loop-at : goal.invariant-loop-at
invariant-loop-at l = (l.next.at.0 ≡ l.at) × Going l.file l.stop l.initial.at l.at l.count

abbrev pub decreases-loop-at : goal.decreases-loop-at
decreases-loop-at l = l.stop - l.at
