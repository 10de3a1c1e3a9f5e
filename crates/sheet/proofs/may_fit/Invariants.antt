-- `may_fit` sums up what the lines have at least. The invariant: what is left is the room less the rows before i.
-- Assumes nothing.
use mathlib.Core.Path.{◌≡◌}
use Prim.Native.Nat.{◌+◌, ◌≤◌}
use Rattle.sheet.proofs.Least.{least}
use Rattle.sheet.proofs.may_fit.Given as goal

abbrev pub invariant-loop-i : goal.invariant-loop-i
invariant-loop-i l = (l.i ≤ l.end) × (l.to + least l.items l.from l.end + l.left ≡ l.size + least l.items l.i l.end)
