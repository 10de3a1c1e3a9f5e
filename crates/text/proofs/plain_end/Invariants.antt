-- `plain_end` passes bytes that stand for themselves. The invariant: those up to `at` do.
-- Assumes nothing.
use Prim.Native.Nat.{◌≤◌}
use Rattle.text.specs.Inside.{PlainUpTo}
use Rattle.text.proofs.plain_end.Given as goal

abbrev pub invariant-loop-at : goal.invariant-loop-at
invariant-loop-at l = PlainUpTo l.file l.from l.at × (l.at ≤ l.end)
