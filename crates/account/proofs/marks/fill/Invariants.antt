-- `fill` marks a span. The invariant: the places from `from` up to `at` are marked, the others as they were.
-- Assumes nothing.
use Prim.Native.Nat.{◌≤◌, max}
use Rattle.account.proofs.Marking.{Filling}
use Rattle.account.proofs.marks.fill.Given as goal

abbrev pub invariant-loop-at : goal.invariant-loop-at
invariant-loop-at l = (l.at ≤ max l.from l.end) × Filling l.initial.marks l.from l.kind l.at l.marks
