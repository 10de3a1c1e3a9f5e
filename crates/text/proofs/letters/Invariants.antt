-- `letters` counts units that stand for themselves. The invariant: n of them do.
-- Assumes nothing.
use Rattle.text.specs.Inside.{Letters}
use Rattle.text.proofs.letters.Given as goal

abbrev pub invariant-loop-n : goal.invariant-loop-n
invariant-loop-n l = Letters l.units l.from l.n
