-- `is_text` judges a text. The invariant: what is left of it is the whole.
-- Assumes nothing.
use Prim.Native.Nat.{◌-◌}
use Rattle.editions.proofs.Texts.{Spelling}
use Rattle.editions.proofs.is_text.Given as goal

abbrev pub invariant-loop-i : goal.invariant-loop-i
invariant-loop-i l = Spelling l.line l.from l.end l.two l.i

abbrev pub decreases-loop-i : goal.decreases-loop-i
decreases-loop-i l = l.end - l.i
