-- `letters` counts units that stand for themselves. The invariant: n of them do.
-- Assumes nothing.
use mathlib.Core.Path.{sym, ◌∙◌}
use Rattle.text.proofs.LowBytes.{letters_none, letters_more}
use native.Mathlib.Omega.{arith}
use Rattle.text.proofs.letters.Goals as goal

pub loop-n-init : goal.loop-n-init
loop-n-init c = letters_none _ _ (omega arith)

pub loop-n-preserved : goal.loop-n-preserved
loop-n-preserved c = letters_more _ _ _ c.loop-n.invariant (omega arith) (sym c.is_letter.ensures ∙ c.if-not-is_letter.false)
