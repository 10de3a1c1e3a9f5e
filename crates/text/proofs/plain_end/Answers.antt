-- `plain_end` passes bytes that stand for themselves. The invariant: those up to `at` do.
-- Assumes nothing.
use mathlib.Core.Path.{sym, ◌∙◌}
use Rattle.text.proofs.Escapes.{plain-none, plain-one, plain-join}
use native.Mathlib.Omega.{arith}
use Rattle.text.proofs.plain_end.Goals as goal

pub loop-at-init : goal.loop-at-init
loop-at-init c = (plain-none _ _, omega arith)

pub loop-at-preserved : goal.loop-at-preserved
loop-at-preserved c = (plain-join _ c.loop-at.invariant.0 (plain-one _ _ (omega arith) (sym c.is_plain.ensures ∙ c.if-not-is_plain.false)), omega arith)
