-- `close` ends a text: the rest of the buffer is 0.
-- Assumes nothing.
use native.Mathlib.Omega.{arith}
use Rattle.lines.proofs.Ending.{close_all, close_none}
use Rattle.lines.proofs.close.Goals as goal

pub returns-then-text-end : goal.returns-then-text-end
returns-then-text-end c = λ o w p. close_none p (omega (arith, c.well_formed)) _ c.if-text-end.true (c.fill.ensures.after (λ _ e. e))

pub returns : goal.returns
returns c = λ o w p. close_all p (omega (arith, c.well_formed)) _ (omega (arith, c.if-text-end.false)) c.fill_from.ensures
