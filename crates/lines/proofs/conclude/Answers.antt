-- `conclude` answers what was put, or the refusal for want of room.
-- Assumes nothing.
use native.Mathlib.Omega.{arith}
use Rattle.lines.proofs.Ending.{gives_as, gives-room, fitted-room, fitted-over}
use Rattle.lines.proofs.conclude.Goals as goal

pub returns-then-text-end : goal.returns-then-text-end
returns-then-text-end c = λ o w p. gives_as (fitted-over p (omega (arith, c.well_formed)) _ _ c.if-text-end.true) (gives-room p.long c.refuse.ensures)

pub returns : goal.returns
returns c = λ o w p. gives_as (fitted-room p (omega (arith, c.well_formed)) _ _ (omega (arith, c.if-text-end.false))) (c.close.ensures o w p)
