-- `rows_asked` leaves rows out only before or behind the span.
-- Assumes nothing.
use mathlib.Core.Logic.{inl, inr}
use native.Mathlib.Omega.{arith}
use Rattle.targets.proofs.rows_asked.Goals as goal

pub returns-then-beyond-place : goal.returns-then-beyond-place
returns-then-beyond-place c = (omega arith, c.requires, λ l. inl c.if-beyond-place.true)

pub returns-then-place-first : goal.returns-then-place-first
returns-then-place-first c = (omega arith, c.requires, λ l. inr c.if-place-first.true)

pub returns : goal.returns
returns c = (c.requires, omega arith, λ l. absurd (omega arith))
