-- The digits behind those of `rest` are stored.
-- Assumes nothing.
use Rattle.room.proofs.Decimal.{Stored}
use Rattle.room.proofs.store_digits.Given as goal

abbrev pub invariant-loop-at : goal.invariant-loop-at
invariant-loop-at l = Stored l.initial.out l.from l.n l.out l.at l.rest
