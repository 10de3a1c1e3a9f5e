-- `read_number` reads a field's number. The invariant: v is what the digits before this one say, in 01's spelling.
-- Assumes nothing.
use Rattle.editions.proofs.Numbers.{Digit}
use Rattle.editions.proofs.read_number.Given as goal

abbrev pub invariant-loop-b : goal.invariant-loop-b
invariant-loop-b l = Digit l.field l.v l.b-index
