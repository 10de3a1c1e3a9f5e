-- None of the cards before card i is at fault.
-- Assumes nothing.
use Rattle.shelf.proofs.Search.{Sifting}
use Rattle.shelf.proofs.is_faulty.Given as goal

abbrev pub invariant-loop-i : goal.invariant-loop-i
invariant-loop-i l = Sifting l.part l.cards l.i
