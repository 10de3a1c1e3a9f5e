-- None of the cards up to card i is free.
-- Assumes nothing.
use Rattle.shelf.specs.Shelf.{is_free}
use Rattle.shelf.proofs.Search.{Looking}
use Rattle.shelf.proofs.find_free.Given as goal

abbrev pub invariant-loop-i : goal.invariant-loop-i
invariant-loop-i l = Looking is_free l.cards 0 l.i
