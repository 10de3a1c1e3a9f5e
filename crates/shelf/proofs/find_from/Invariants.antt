-- None of the cards from `from` up to card i is it.
-- Assumes nothing.
use Rattle.shelf.specs.Shelf.{is_for}
use Rattle.shelf.proofs.Search.{Looking}
use Rattle.shelf.proofs.find_from.Given as goal

abbrev pub invariant-loop-i : goal.invariant-loop-i
invariant-loop-i l = Looking (is_for l.label) l.cards l.from l.i
