-- The first i cards are read.
-- Assumes nothing.
use mathlib.Core.Path.{◌≡◌}
use Rattle.shelf.specs.Words.{cards_of}
use Rattle.shelf.specs.Rows.{laid}
use Rattle.shelf.proofs.read_cards.Given as goal

abbrev pub invariant-loop-i : goal.invariant-loop-i
invariant-loop-i l = l.cards ≡ laid l.i (cards_of l.words) l.initial.cards
