-- The cards before the next are those of the words.
-- Assumes nothing.
use Rattle.std.proofs.Common.{◌≡◌, ℕ, ◌<◌, length, get_or}
use Rattle.shelf.specs.Shelf.{fresh_card}
use Rattle.shelf.specs.Words.{cards_of}
use Rattle.cases.proofs.cards.load_row.Given as goal

abbrev pub invariant-loop-i : goal.invariant-loop-i
invariant-loop-i l = (length l.row ≡ 20) × ((k : ℕ) → k < l.i → get_or l.row k fresh_card ≡ get_or (cards_of l.words) k fresh_card)
