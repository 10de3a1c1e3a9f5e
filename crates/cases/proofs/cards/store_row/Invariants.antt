-- The cards before the next are stored.
-- Assumes nothing.
use Rattle.std.proofs.Common.{◌≡◌, length, take}
use Rattle.shelf.specs.Words.{words_with}
use Rattle.cases.proofs.cards.store_row.Given as goal

abbrev pub invariant-loop-i : goal.invariant-loop-i
invariant-loop-i l = (length l.words ≡ length l.initial.words) × (l.words ≡ words_with l.initial.words (take l.i l.row))
