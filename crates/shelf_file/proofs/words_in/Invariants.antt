-- The first i words are read.
-- Assumes nothing.
use Rattle.std.proofs.Common.{◌≡◌, ℕ, ◌*◌, ◌<◌, length, get_or}
use Rattle.shelf_file.specs.Layout.{word_at}
use Rattle.shelf_file.proofs.words_in.Given as goal

abbrev pub invariant-loop-i : goal.invariant-loop-i
invariant-loop-i l = (length l.words ≡ 64) × ((k : ℕ) → k < l.i → get_or l.words k 0 ≡ word_at l.file (k * 8))
