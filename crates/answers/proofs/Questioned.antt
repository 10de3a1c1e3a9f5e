-- The answer to a question, by the file's length and the question.
-- Assumes nothing.
use mathlib.Core.Path.{◌≡◌}
use mathlib.Core.List.{List}
use Prim.Native.Nat.{ℕ, ◌≤◌, ◌<◌}
use lib.ListN.{length}
use borrow.Author.Tests.{lt-ltb, le-ltb}
use Rattle.lines.specs.Answer.{answer, too_long_line, closed}
use Rattle.answers.specs.Questions.{answer_to, answer_of}
use Rattle.answers.specs.declared.asked.Asked.{Asked}

module _ (word tail : List ℕ) (room : ℕ) (f : List ℕ) where
  pub long-is : (a : Asked) → 65536 < length f → closed room (answer 2 (too_long_line tail)) ≡ answer_of word tail room f a
  unfolding answer_of
  long-is a l = rw (lt-ltb 65536 (length f) l)

  pub short-is : (a : Asked) → length f ≤ 65536 → answer_to word tail room f a ≡ answer_of word tail room f a
  unfolding answer_of
  short-is a l = rw (le-ltb 65536 (length f) l)
