-- No byte below 80h is high, and one from 80h on is.
-- Assumes nothing.
use Rattle.std.proofs.Common.{◌≡◌, ℕ, ◌≤◌, ◌<◌, List, length, get_or, Bool, true, false, not, refl, sym, arith, MatchBool, nat_le}
use Rattle.std.specs.Str.{IsAscii, IsNotAscii}
use Rattle.std.proofs.lemmas.List.{get_or_past}
use Rattle.std.proofs.lemmas.List.Recursion.{or_from_places, or_at}
use native.Mathlib.Decide.{dec_lt}
use borrow.Author.Tests.{le-leb, lt-leb}
use Rattle.spelling.specs.Spelling.{has_high}
use Rattle.spelling.proofs.has_high.Goals as goal

below : (xs : List ℕ) (i : ℕ) → 0x80 ≤ get_or xs i 0 → i < length xs
below xs i h = elim (dec_lt i (length xs)) [ yes y ↦ y | no n ↦ absurd (omega (arith, get_or_past xs i 0 (omega arith))) ]

high : (a : Bool) (xs : List ℕ) → MatchBool a (IsAscii xs) (IsNotAscii xs) → not a ≡ has_high xs
high true xs h = sym (or_from_places has_high (nat_le 0x80) refl (λ _ _. refl) xs 0 (λ i l. lt-leb 0x80 _ (h i)))
high false xs h = sym (or_at has_high (nat_le 0x80) refl (λ _ _. refl) xs h.0 0 (below xs h.0 h.1) (le-leb 0x80 _ h.1))

pub returns : goal.returns
returns c = high _ _ c.is_ascii.ensures.cases
