-- The refusals of a conversion are its own.
-- Assumes nothing.
use mathlib.Core.List.{List, [], ◌∷◌}
use Prim.Native.Nat.{ℕ, zero, suc, ◌+◌}
use Rattle.room.specs.Room.{Result, good, bad}
use Rattle.cursor.specs.Refusals.{Among}
use Rattle.utf16.specs.Unicode.{Char, char, none, before, next, chars, written, converted, to_utf8, to_utf16, refusals}

before-listed : (c : ℕ) (r : Result (List ℕ)) → Among refusals r → Among refusals (before c r)
unfolding before
before-listed c (good cs) k = tt
before-listed c (bad n p) k = k

next-listed : (at : ℕ) (x : Char) (rest : ℕ → Result (List ℕ)) → ((n : ℕ) → Among refusals (rest n)) → Among refusals (next at x rest)
unfolding next
next-listed at none rest k = tt
next-listed at (char c n) rest k = before-listed c (rest n) (k n)

chars-listed : (first : List ℕ → Char) (skip at : ℕ) (s : List ℕ) → Among refusals (chars first skip at s)
unfolding chars
chars-listed first skip at [] = tt
chars-listed first zero at (b ∷ s) = next-listed at (first (b ∷ s)) _ (λ n. chars-listed first _ (at + 1) s)
chars-listed first (suc skip) at (b ∷ s) = chars-listed first skip (at + 1) s

written_listed : (put : ℕ → List ℕ) (change : List ℕ → List ℕ) (r : Result (List ℕ)) → Among refusals r → Among refusals (written put change r)
unfolding written
written_listed put change (good cs) k = tt
written_listed put change (bad n p) k = k

pub utf8-listed : (units : List ℕ) → Among refusals (to_utf8 units)
unfolding to_utf8
utf8-listed units = written_listed _ _ _ (chars-listed _ 0 0 units)

pub utf16-listed : (text : List ℕ) → Among refusals (to_utf16 text)
unfolding to_utf16 converted
utf16-listed text = written_listed _ _ _ (chars-listed _ 0 0 text)
