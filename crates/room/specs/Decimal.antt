-- Decimal numbers.
-- Assumes nothing.
use Rattle.std.specs.Prelude.{cond, List, [], ◌∷◌, ◌++◌, ℕ, zero, suc, ◌+◌, ◌/◌, ◌%◌, ltb}

-- the decimal digits of n, of which there are at most k: those of a tenth of it where it has more than one, and the last one
unfoldable pub digits : ℕ → ℕ → List ℕ
digits zero n = []
digits (suc k) n = cond (ltb n 10) [] (digits k (n / 10)) ++ (0x30 + n % 10) ∷ []

-- a decimal number: a word has at most 20 digits
unfoldable pub decimal : ℕ → List ℕ
decimal n = digits 20 n
