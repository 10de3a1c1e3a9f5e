-- Bytes and units that stand for themselves.
-- Assumes nothing.
use Rattle.std.specs.Prelude.{◌≡◌, Bool, true, ◌&&◌, List, [], ◌∷◌, ℕ, zero, suc, ◌+◌, ◌-◌, ◌*◌, ◌≤◌, ◌<◌, eqb, length, get_or}
use Rattle.room.specs.Parts.{part}
use Rattle.text.specs.Text.{plain, escaped_part}

-- the bytes of a file from `from` up to `at` stand for themselves
pub record PlainUpTo (f : List ℕ) (from at : ℕ) : Type 0 where
  pub within : from ≤ at
  pub same : escaped_part f from (at - from) ≡ part f from (at - from)

-- the unit at a place is a byte that stands for itself
unfoldable pub letter : List ℕ → ℕ → Bool
letter d at = eqb (get_or d at 0) 0 && plain (get_or d (at + 1) 0)

-- so are n units from `from` on
pub record Letters (d : List ℕ) (from n : ℕ) : Type 0 where
  pub inside : from + 2 * n ≤ length d
  pub each : (k : ℕ) → k < n → letter d (from + 2 * k) ≡ true

-- the low bytes of n units from `from` on
unfoldable pub lows : List ℕ → (from n : ℕ) → List ℕ
lows d from zero = []
lows d from (suc n) = get_or d (from + 1) 0 ∷ lows d (from + 2) n
