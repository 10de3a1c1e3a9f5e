-- Two files that agree on some bytes that lie together.
-- Assumes nothing.
use mathlib.Core.Path.{◌≡◌}
use mathlib.Core.List.{List}
use Prim.Native.Nat.{ℕ, ◌+◌, ◌≤◌, ◌<◌}
use native.Mathlib.Decide.{dec_lt}
use native.Mathlib.Omega.{arith}
use lib.ListN.{get_or}

-- the files agree from a place up to another
abbrev pub AgreeUpTo : List ℕ → List ℕ → (from end : ℕ) → Type 0
AgreeUpTo f g from end = (k : ℕ) → from ≤ k → k < end → get_or f k 0 ≡ get_or g k 0

-- the files agree on `count` bytes from a place on
abbrev pub Agree : List ℕ → List ℕ → (from count : ℕ) → Type 0
Agree f g from count = AgreeUpTo f g from (from + count)

-- on bytes one after the other
pub agree_on : (f g : List ℕ) {p q r : ℕ} → AgreeUpTo f g p q → AgreeUpTo f g q r → AgreeUpTo f g p r
agree_on f g {q = q} h i k lo hi = elim (dec_lt k q) [
  | yes l ↦ h k lo l
  | no n ↦ i k (omega arith) hi
]
