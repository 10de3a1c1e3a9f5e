-- Numbers and versions, as the bytes that are put one after the other.
-- Assumes nothing.
use mathlib.Core.Path.{◌≡◌, refl}
use mathlib.Core.List.{[], ◌∷◌, ◌++◌, append_assoc}
use Prim.Native.Nat.{ℕ, ◌/◌, ◌%◌}
use Rattle.room.specs.Decimal.{decimal}
use Rattle.text.specs.Text.{tabbed, number, version_text}

pub number_is : (n : ℕ) → (0x09 ∷ []) ++ decimal n ≡ number n
unfolding number tabbed
number_is n = refl

pub version-is : (v : ℕ) → decimal (v / 100) ++ (0x2E ∷ []) ++ decimal (v / 10 % 10) ++ decimal (v % 10) ≡ version_text v
unfolding version_text
version-is v = simp append_assoc
