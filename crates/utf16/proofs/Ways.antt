-- The ways through the code that reads a character at a place.
-- Assumes nothing.
use mathlib.Core.Path.{◌≡◌, refl, sym, ap, ◌∙◌}
use mathlib.Core.List.{List, [], ◌∷◌}
use Prim.Native.Nat.{ℕ, ◌+◌, ◌-◌, ◌*◌, ◌≤◌, ◌<◌}
use native.Mathlib.Numerals.{add-one}
use native.Mathlib.Omega.{arith}
use lib.ListN.{length, get_or, drop, length-drop}
use lib.Seq.{drop-cons}
use Rattle.utf16.specs.Unicode.{char, none, units, paired, of_units, first16}
use Rattle.utf16.proofs.Sixteen.{unit-low, unit-high, unit-pair, unit-lone, pair_is, pair_early, pair_late}

-- ---- bytes at a place

pub byte_at : (s : List ℕ) (at : ℕ) → at < length s → drop at s ≡ get_or s at 0 ∷ drop (at + 1) s
byte_at s at l = drop-cons s at 0 l ∙ rw (add-one at)

-- ---- UTF-16

few-units : (t : List ℕ) → length t < 2 → units t ≡ []
unfolding units
few-units [] l = refl
few-units (b ∷ []) l = refl
few-units (b ∷ c ∷ t) l = absurd (omega arith)

module _ (s : List ℕ) where
  no-unit : (at : ℕ) → length s - at < 2 → units (drop at s) ≡ []
  no-unit at l = few-units (drop at s) (simp length-drop l)

  unit-at : (at : ℕ) → 2 ≤ length s - at → {u : ℕ} → u ≡ get_or s at 0 * 256 + get_or s (at + 1) 0 → units (drop at s) ≡ u ∷ units (drop (at + 2) s)
  unfolding units
  unit-at at l {u} e =
      let k : at + 1 + 1 ≡ at + 2 = omega arith in
      rw (byte_at s at (omega arith), byte_at s (at + 1) (omega arith), k, e)

  module _ (at : ℕ) {left : ℕ} (is : left ≡ length s - at) where
    pub none_left : left < 2 → none ≡ first16 (drop at s)
    unfolding first16 of_units
    none_left l = rw (no-unit at (omega arith))

    module _ (l : 2 ≤ left) {u : ℕ} (e : u ≡ get_or s at 0 * 256 + get_or s (at + 1) 0) where
      first-is : first16 (drop at s) ≡ of_units (u ∷ units (drop (at + 2) s))
      unfolding first16
      first-is = ap of_units (unit-at at (omega arith) e)

      pub low-unit : u < 0xD800 → char u 2 ≡ first16 (drop at s)
      low-unit h = sym (first-is ∙ unit-low _ u h)

      pub high-unit : 0xE000 ≤ u → char u 2 ≡ first16 (drop at s)
      high-unit h = sym (first-is ∙ unit-high _ u h)

      pub lone_unit : 0xDC00 ≤ u → u < 0xE000 → none ≡ first16 (drop at s)
      lone_unit h m = sym (first-is ∙ unit-lone _ u h m)

      module _ (h : 0xD800 ≤ u) (m : u < 0xDC00) where
        pub lone_end : left < 4 → none ≡ first16 (drop at s)
        unfolding paired
        lone_end k = sym (first-is ∙ unit-pair _ u h m ∙ ap (paired u) (no-unit (at + 2) (omega arith)))

        module _ (k : 4 ≤ left) {v : ℕ} (f : v ≡ get_or s (at + 2) 0 * 256 + get_or s (at + 2 + 1) 0) where
          pair_at : first16 (drop at s) ≡ paired u (v ∷ units (drop (at + 2 + 2) s))
          pair_at = first-is ∙ unit-pair _ u h m ∙ ap (paired u) (unit-at (at + 2) (omega arith) f)

          pub early_unit : v < 0xDC00 → none ≡ first16 (drop at s)
          early_unit j = sym (pair_at ∙ pair_early _ u v j)

          pub late_unit : 0xE000 ≤ v → none ≡ first16 (drop at s)
          late_unit j = sym (pair_at ∙ pair_late _ u v j)

          pub both-units : 0xDC00 ≤ v → v < 0xE000 → char (0x10000 + (u - 0xD800) * 1024 + (v - 0xDC00)) 4 ≡ first16 (drop at s)
          both-units i j = sym (pair_at ∙ pair_is _ u v i j)
