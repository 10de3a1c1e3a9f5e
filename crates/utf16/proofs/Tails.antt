-- The ways through the code that reads a character of UTF-8 at a place.
-- Assumes nothing.
use mathlib.Core.Path.{◌≡◌, refl, sym, ap, ap₂, ◌∙◌}
use mathlib.Core.List.{List, [], ◌∷◌}
use Prim.Native.Nat.{ℕ, suc, ◌+◌, ◌-◌, ◌*◌, ◌≤◌, ◌<◌}
use native.Mathlib.Omega.{arith}
use lib.ListN.{length, get_or, drop, length-drop}
use Rattle.utf16.specs.Unicode.{char, none, tails, first8}
use Rattle.utf16.proofs.Sixteen.{Scalar}
use Rattle.utf16.proofs.Eight.{lead-one, lead-tail, lead-two, lead-three, lead-four, lead-none, tails-on, tails-early, tails-late, tails-cut, tails-is, tails-short, tails-surrogate, tails-above}
use Rattle.utf16.proofs.Ways.{byte_at}

-- what the bytes that are left can give
pub record Small (left v : ℕ) : Type 0 where
  pub few : left ≤ 3
  pub three : 3 ≤ left → v < 64
  pub two : 2 ≤ left → v < 4096
  pub one : 1 ≤ left → v < 262144
  pub none : v < 16777216

-- what is left of the definition is the whole
pub record Tailing (s : List ℕ) (from count lead size low at left v : ℕ) : Type 0 where
  pub within : at ≤ length s
  pub small : Small left v
  pub same : tails count lead size low (drop from s) ≡ tails left v size low (drop at s)

pub tails-start : (s : List ℕ) {from count lead size low : ℕ} → count ≤ 3 → lead < 64 → from ≤ length s → Tailing s from count lead size low from count lead
tails-start s a b c = record { within = c; small = record { few = a; three = λ l. b; two = λ l. omega arith; one = λ l. omega arith; none = omega arith }; same = refl }

small-next : {left v x : ℕ} → 0 < left → x < 64 → Small left v → Small (left - 1) (v * 64 + x)
small-next l h k = let f = k.few in record {
  few = omega arith;
  three = λ m. absurd (omega arith);
  two = λ m. let z = k.three (omega arith) in omega arith;
  one = λ m. let z = k.two (omega arith) in omega arith;
  none = let z = k.one (omega arith) in omega arith;
}

module _ {s : List ℕ} {from count lead size low at left v : ℕ} (k : Tailing s from count lead size low at left v) where
  pub tails-none : 0 < left → length s ≤ at → none ≡ tails count lead size low (drop from s)
  tails-none l m = let z = length-drop at s in let e : left ≡ suc (left - 1) = omega arith in sym
      (k.same ∙ ap (λ (n : ℕ). tails n v size low (drop at s)) e ∙ tails-cut size low (left - 1) v (drop at s) (omega arith))

  module _ (l : 0 < left) (m : at < length s) {b : ℕ} (is : b ≡ get_or s at 0) where
    byte_next : tails count lead size low (drop from s) ≡ tails (suc (left - 1)) v size low (b ∷ drop (at + 1) s)
    byte_next = let e : left ≡ suc (left - 1) = omega arith in k.same ∙ ap₂ (λ (n : ℕ) (t : List ℕ). tails n v size low t) e
        (byte_at s at m ∙ ap (λ (x : ℕ). x ∷ drop (at + 1) s) (sym is))

    pub tails-low : b < 0x80 → none ≡ tails count lead size low (drop from s)
    tails-low h = sym (byte_next ∙ tails-early size low (left - 1) v b _ h)

    pub tails-high : 0xC0 ≤ b → none ≡ tails count lead size low (drop from s)
    tails-high h = sym (byte_next ∙ tails-late size low (left - 1) v b _ h)

    pub tails-next : 0x80 ≤ b → b < 0xC0 → Tailing s from count lead size low (at + 1) (left - 1) (v * 64 + (b - 0x80))
    tails-next h i = record { within = omega arith; small = small-next l (omega arith) k.small; same = byte_next ∙ tails-on size low (left - 1) v b _ h i }

  module _ (l : left ≤ 0) where
    all_read : tails count lead size low (drop from s) ≡ tails 0 v size low (drop at s)
    all_read = let e : left ≡ 0 = omega arith in k.same ∙ ap (λ (n : ℕ). tails n v size low (drop at s)) e

    pub tails-under : v < low → none ≡ tails count lead size low (drop from s)
    tails-under h = sym (all_read ∙ tails-short size low v _ h)

    module _ (m : low ≤ v) where
      pub tails-one : Scalar v → char v size ≡ tails count lead size low (drop from s)
      tails-one g = sym (all_read ∙ tails-is size low v _ m g)

      pub tails-lone : 0xD800 ≤ v → v < 0xE000 → none ≡ tails count lead size low (drop from s)
      tails-lone h i = sym (all_read ∙ tails-surrogate size low v _ m h i)

      pub tails-over : 0x110000 ≤ v → none ≡ tails count lead size low (drop from s)
      tails-over h = sym (all_read ∙ tails-above size low v _ m h)

-- ---- the first byte

nothing : (s : List ℕ) → length s ≡ 0 → none ≡ first8 s
unfolding first8
nothing [] e = refl
nothing (b ∷ s) e = absurd (omega arith)

module _ (s : List ℕ) (at : ℕ) where
  pub no_byte : length s ≤ at → none ≡ first8 (drop at s)
  no_byte l = let z = length-drop at s in nothing (drop at s) (omega arith)

  module _ (l : at < length s) {b : ℕ} (is : b ≡ get_or s at 0) where
    led : first8 (drop at s) ≡ first8 (b ∷ drop (at + 1) s)
    led = ap first8 (byte_at s at l ∙ ap (λ (x : ℕ). x ∷ drop (at + 1) s) (sym is))

    pub one_byte : b < 0x80 → char b 1 ≡ first8 (drop at s)
    one_byte h = sym (led ∙ lead-one b _ h)

    pub tail-byte : 0x80 ≤ b → b < 0xC0 → none ≡ first8 (drop at s)
    tail-byte h i = sym (led ∙ lead-tail b _ h i)

    pub two_bytes : 0xC0 ≤ b → b < 0xE0 → tails 1 (b - 0xC0) 2 0x80 (drop (at + 1) s) ≡ first8 (drop at s)
    two_bytes h i = sym (led ∙ lead-two b _ h i)

    pub three_bytes : 0xE0 ≤ b → b < 0xF0 → tails 2 (b - 0xE0) 3 0x800 (drop (at + 1) s) ≡ first8 (drop at s)
    three_bytes h i = sym (led ∙ lead-three b _ h i)

    pub four_bytes : 0xF0 ≤ b → b < 0xF8 → tails 3 (b - 0xF0) 4 0x10000 (drop (at + 1) s) ≡ first8 (drop at s)
    four_bytes h i = sym (led ∙ lead-four b _ h i)

    pub wrong_byte : 0xF8 ≤ b → none ≡ first8 (drop at s)
    wrong_byte h = sym (led ∙ lead-none b _ h)
