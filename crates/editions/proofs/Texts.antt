-- Text in 01's spelling, as the code goes through it.
-- Assumes nothing.
use mathlib.Core.Path.{◌≡◌, refl, sym, ap, ◌∙◌}
use mathlib.Core.Bool.{Bool, true, false, ◌&&◌}
use mathlib.Core.List.{List, [], ◌∷◌}
use Prim.Native.Nat.{ℕ, suc, ◌+◌, ◌*◌, ◌-◌, ◌/◌, ◌%◌, ◌≤◌, ◌<◌}
use native.Mathlib.Omega.{arith}
use native.Mathlib.Numerals.{add-one}
use lib.Dec.{eqb, leb, ltb}
use lib.ListN.{length, get_or}
use lib.Seq.{slice, slice-cons, slice_empty, length-slice}
use borrow.Author.Tests.{eq-eqb, ne_eqb, lt-ltb, le-ltb}
use Rattle.text.specs.Text.{hex_digits, hex_digit, plain, hexed, escaped}
use Rattle.editions.specs.Sheets.{same, nibble, is_escape, itself, is_text, is_name}
use Rattle.editions.specs.Reads.{NoField, NameIs}
use Rattle.editions.proofs.Places.{Next}
use Rattle.editions.proofs.Fields.{and-false, and-true, field_is, fails}

-- ---- a hex digit, and an escape

pub nibble-none : (x : ℕ) {v : ℕ} → v ≡ x → v < 0x30 → 0 ≡ nibble x
unfolding nibble
nibble-none x e h = let w : ltb x 0x61 ≡ true = lt-ltb x 0x61 (omega arith) in rw w (omega arith)

pub nibble-digit : (x : ℕ) {v : ℕ} → v ≡ x → v < 0x61 → v - 0x30 ≡ nibble x
unfolding nibble
nibble-digit x e h = let w : ltb x 0x61 ≡ true = lt-ltb x 0x61 (omega arith) in rw (w, e) refl

pub nibble-letter : (x : ℕ) {v : ℕ} → v ≡ x → 0x61 ≤ v → v - 0x57 ≡ nibble x
unfolding nibble
nibble-letter x e h = let w : ltb x 0x61 ≡ false = le-ltb x 0x61 (omega arith) in rw (w, e) refl

module _ (x y : ℕ) {h l : ℕ} (e₁ : h ≡ nibble x) (e₂ : l ≡ nibble y) where
  pub escape_great : 0x100 ≤ h * 16 + l → false ≡ is_escape x y
  unfolding is_escape
  escape_great m = rw (← e₁, ← e₂) (rw (le-ltb (h * 16 + l) 0x100 m) refl)

  module _ (m : h * 16 + l < 0x100) where
    escape_by : is_escape x y ≡ same (0x5C ∷ x ∷ y ∷ []) (escaped (h * 16 + l))
    unfolding is_escape
    escape_by = rw (← e₁, ← e₂) (rw (lt-ltb (h * 16 + l) 0x100 m) refl)

    pub escape_plain : {p : Bool} → p ≡ plain (h * 16 + l) → p ≡ true → false ≡ is_escape x y
    unfolding escaped same
    escape_plain e f = sym (escape_by ∙ rw (sym e ∙ f) (and-false (eqb 0x5C (h * 16 + l))))

    module _ {p : Bool} (e : p ≡ plain (h * 16 + l)) (f : p ≡ false) {t : List ℕ} (w : t ≡ hex_digits) where
      escape_hex : is_escape x y ≡ (eqb x (get_or t ((h * 16 + l) / 16) 0) && eqb y (get_or t ((h * 16 + l) % 16) 0))
      unfolding escaped hexed hex_digit same
      escape_hex = escape_by ∙ rw (sym e ∙ f) (rw w (ap (λ b. eqb x (get_or hex_digits ((h * 16 + l) / 16) 0) && b) (and-true (eqb y (get_or hex_digits ((h * 16 + l) % 16) 0)))))

      pub escape_high : (x ≡ get_or t ((h * 16 + l) / 16) 0 → ⊥) → false ≡ is_escape x y
      escape_high n = sym (escape_hex ∙ rw (ne_eqb x (get_or t ((h * 16 + l) / 16) 0) n) refl)

      pub escape_low : x ≡ get_or t ((h * 16 + l) / 16) 0 → eqb y (get_or t ((h * 16 + l) % 16) 0) ≡ is_escape x y
      escape_low g = sym (escape_hex ∙ rw (eq-eqb x (get_or t ((h * 16 + l) / 16) 0) g) refl)

-- ---- a byte that stands as itself

module _ (b : ℕ) {p : Bool} (e : p ≡ plain b) where
  pub itself-plain : (two : Bool) → p ≡ true → true ≡ itself two b
  unfolding itself
  itself-plain two f = rw (sym e ∙ f) refl

  module _ (f : p ≡ false) where
    pub itself-two : {two : Bool} → two ≡ true → leb 0x80 b ≡ itself two b
    unfolding itself
    itself-two t = rw (sym e ∙ f, t) refl

    pub itself-not : {two : Bool} → two ≡ false → false ≡ itself two b
    unfolding itself
    itself-not t = rw (sym e ∙ f, t) refl

-- ---- a text

text-one : (two : Bool) (b : ℕ) (t : List ℕ) → (b ≡ 0x5C → ⊥) → is_text two (b ∷ t) ≡ (itself two b && is_text two t)
unfolding is_text
text-one two b [] n = sym (and-true (itself two b))
text-one two b (x ∷ []) n = refl
text-one two b (x ∷ y ∷ t) n = rw (ne_eqb b 0x5C n) refl

text-escape : (two : Bool) (x y : ℕ) (t : List ℕ) → is_text two (0x5C ∷ x ∷ y ∷ t) ≡ (is_escape x y && is_text two t)
unfolding is_text
text-escape two x y t = refl

backslash : (two : Bool) → itself two 0x5C ≡ false
unfolding itself plain
backslash true = refl
backslash false = refl

text-cut : (two : Bool) (t : List ℕ) → length t < 2 → is_text two (0x5C ∷ t) ≡ false
unfolding is_text
text-cut two [] h = backslash two
text-cut two (x ∷ []) h = rw (backslash two) refl
text-cut two (x ∷ y ∷ t) h = absurd (omega arith)

no_text : (two : Bool) → is_text two [] ≡ true
unfolding is_text
no_text two = refl

-- what is left of the text is the whole
pub record Spelling (s : List ℕ) (from end : ℕ) (two : Bool) (i : ℕ) : Type 0 where
  pub before : i ≤ end
  pub inside : end ≤ length s
  pub same : is_text two (slice from end s) ≡ is_text two (slice i end s)

module _ {s : List ℕ} {from end : ℕ} {two : Bool} {i : ℕ} (g : Spelling s from end two i) where
  pub spelled-all : end ≤ i → true ≡ is_text two (slice from end s)
  spelled-all h = let e : i ≡ end = (let b = g.before in omega arith) in sym (g.same ∙ ap (λ n. is_text two (slice n end s)) e ∙ ap (is_text two) (slice_empty end s) ∙ no_text two)

  module _ (h : i < end) where
    cons : {b : ℕ} → b ≡ get_or s i 0 → slice i end s ≡ b ∷ slice (i + 1) end s
    cons {b} e = slice-cons i end s 0 h g.inside ∙ rw (← add-one i, ← e) refl

    module _ {b : ℕ} (e : b ≡ get_or s i 0) where
      pub spelled-cut : b ≡ 0x5C → end - i < 3 → false ≡ is_text two (slice from end s)
      spelled-cut z l = sym (g.same ∙ ap (is_text two) (cons e) ∙ rw z (text-cut two (slice (i + 1) end s) (let w = length-is in omega arith)))
        where
          length-is : length (slice (i + 1) end s) ≡ end - (i + 1)
          length-is = length-slice (i + 1) end s g.inside

      module _ (z : b ≡ 0x5C) (l : 3 ≤ end - i) {x y : ℕ} (e₁ : x ≡ get_or s (i + 1) 0) (e₂ : y ≡ get_or s (i + 2) 0) where
        three : slice i end s ≡ 0x5C ∷ x ∷ y ∷ slice (i + 3) end s
        three =
            let a : suc (i + 1) ≡ i + 2 = omega arith in let d : suc (i + 2) ≡ i + 3 = omega arith in
            cons e
            ∙ rw (z, slice-cons (i + 1) end s 0 (omega arith) g.inside, a, slice-cons (i + 2) end s 0 (omega arith) g.inside, d, ← e₁, ← e₂) refl

        pub spelled-bad : {k : Bool} → k ≡ is_escape x y → k ≡ false → false ≡ is_text two (slice from end s)
        spelled-bad u v = sym (g.same ∙ ap (is_text two) three ∙ text-escape two x y (slice (i + 3) end s) ∙ rw (sym u ∙ v) refl)

        pub spelled-three : {k : Bool} → k ≡ is_escape x y → k ≡ true → Spelling s from end two (i + 3)
        spelled-three u v = record {
          before = omega arith;
          inside = g.inside;
          same = g.same ∙ ap (is_text two) three ∙ text-escape two x y
              (slice (i + 3) end s) ∙ rw (sym u ∙ v) refl;
        }

      module _ (n : b ≡ 0x5C → ⊥) {k : Bool} (u : k ≡ itself two b) where
        one : is_text two (slice i end s) ≡ (itself two b && is_text two (slice (i + 1) end s))
        one = ap (is_text two) (cons e) ∙ text-one two b (slice (i + 1) end s) n

        pub spelled-no : k ≡ false → false ≡ is_text two (slice from end s)
        spelled-no v = sym (g.same ∙ one ∙ rw (sym u ∙ v) refl)

        pub spelled-one : k ≡ true → Spelling s from end two (i + 1)
        spelled-one v = record { before = omega arith; inside = g.inside; same = g.same ∙ one ∙ rw (sym u ∙ v) refl }

-- ---- a name

name-empty : is_name [] ≡ false
unfolding is_name same
name-empty = refl

name-some : (b : ℕ) (t : List ℕ) → is_name (b ∷ t) ≡ is_text false (b ∷ t)
unfolding is_name same
name-some b t = refl

module _ (l : List ℕ) (at : ℕ) {r : ℕ} (k : Next 0x09 l at r) (h : r < length l) where
  pub name-none : r ≡ at → NoField is_name l at
  name-none e = fails l at k is_name h (ap (λ n. is_name (slice at n l)) e ∙ ap is_name (slice_empty at l) ∙ name-empty)

  module _ (m : at < r) {a : Bool} (w : a ≡ is_text false (slice at r l)) where
    name_by : is_name (slice at r l) ≡ a
    name_by = let c = slice-cons at r l 0 m (omega arith) in rw c (name-some _ _) ∙ ap (is_text false) (sym c) ∙ sym w

    pub name-bad : a ≡ false → NoField is_name l at
    name-bad f = fails l at k is_name h (name_by ∙ f)

    pub name-is : a ≡ true → NameIs l at (r + 1)
    name-is f = record { text = slice at r l; field = field_is l at k h; spelled = name_by ∙ f }
