-- One character of UTF-8: its bytes are read as it, and what is read has those bytes.
-- Assumes nothing.
use mathlib.Core.Path.{◌≡◌, refl, sym, ap, ◌∙◌}
use mathlib.Core.Logic.{inl, inr, ⊎_elim}
use mathlib.Core.List.{List, [], ◌∷◌, ◌++◌}
use Prim.Native.Nat.{ℕ, suc, ◌+◌, ◌-◌, ◌*◌, ◌/◌, ◌%◌, ◌≤◌, ◌<◌}
use native.Mathlib.Nat.{div-div-eq-div-mul}
use native.Mathlib.Decide.{dec_lt}
use native.Mathlib.Omega.{arith}
use lib.ListN.{length, drop}
use borrow.Author.Tests.{lt-ltb, le-ltb, le-leb, lt-leb}
use Rattle.utf16.specs.Unicode.{char, none, tail, utf8, tails, first8}
use Rattle.utf16.proofs.Walk.{Form}
use Rattle.utf16.proofs.Sixteen.{Scalar, never, char-value, char-size}

-- ---- the bytes of a character, by its range

module _ (c : ℕ) where
  pub one8 : c < 0x80 → utf8 c ≡ c ∷ []
  unfolding utf8
  one8 l = simp (lt-ltb c 0x80 l)

  pub two8 : 0x80 ≤ c → c < 0x800 → utf8 c ≡ (0xC0 + c / 64) ∷ tail c ∷ []
  unfolding utf8
  two8 l m = simp (le-ltb c 0x80 l, lt-ltb c 0x800 m)

  pub three8 : 0x800 ≤ c → c < 0x10000 → utf8 c ≡ (0xE0 + c / 4096) ∷ tail (c / 64) ∷ tail c ∷ []
  unfolding utf8
  three8 l m = simp (le-ltb c 0x80 (omega arith), le-ltb c 0x800 l, lt-ltb c 0x10000 m)

  pub four8 : 0x10000 ≤ c → utf8 c ≡ (0xF0 + c / 262144) ∷ tail (c / 4096) ∷ tail (c / 64) ∷ tail c ∷ []
  unfolding utf8
  four8 l = simp (le-ltb c 0x80 (omega arith), le-ltb c 0x800 (omega arith), le-ltb c 0x10000 l)

-- bytes put one after the other
module _ {a x b : ℕ} (p : x ≡ b) where
  pub one-tail : (a ∷ []) ++ (x ∷ []) ≡ a ∷ b ∷ []
  one-tail = rw p

  module _ {y d : ℕ} (q : y ≡ d) where
    pub two-tails : (a ∷ []) ++ (x ∷ []) ++ (y ∷ []) ≡ a ∷ b ∷ d ∷ []
    two-tails = rw (p, q)

    pub three_tails : {z e : ℕ} → z ≡ e → (a ∷ []) ++ (x ∷ []) ++ (y ∷ []) ++ (z ∷ []) ≡ a ∷ b ∷ d ∷ e ∷ []
    three_tails r = rw (p, q, r)

-- ---- the first byte, by its range

module _ (b : ℕ) (s : List ℕ) where
  pub lead-one : b < 0x80 → first8 (b ∷ s) ≡ char b 1
  unfolding first8
  lead-one l = simp (lt-ltb b 0x80 l)

  pub lead-tail : 0x80 ≤ b → b < 0xC0 → first8 (b ∷ s) ≡ none
  unfolding first8
  lead-tail l m = simp (le-ltb b 0x80 l, lt-ltb b 0xC0 m)

  pub lead-two : 0xC0 ≤ b → b < 0xE0 → first8 (b ∷ s) ≡ tails 1 (b - 0xC0) 2 0x80 s
  unfolding first8
  lead-two l m = simp (le-ltb b 0x80 (omega arith), le-ltb b 0xC0 l, lt-ltb b 0xE0 m)

  pub lead-three : 0xE0 ≤ b → b < 0xF0 → first8 (b ∷ s) ≡ tails 2 (b - 0xE0) 3 0x800 s
  unfolding first8
  lead-three l m = simp (le-ltb b 0x80 (omega arith), le-ltb b 0xC0 (omega arith), le-ltb b 0xE0 l, lt-ltb b 0xF0 m)

  pub lead-four : 0xF0 ≤ b → b < 0xF8 → first8 (b ∷ s) ≡ tails 3 (b - 0xF0) 4 0x10000 s
  unfolding first8
  lead-four l m = simp (le-ltb b 0x80 (omega arith), le-ltb b 0xC0 (omega arith), le-ltb b 0xE0 (omega arith), le-ltb b 0xF0 l, lt-ltb b 0xF8 m)

  pub lead-none : 0xF8 ≤ b → first8 (b ∷ s) ≡ none
  unfolding first8
  lead-none l = simp (le-ltb b 0x80 (omega arith), le-ltb b 0xC0 (omega arith), le-ltb b 0xE0 (omega arith), le-ltb b 0xF0 (omega arith), le-ltb b 0xF8 l)

-- ---- the bytes after it

module _ (n low : ℕ) where
  pub tails-on : (k v b : ℕ) (s : List ℕ) → 0x80 ≤ b → b < 0xC0 → tails (suc k) v n low (b ∷ s) ≡ tails k (v * 64 + (b - 0x80)) n low s
  unfolding tails
  tails-on k v b s l m = simp (le-leb 0x80 b l, lt-ltb b 0xC0 m)

  pub tails-early : (k v b : ℕ) (s : List ℕ) → b < 0x80 → tails (suc k) v n low (b ∷ s) ≡ none
  unfolding tails
  tails-early k v b s l = simp (lt-leb 0x80 b l)

  pub tails-late : (k v b : ℕ) (s : List ℕ) → 0xC0 ≤ b → tails (suc k) v n low (b ∷ s) ≡ none
  unfolding tails
  tails-late k v b s l = simp (le-leb 0x80 b (omega arith), le-ltb b 0xC0 l)

  pub tails-cut : (k v : ℕ) (s : List ℕ) → length s ≡ 0 → tails (suc k) v n low s ≡ none
  unfolding tails
  tails-cut k v [] e = refl
  tails-cut k v (b ∷ s) e = absurd (omega arith)

  module _ (v : ℕ) (s : List ℕ) where
    pub tails-is : low ≤ v → Scalar v → tails 0 v n low s ≡ char v n
    unfolding tails
    tails-is l g = let m = g.most in ⊎_elim (λ h. simp (le-leb low v l, lt-ltb v 0xD800 h))
        (λ h. simp (le-leb low v l, le-ltb v 0xD800 (omega arith), le-leb 0xE000 v h, lt-ltb v 0x110000 m)) g.apart

    pub tails-short : v < low → tails 0 v n low s ≡ none
    unfolding tails
    tails-short l = simp (lt-leb low v l)

    pub tails-surrogate : low ≤ v → 0xD800 ≤ v → v < 0xE000 → tails 0 v n low s ≡ none
    unfolding tails
    tails-surrogate l h m = simp (le-leb low v l, le-ltb v 0xD800 h, lt-leb 0xE000 v m)

    pub tails-above : low ≤ v → 0x110000 ≤ v → tails 0 v n low s ≡ none
    unfolding tails
    tails-above l h = simp (le-leb low v l, le-ltb v 0xD800 (omega arith), le-leb 0xE000 v (omega arith), le-ltb v 0x110000 h)

    -- only a scalar value that has no shorter form is given
    pub tails_end : {c m : ℕ} → tails 0 v n low s ≡ char c m → Scalar v × (low ≤ v) × (c ≡ v) × (m ≡ n)
    tails_end {c} {m} e = elim (dec_lt v low) [
      | yes l ↦ never (sym (tails-short l) ∙ e)
      | no l ↦ elim (dec_lt v 0x110000) [
        | no h ↦ never (sym (tails-above (omega arith) (omega arith)) ∙ e)
        | yes h ↦ elim (dec_lt v 0xD800) [
          | yes i ↦ given (record { most = h; apart = inl i }) (omega arith)
          | no i ↦ elim (dec_lt v 0xE000) [
            | yes j ↦ never (sym (tails-surrogate (omega arith) (omega arith) j) ∙ e)
            | no j ↦ given (record { most = h; apart = inr (omega arith) }) (omega arith)
          ]
        ]
      ]
    ]
      where
        given : Scalar v → low ≤ v → Scalar v × (low ≤ v) × (c ≡ v) × (m ≡ n)
        given g l = let x = sym (tails-is l g) ∙ e in (g, l, char-value x, char-size x)

  -- one more byte of six bits
  pub tails-more : (k v : ℕ) (s : List ℕ) {c m : ℕ} → tails (suc k) v n low s ≡ char c m → (b : ℕ) × (t : List ℕ) × (s ≡ b ∷ t) × (0x80 ≤ b) ×
      (b < 0xC0) × (tails k (v * 64 + (b - 0x80)) n low t ≡ char c m)
  unfolding tails
  tails-more k v [] e = never e
  tails-more k v (b ∷ s) e = elim (dec_lt b 0x80) [
    | yes l ↦ never (sym (tails-early k v b s l) ∙ e)
    | no l ↦ elim (dec_lt b 0xC0) [
      | yes h ↦ (b, s, refl, omega arith, h, sym (tails-on k v b s (omega arith) h) ∙ e)
      | no h ↦ never (sym (tails-late k v b s (omega arith)) ∙ e)
    ]
  ]

-- ---- the bytes of a character are read as it

pub reads8 : (c : ℕ) (t : List ℕ) → Scalar c → first8 (utf8 c ++ t) ≡ char c (length (utf8 c))
reads8 c t g = let m = g.most in elim (dec_lt c 0x80) [
  | yes l ↦ rw (one8 c l) (lead-one c t l)
  | no l ↦ elim (dec_lt c 0x800) [
    | yes h ↦
        let e : (0xC0 + c / 64 - 0xC0) * 64 + (tail c - 0x80) ≡ c = omega arith in
        rw (two8 c (omega arith) h)
        (lead-two (0xC0 + c / 64) (tail c ∷ t) (omega arith) (omega arith)
        ∙ tails-on 2 0x80 0 (0xC0 + c / 64 - 0xC0) (tail c) t (omega arith) (omega arith)
        ∙ ap (λ (v : ℕ). tails 0 v 2 0x80 t) e
        ∙ tails-is 2 0x80 c t (omega arith) g)
    | no h ↦ elim (dec_lt c 0x10000) [
      | yes k ↦
          let e : ((0xE0 + c / 4096 - 0xE0) * 64 + (tail (c / 64) - 0x80)) * 64 + (tail c - 0x80) ≡ c = omega arith in
          rw (three8 c (omega arith) k)
          (lead-three (0xE0 + c / 4096) (tail (c / 64) ∷ tail c ∷ t) (omega arith) (omega arith)
          ∙ tails-on 3 0x800 1 (0xE0 + c / 4096 - 0xE0) (tail (c / 64)) (tail c ∷ t) (omega arith) (omega arith)
          ∙ tails-on 3 0x800 0 ((0xE0 + c / 4096 - 0xE0) * 64 + (tail (c / 64) - 0x80)) (tail c) t (omega arith) (omega arith)
          ∙ ap (λ (v : ℕ). tails 0 v 3 0x800 t) e
          ∙ tails-is 3 0x800 c t (omega arith) g)
      | no k ↦
          let e₁ : c / 262144 * 64 + c / 4096 % 64 ≡ c / 4096 = omega (arith, div-div-eq-div-mul c 4096 64) in
          let e₂ : c / 4096 * 64 + c / 64 % 64 ≡ c / 64 = omega (arith, div-div-eq-div-mul c 64 64) in
          let e : (((0xF0 + c / 262144 - 0xF0) * 64 + (tail (c / 4096) - 0x80)) * 64 + (tail (c / 64) - 0x80)) * 64 + (tail c - 0x80) ≡ c = omega arith in
          rw (four8 c (omega arith))
          (lead-four (0xF0 + c / 262144) (tail (c / 4096) ∷ tail (c / 64) ∷ tail c ∷ t) (omega arith) (omega arith)
          ∙ tails-on 4 0x10000 2 (0xF0 + c / 262144 - 0xF0) (tail (c / 4096)) (tail (c / 64) ∷ tail c ∷ t) (omega arith) (omega arith)
          ∙ tails-on 4 0x10000 1 ((0xF0 + c / 262144 - 0xF0) * 64 + (tail (c / 4096) - 0x80)) (tail (c / 64)) (tail c ∷ t) (omega arith) (omega arith)
          ∙ tails-on 4 0x10000 0 (((0xF0 + c / 262144 - 0xF0) * 64 + (tail (c / 4096) - 0x80)) * 64 + (tail (c / 64) - 0x80)) (tail c) t (omega arith) (omega arith)
          ∙ ap (λ (v : ℕ). tails 0 v 4 0x10000 t) e
          ∙ tails-is 4 0x10000 c t (omega arith) g)
    ]
  ]
]

pub some8 : (c : ℕ) → 0 < length (utf8 c)
some8 c = elim (dec_lt c 0x80) [
  | yes l ↦ rw (one8 c l) (omega arith)
  | no l ↦ elim (dec_lt c 0x800) [
    | yes h ↦ rw (two8 c (omega arith) h) (omega arith)
    | no h ↦ elim (dec_lt c 0x10000) [
      | yes k ↦ rw (three8 c (omega arith) k) (omega arith)
      | no k ↦ rw (four8 c (omega arith)) (omega arith)
    ]
  ]
]

-- ---- what is read has those bytes

from-two : (a : ℕ) (s : List ℕ) {c n : ℕ} → 0xC0 ≤ a → a < 0xE0 → tails 1 (a - 0xC0) 2 0x80 s ≡ char c n → Scalar c × (0 < n) ×
    (n ≤ length (a ∷ s)) × (a ∷ s ≡ utf8 c ++ drop n (a ∷ s))
from-two a s {c} {n} l m e =
    let x = tails-more 2 0x80 0 (a - 0xC0) s e in let b = x.0 in let r = x.1 in let q = x.2 in
    let y = tails_end 2 0x80 ((a - 0xC0) * 64 + (b - 0x80)) r x.5 in
    let b₁ = x.3 in let b₂ = x.4 in let g = y.0 in let lo = y.1 in
    let v : c ≡ (a - 0xC0) * 64 + (b - 0x80) = y.2 in let z : n ≡ 2 = y.3 in
    let q₁ : 0xC0 + c / 64 ≡ a = omega arith in let q₂ : tail c ≡ b = omega arith in
    rw (z, q, two8 c (omega arith) (omega arith), q₁, q₂) (rw v g, omega arith, omega arith, refl)

from-three : (a : ℕ) (s : List ℕ) {c n : ℕ} → 0xE0 ≤ a → a < 0xF0 → tails 2 (a - 0xE0) 3 0x800 s ≡ char c n → Scalar c × (0 < n) ×
    (n ≤ length (a ∷ s)) × (a ∷ s ≡ utf8 c ++ drop n (a ∷ s))
from-three a s {c} {n} l m e =
    let x = tails-more 3 0x800 1 (a - 0xE0) s e in let b = x.0 in let b₁ = x.3 in let b₂ = x.4 in
    let x' = tails-more 3 0x800 0 ((a - 0xE0) * 64 + (b - 0x80)) x.1 x.5 in
    let d = x'.0 in let d₁ = x'.3 in let d₂ = x'.4 in
    let y = tails_end 3 0x800 (((a - 0xE0) * 64 + (b - 0x80)) * 64 + (d - 0x80)) x'.1 x'.5 in
    let g = y.0 in let lo = y.1 in
    let v : c ≡ ((a - 0xE0) * 64 + (b - 0x80)) * 64 + (d - 0x80) = y.2 in
    let z : n ≡ 3 = y.3 in let q₁ : 0xE0 + c / 4096 ≡ a = omega arith in let q₂ : tail (c / 64) ≡ b = omega arith in
    let q₃ : tail c ≡ d = omega arith in
    rw (z, x.2, x'.2, three8 c (omega arith) (omega arith), q₁, q₂, q₃) (rw v g, omega arith, omega arith, refl)

from-four : (a : ℕ) (s : List ℕ) {c n : ℕ} → 0xF0 ≤ a → a < 0xF8 → tails 3 (a - 0xF0) 4 0x10000 s ≡ char c n → Scalar c × (0 < n) ×
    (n ≤ length (a ∷ s)) × (a ∷ s ≡ utf8 c ++ drop n (a ∷ s))
from-four a s {c} {n} l m e =
    let x = tails-more 4 0x10000 2 (a - 0xF0) s e in let b = x.0 in let b₁ = x.3 in let b₂ = x.4 in
    let x' = tails-more 4 0x10000 1 ((a - 0xF0) * 64 + (b - 0x80)) x.1 x.5 in
    let d = x'.0 in let d₁ = x'.3 in let d₂ = x'.4 in
    let x'' = tails-more 4 0x10000 0 (((a - 0xF0) * 64 + (b - 0x80)) * 64 + (d - 0x80)) x'.1 x'.5 in
    let f = x''.0 in let f₁ = x''.3 in let f₂ = x''.4 in
    let y = tails_end 4 0x10000 ((((a - 0xF0) * 64 + (b - 0x80)) * 64 + (d - 0x80)) * 64 + (f - 0x80)) x''.1 x''.5 in
    let g = y.0 in let lo = y.1 in
    let v : c ≡ (((a - 0xF0) * 64 + (b - 0x80)) * 64 + (d - 0x80)) * 64 + (f - 0x80) = y.2 in
    let z : n ≡ 4 = y.3 in let q₁ : 0xF0 + c / 262144 ≡ a = omega arith in
    let q₂ : tail (c / 4096) ≡ b = omega arith in let q₃ : tail (c / 64) ≡ d = omega arith in
    let q₄ : tail c ≡ f = omega arith in
    rw (z, x.2, x'.2, x''.2, four8 c (omega arith), q₁, q₂, q₃, q₄) (rw v g, omega arith, omega arith, refl)

from_one : (a : ℕ) (s : List ℕ) {c n : ℕ} → a < 0x80 → char a 1 ≡ char c n → Scalar c × (0 < n) × (n ≤ length (a ∷ s)) × (a ∷ s ≡ utf8 c ++ drop n (a ∷ s))
from_one a s {c} {n} l e =
    let v : c ≡ a = char-value e in let z : n ≡ 1 = char-size e in
    rw (v, z, one8 a l) (record { most = omega arith; apart = inl (omega arith) }, omega arith, omega arith, refl)

pub writes8 : (s : List ℕ) {c n : ℕ} → first8 s ≡ char c n → Scalar c × (0 < n) × (n ≤ length (s)) × (s ≡ utf8 c ++ drop n s)
unfolding first8
writes8 [] e = never e
writes8 (a ∷ s) e = elim (dec_lt a 0x80) [
  | yes l ↦ from_one a s l (sym (lead-one a s l) ∙ e)
  | no l ↦ elim (dec_lt a 0xC0) [
    | yes h ↦ never (sym (lead-tail a s (omega arith) h) ∙ e)
    | no h ↦ elim (dec_lt a 0xE0) [
      | yes i ↦ from-two a s (omega arith) i (sym (lead-two a s (omega arith) i) ∙ e)
      | no i ↦ elim (dec_lt a 0xF0) [
        | yes j ↦ from-three a s (omega arith) j (sym (lead-three a s (omega arith) j) ∙ e)
        | no j ↦ elim (dec_lt a 0xF8) [
          | yes k ↦ from-four a s (omega arith) k (sym (lead-four a s (omega arith) k) ∙ e)
          | no k ↦ never (sym (lead-none a s (omega arith)) ∙ e)
        ]
      ]
    ]
  ]
]

-- good UTF-8 is of bytes, so nothing is asked of the list
abbrev pub Any : List ℕ → Type 0
Any s = Unit {0}

pub form8 : Form Scalar Any first8 utf8
form8 = record { rest = λ h. tt; some = some8; reads = reads8; writes = λ s h e. writes8 s e }
