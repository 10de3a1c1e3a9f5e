-- One character of UTF-16: its bytes are read as it, and what is read has those bytes.
-- Assumes nothing.
use mathlib.Core.Path.{◌≡◌, refl, sym, ap, ap₂, ◌∙◌}
use mathlib.Core.Logic.{◌⊎◌, inl, inr, ⊎_elim}
use mathlib.Core.List.{List, [], ◌∷◌, ◌++◌}
use Prim.Native.Nat.{ℕ, suc, ◌+◌, ◌-◌, ◌*◌, ◌/◌, ◌%◌, ◌≤◌, ◌<◌}
use native.Mathlib.Decide.{dec_lt}
use native.Mathlib.Omega.{arith}
use lib.ListN.{length, drop}
use borrow.Author.Tests.{lt-ltb, le-ltb, le-leb, lt-leb}
use Rattle.utf16.specs.Unicode.{char, none, units, bytes_of, utf16, bytes16, paired, of_units, first16}
use Rattle.utf16.proofs.Walk.{Bytes, Form}

-- the scalar values
pub record Scalar (c : ℕ) : Type 0 where
  pub most : c < 0x110000
  pub apart : (c < 0xD800) ⊎ (0xE000 ≤ c)

pub never : {c n : ℕ} {P : Type 0} → none ≡ char c n → P
never e = absurd (let z : ◌≡◌ {A = ℕ} 0 1 = cc in omega arith)

pub char-value : {a m c n : ℕ} → char a m ≡ char c n → c ≡ a
char-value e = cc

pub char-size : {a m c n : ℕ} → char a m ≡ char c n → n ≡ m
char-size e = cc

-- ---- units and bytes

pub units-bytes : (us t : List ℕ) → units (bytes_of us ++ t) ≡ us ++ units t
unfolding units bytes_of
units-bytes [] t = refl
units-bytes (u ∷ us) t = let e : u / 256 * 256 + u % 256 ≡ u = omega arith in rw e (ap (λ (x : List ℕ). u ∷ x) (units-bytes us t))

-- ---- the units of a character, by its range

pub short16 : (c : ℕ) → c < 0x10000 → utf16 c ≡ c ∷ []
unfolding utf16
short16 c l = simp (lt-ltb c 0x10000 l)

pub long16 : (c : ℕ) → 0x10000 ≤ c → utf16 c ≡ (0xD800 + (c - 0x10000) / 1024) ∷ (0xDC00 + (c - 0x10000) % 1024) ∷ []
unfolding utf16
long16 c l = simp (le-ltb c 0x10000 l)

pub unit-is : (u : ℕ) → ((u / 256) ∷ []) ++ ((u % 256) ∷ []) ≡ bytes_of (u ∷ [])
unfolding bytes_of
unit-is u = refl

pub short-bytes : (c : ℕ) → c < 0x10000 → bytes_of (c ∷ []) ≡ bytes16 c
unfolding bytes16
short-bytes c l = ap bytes_of (sym (short16 c l))

pub long-bytes : (c : ℕ) → 0x10000 ≤ c → bytes_of ((0xD800 + (c - 0x10000) / 1024) ∷ []) ++ bytes_of ((0xDC00 + (c - 0x10000) % 1024) ∷ []) ≡ bytes16 c
unfolding bytes16 bytes_of
long-bytes c l = ap bytes_of (sym (long16 c l))

module _ (us : List ℕ) where
  pub unit-low : (u : ℕ) → u < 0xD800 → of_units (u ∷ us) ≡ char u 2
  unfolding of_units
  unit-low u l = simp (lt-ltb u 0xD800 l)

  pub unit-high : (u : ℕ) → 0xE000 ≤ u → of_units (u ∷ us) ≡ char u 2
  unfolding of_units
  unit-high u l = simp (le-ltb u 0xD800 (omega arith), le-leb 0xE000 u l)

  pub unit-pair : (u : ℕ) → 0xD800 ≤ u → u < 0xDC00 → of_units (u ∷ us) ≡ paired u us
  unfolding of_units
  unit-pair u l m = simp (le-ltb u 0xD800 l, lt-leb 0xE000 u (omega arith), lt-ltb u 0xDC00 m)

  pub unit-lone : (u : ℕ) → 0xDC00 ≤ u → u < 0xE000 → of_units (u ∷ us) ≡ none
  unfolding of_units
  unit-lone u l m = simp (le-ltb u 0xD800 (omega arith), lt-leb 0xE000 u m, le-ltb u 0xDC00 l)

  pub pair_is : (u v : ℕ) → 0xDC00 ≤ v → v < 0xE000 → paired u (v ∷ us) ≡ char (0x10000 + (u - 0xD800) * 1024 + (v - 0xDC00)) 4
  unfolding paired
  pair_is u v l m = simp (le-leb 0xDC00 v l, lt-ltb v 0xE000 m)

  pub pair_early : (u v : ℕ) → v < 0xDC00 → paired u (v ∷ us) ≡ none
  unfolding paired
  pair_early u v l = simp (lt-leb 0xDC00 v l)

  pub pair_late : (u v : ℕ) → 0xE000 ≤ v → paired u (v ∷ us) ≡ none
  unfolding paired
  pair_late u v l = simp (le-leb 0xDC00 v (omega arith), le-ltb v 0xE000 l)

-- ---- the bytes of a character are read as it

sizes : (c : ℕ) (n : ℕ) {us : List ℕ} → utf16 c ≡ us → length (bytes_of us) ≡ n → length (bytes16 c) ≡ n
unfolding bytes16
sizes c n e l = rw e l

units_of : (c : ℕ) (t : List ℕ) {us : List ℕ} → utf16 c ≡ us → first16 (bytes16 c ++ t) ≡ of_units (us ++ units t)
unfolding bytes16 first16
units_of c t e = rw (units-bytes, e)

pub reads16 : (c : ℕ) (t : List ℕ) → Scalar c → first16 (bytes16 c ++ t) ≡ char c (length (bytes16 c))
unfolding bytes_of
reads16 c t g = elim (dec_lt c 0x10000) [
  | yes l ↦ units_of c t (short16 c l) ∙ ⊎_elim (λ h. unit-low (units t) c h) (λ h. unit-high (units t) c h) g.apart ∙ ap (char c) (sym (sizes c 2 (short16 c l) refl))
  | no l ↦
      let m = g.most in let h = 0xD800 + (c - 0x10000) / 1024 in let v = 0xDC00 + (c - 0x10000) % 1024 in
      let e : 0x10000 + (h - 0xD800) * 1024 + (v - 0xDC00) ≡ c = omega arith in
      units_of c t (long16 c (omega arith))
      ∙ unit-pair (v ∷ units t) h (omega arith) (omega arith)
      ∙ pair_is (units t) h v (omega arith) (omega arith)
      ∙ ap₂ char e (sym (sizes c 4 (long16 c (omega arith)) refl))
]

pub some16 : (c : ℕ) → 0 < length (bytes16 c)
unfolding bytes_of
some16 c = elim (dec_lt c 0x10000) [
  | yes l ↦ let e = sizes c 2 (short16 c l) refl in omega arith
  | no l ↦ let e = sizes c 4 (long16 c (omega arith)) refl in omega arith
]

-- ---- what is read has those bytes

one_unit : (h l : ℕ) (s : List ℕ) → h < 256 → l < 256 → (h * 256 + l < 0xD800) ⊎ (0xE000 ≤ h * 256 + l) → {c n : ℕ} → char (h * 256 + l) 2 ≡
    char c n → Scalar c × (0 < n) × (n ≤ length (h ∷ l ∷ s)) × (h ∷ l ∷ s ≡ bytes16 c ++ drop n (h ∷ l ∷ s))
unfolding bytes16 bytes_of
one_unit h l s a b k {c} {n} e =
    let u = h * 256 + l in let e₁ : c ≡ u = char-value e in let e₂ : n ≡ 2 = char-size e in
    let d : u / 256 ≡ h = omega arith in let m : u % 256 ≡ l = omega arith in
    rw (e₁, e₂, short16 u (omega arith), d, m) (record { most = omega arith; apart = k }, omega arith, omega arith, refl)

two-units : (h l x y : ℕ) (s : List ℕ) → h < 256 → l < 256 → x < 256 → y < 256 → 0xD800 ≤ h * 256 + l → h * 256 + l < 0xDC00 → 0xDC00 ≤ x * 256 + y → x * 256 + y < 0xE000
    → {c n : ℕ} → char (0x10000 + (h * 256 + l - 0xD800) * 1024 + (x * 256 + y - 0xDC00)) 4 ≡ char c n → Scalar c × (0 < n) ×
    (n ≤ length (h ∷ l ∷ x ∷ y ∷ s)) × (h ∷ l ∷ x ∷ y ∷ s ≡ bytes16 c ++ drop n (h ∷ l ∷ x ∷ y ∷ s))
unfolding bytes16 bytes_of
two-units h l x y s a b a' b' k k' j j' {c} {n} e =
    let e₁ : c ≡ 0x10000 + (h * 256 + l - 0xD800) * 1024 + (x * 256 + y - 0xDC00) = char-value e in
    let e₂ : n ≡ 4 = char-size e in
    let q₁ : (0xD800 + (c - 0x10000) / 1024) / 256 ≡ h = omega arith in
    let q₂ : (0xD800 + (c - 0x10000) / 1024) % 256 ≡ l = omega arith in
    let q₃ : (0xDC00 + (c - 0x10000) % 1024) / 256 ≡ x = omega arith in
    let q₄ : (0xDC00 + (c - 0x10000) % 1024) % 256 ≡ y = omega arith in
    rw (e₂, long16 c (omega arith), q₁, q₂, q₃, q₄) (record { most = omega arith; apart = inr (omega arith) }, omega arith, omega arith, refl)

pair_writes : (h l : ℕ) (s : List ℕ) {c n : ℕ} → Bytes (h ∷ l ∷ s) → 0xD800 ≤ h * 256 + l → h * 256 + l < 0xDC00 → paired (h * 256 + l)
    (units s) ≡ char c n → Scalar c × (0 < n) × (n ≤ length (h ∷ l ∷ s)) × (h ∷ l ∷ s ≡ bytes16 c ++ drop n (h ∷ l ∷ s))
unfolding units paired
pair_writes h l [] z k m e = never e
pair_writes h l (x ∷ []) z k m e = never e
pair_writes h l (x ∷ y ∷ s) z k m e = elim (dec_lt (x * 256 + y) 0xDC00) [
  | yes j ↦ never (sym (pair_early (units s) (h * 256 + l) (x * 256 + y) j) ∙ e)
  | no j ↦ elim (dec_lt (x * 256 + y) 0xE000) [
    | yes i ↦ two-units h l x y s (z 0) (z 1) (z 2) (z 3) k m (omega arith) i (sym (pair_is (units s) (h * 256 + l) (x * 256 + y) (omega arith) i) ∙ e)
    | no i ↦ never (sym (pair_late (units s) (h * 256 + l) (x * 256 + y) (omega arith)) ∙ e)
  ]
]

pub writes16 : (s : List ℕ) {c n : ℕ} → Bytes s → first16 s ≡ char c n → Scalar c × (0 < n) × (n ≤ length (s)) × (s ≡ bytes16 c ++ drop n s)
unfolding first16 units of_units
writes16 [] z e = never e
writes16 (h ∷ []) z e = never e
writes16 (h ∷ l ∷ s) z e = let u = h * 256 + l in elim (dec_lt u 0xD800) [
  | yes k ↦ one_unit h l s (z 0) (z 1) (inl k) (sym (unit-low (units s) u k) ∙ e)
  | no k ↦ elim (dec_lt u 0xE000) [
    | no m ↦ one_unit h l s (z 0) (z 1) (inr (omega arith)) (sym (unit-high (units s) u (omega arith)) ∙ e)
    | yes m ↦ elim (dec_lt u 0xDC00) [
      | yes j ↦ pair_writes h l s z (omega arith) j (sym (unit-pair (units s) u (omega arith) j) ∙ e)
      | no j ↦ never (sym (unit-lone (units s) u (omega arith) m) ∙ e)
    ]
  ]
]

pub form16 : Form Scalar Bytes first16 bytes16
form16 = record { rest = λ h i. h (suc i); some = some16; reads = reads16; writes = writes16 }
