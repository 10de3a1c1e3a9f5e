-- Numbers in 01's spelling, read digit by digit; and the end of a piece.
-- Assumes nothing.
use mathlib.Core.Path.{◌≡◌, refl, sym, ap, ap₂, ◌∙◌, subst}
use mathlib.Core.Logic.{◌⊎◌, inl, inr}
use mathlib.Core.Bool.{Bool, true, false, cond, ◌&&◌}
use mathlib.Core.List.{List, [], ◌∷◌, ◌++◌, append_assoc, append-nil}
use Prim.{Unit, tt}
use Prim.Native.Nat.{ℕ, zero, suc, ◌+◌, ◌*◌, ◌-◌, ◌/◌, ◌%◌, ◌^◌, ◌≤◌, ◌<◌}
use native.Mathlib.Decide.{dec_lt}
use native.Mathlib.Omega.{arith}
use native.Mathlib.Numerals.{add-one}
use lib.Dec.{eqb, leb, ltb}
use lib.ListN.{length, get_or, drop, drop_of_length-le}
use lib.Seq.{drop-cons}
use borrow.Author.Tests.{eq-eqb, ne_eqb, eqb-true, leb-true, le-leb, lt-ltb, le-ltb}
use Rattle.std.proofs.Common.{Some, None}
use Rattle.std.proofs.lemmas.Bool.{false≢true}
use Rattle.room.specs.Decimal.{digits, decimal}
use Rattle.editions.specs.Sheets.{same, value, is_number, parted, lead, on_first}
use Rattle.editions.specs.Reads.{number_of}
use Rattle.editions.proofs.Back.{same-is}
use Rattle.editions.proofs.Bytes.{some-piece}

-- ---- decimals, digit by digit

enough : (k n : ℕ) → n < 10 ^ suc k → digits (suc k) n ≡ digits (suc (suc k)) n
unfolding digits
enough zero n l = simp (lt-ltb n 10 (omega arith))
enough (suc k) n l = elim (dec_lt n 10) [
  | yes h ↦ simp (lt-ltb n 10 h)
  | no h ↦ ap (λ v. cond (ltb n 10) [] v ++ (0x30 + n % 10) ∷ []) (enough k (n / 10) (omega arith))
]

decimal-one : (n : ℕ) → n < 10 → decimal n ≡ (0x30 + n % 10) ∷ []
unfolding decimal digits
decimal-one n l = simp (lt-ltb n 10 l)

digits_more : (k n : ℕ) → 10 ≤ n → digits (suc k) n ≡ digits k (n / 10) ++ (0x30 + n % 10) ∷ []
unfolding digits
digits_more k n l = simp (le-ltb n 10 l)

decimal-more : (n : ℕ) → 10 ≤ n → n < 2 ^ 64 → decimal n ≡ decimal (n / 10) ++ (0x30 + n % 10) ∷ []
unfolding decimal
decimal-more n l h = digits_more 19 n l ∙ ap (λ v. v ++ (0x30 + n % 10) ∷ []) (enough 18 (n / 10) (omega arith))

-- one digit more
decimal-next : (v d : ℕ) → 0 < v → v ≤ 0xFFFFFFF → d < 10 → decimal (v * 10 + d) ≡ decimal v ++ (0x30 + d) ∷ []
decimal-next v d z s l =
    let q : (v * 10 + d) / 10 ≡ v = omega arith in let r : (v * 10 + d) % 10 ≡ d = omega arith in
    decimal-more (v * 10 + d) (omega arith) (omega arith) ∙ ap₂ (λ (x y : ℕ). decimal x ++ (0x30 + y) ∷ []) q r

-- ---- decimals are digits, the first of them not 0

abbrev pub Digits : List ℕ → Type 0
Digits [] = Unit {0}
Digits (b ∷ u) = (0x30 ≤ b) × (b ≤ 0x39) × Digits u

digits_append : (a b : List ℕ) → Digits a → Digits b → Digits (a ++ b)
digits_append [] b p q = q
digits_append (x ∷ a) b (l, h, p) q = (l, h, digits_append a b p q)

digits-chosen : (t : Bool) (a : List ℕ) → Digits a → Digits (cond t [] a)
digits-chosen true a p = tt
digits-chosen false a p = p

pub digits_are : (k n : ℕ) → Digits (digits k n)
unfolding digits
digits_are zero n = tt
digits_are (suc k) n = digits_append (cond (ltb n 10) [] (digits k (n / 10))) ((0x30 + n % 10) ∷ [])
    (digits-chosen (ltb n 10) (digits k (n / 10)) (digits_are k (n / 10))) (omega arith, omega arith, tt)

digit_at : (a : List ℕ) (d : ℕ) (u : List ℕ) → Digits (a ++ d ∷ u) → (0x30 ≤ d) × (d ≤ 0x39)
digit_at [] d u (l, h, p) = (l, h)
digit_at (x ∷ a) d u (l, h, p) = digit_at a d u p

abbrev Headed : List ℕ → Type 0
Headed [] = ⊥
Headed (b ∷ u) = b ≡ 0x30 → ⊥

headed_append : (a b : List ℕ) → Headed a → Headed (a ++ b)
headed_append [] b h = absurd h
headed_append (x ∷ a) b h = h

headed : (k n : ℕ) → 0 < n → n < 10 ^ k → Headed (digits k n)
unfolding digits
headed zero n z l = absurd (omega arith)
headed (suc k) n z l = elim (dec_lt n 10) [
  | yes h ↦ rw (lt-ltb n 10 h) (λ e. omega arith)
  | no h ↦ rw (le-ltb n 10 (omega arith)) (headed_append (digits k (n / 10)) ((0x30 + n % 10) ∷ []) (headed k (n / 10) (omega arith) (omega arith)))
]

-- ---- 01's spelling

pub same_self : (t : List ℕ) → same t t ≡ true
unfolding same
same_self [] = refl
same_self (b ∷ t) = rw (eq-eqb b b refl) (same_self t)

pub number_is : (t : List ℕ) (v : ℕ) → t ≡ decimal v → value 0 t ≡ v → v ≤ 0xFFFFFFF → Some v ≡ number_of t
unfolding number_of is_number
number_is t v e q l = rw q (rw (sym e) (rw (same_self t) (rw (le-leb v 0xFFFFFFF l) refl)))

no-number_on : (a b : Bool) (n : ℕ) → (a ≡ true → b ≡ true → ⊥) → None ≡ cond (a && b) (Some n) None
no-number_on true true n h = absurd (h refl refl)
no-number_on true false n h = refl
no-number_on false b n h = refl

-- no number: where it is not the decimal of a small one
pub no_number : (t : List ℕ) → ((n : ℕ) → t ≡ decimal n → value 0 t ≡ n → n ≤ 0xFFFFFFF → ⊥) → None ≡ number_of t
unfolding number_of is_number
no_number t h = no-number_on (same t (decimal (value 0 t))) (leb (value 0 t) 0xFFFFFFF) (value 0 t)
    (λ a b. h (value 0 t) (same-is t (decimal (value 0 t)) a) refl (leb-true (value 0 t) 0xFFFFFFF b))

decimal-some : (n : ℕ) → [] ≡ decimal n → ⊥
unfolding decimal digits
decimal-some n e = some (cond (ltb n 10) [] (digits 19 (n / 10))) (0x30 + n % 10) e
  where
    some : (a : List ℕ) (b : ℕ) → [] ≡ a ++ b ∷ [] → ⊥
    some [] b e = let z : ◌≡◌ {A = ℕ} 0 1 = cc in omega arith
    some (x ∷ a) b e = let z : ◌≡◌ {A = ℕ} 0 1 = cc in omega arith

pub number-empty : (t : List ℕ) → t ≡ [] → None ≡ number_of t
number-empty t e = no_number t (λ n d q l. decimal-some n (sym e ∙ d))

pub number-zero : (t : List ℕ) → t ≡ 0x30 ∷ [] → Some 0 ≡ number_of t
unfolding value
number-zero t e = number_is t 0 (e ∙ sym (decimal-one 0 (omega arith))) (ap (value 0) e ∙ zero-says) (omega arith)
  where
    zero-says : value 0 (0x30 ∷ []) ≡ 0
    zero-says = refl

headed_not : (x : ℕ) (u : List ℕ) → Headed (x ∷ u) → x ≡ 0x30 → ⊥
headed_not x u h e = h e

pub number-padded : (t : List ℕ) (x : ℕ) (u : List ℕ) → t ≡ 0x30 ∷ x ∷ u → None ≡ number_of t
unfolding decimal
number-padded t x u e = no_number t (λ n d q l. elim (dec_lt 0 n) [
  | yes z ↦ headed_not 0x30 (x ∷ u) (subst Headed (sym d ∙ e) (headed 20 n z (omega arith))) refl
  | no z ↦ let y : n ≡ 0 = omega arith in two x u (sym e ∙ d ∙ ap decimal y ∙ decimal-one 0 (omega arith))
])
  where
    two : (x : ℕ) (u : List ℕ) → 0x30 ∷ x ∷ u ≡ 0x30 ∷ [] → ⊥
    two x u e = let z : x ∷ u ≡ [] = cc in let y : ◌≡◌ {A = ℕ} 0 1 = cc in omega arith

-- ---- digit by digit: v is what `pre` says, and `rest` is still to be read

pub record Reading (t : List ℕ) (v : ℕ) (rest : List ℕ) : Type 0 where
  pub pre : List ℕ
  pub whole : t ≡ pre ++ rest
  pub spelled : ((pre ≡ []) × (v ≡ 0)) ⊎ ((0 < v) × (pre ≡ decimal v))
  pub says : value 0 t ≡ value v rest
  pub small : v ≤ 0xFFFFFFF

pub reading-start : (t : List ℕ) → Reading t 0 t
reading-start t = record { pre = []; whole = refl; spelled = inl (refl, refl); says = refl; small = omega arith }

grows : (v : ℕ) (t : List ℕ) → v ≤ value v t
unfolding value
grows v [] = omega arith
grows v (d ∷ t) = let a = grows (v * 10 + (d - 0x30)) t in omega arith

value_on : (v d : ℕ) (rest : List ℕ) → value v (d ∷ rest) ≡ value (v * 10 + (d - 0x30)) rest
unfolding value
value_on v d rest = refl

module _ {t : List ℕ} {v : ℕ} (d : ℕ) {rest : List ℕ} (r : Reading t v (d ∷ rest)) where
  pub reading-on : Headed t → 0x30 ≤ d → d ≤ 0x39 → v * 10 + (d - 0x30) ≤ 0xFFFFFFF → Reading t (v * 10 + (d - 0x30)) rest
  reading-on h a b l = record {
    pre = r.pre ++ d ∷ [];
    whole = r.whole ∙ sym (append_assoc r.pre (d ∷ []) rest);
    spelled = inr (elim r.spelled [
      | inl (e, z) ↦
          let n : d ≡ 0x30 → ⊥ = headed_not d rest (subst Headed (r.whole ∙ ap (λ (u : List ℕ). u ++ d ∷ rest) e) h) in
          let w : v * 10 + (d - 0x30) ≡ d - 0x30 = omega arith in let y : 0x30 + (d - 0x30) % 10 ≡ d = omega arith in
          let p : 0 < d - 0x30 = positive n in
          (omega arith, ap (λ (u : List ℕ). u ++ d ∷ []) e ∙ ap (λ (x : ℕ). x ∷ []) (sym y) ∙ sym (decimal-one (d - 0x30) (omega arith)) ∙ ap decimal (sym w))
      | inr (z, e) ↦
          let s = r.small in let y : 0x30 + (d - 0x30) ≡ d = omega arith in
          (omega arith, ap₂ (λ (u : List ℕ) (x : ℕ). u ++ x ∷ []) e (sym y) ∙ sym (decimal-next v (d - 0x30) z s (omega arith)))
    ]);
    says = r.says ∙ value_on v d rest;
    small = l;
  }
    where
      positive : (d ≡ 0x30 → ⊥) → 0 < d - 0x30
      positive n = elim (dec_lt 0 (d - 0x30)) [
        | yes z ↦ z
        | no z ↦ absurd (n (omega arith))
      ]

  pub reading-over : 0xFFFFFFF < v * 10 + (d - 0x30) → None ≡ number_of t
  reading-over l = no_number t (λ n e q s. let a = grows (v * 10 + (d - 0x30)) rest in let b = r.says in let c = value_on v d rest in omega arith)

  pub reading-bad : ((0x30 ≤ d) × (d ≤ 0x39) → ⊥) → None ≡ number_of t
  unfolding decimal
  reading-bad h = no_number t (λ n e q s. h (digit_at r.pre d rest (subst Digits (sym e ∙ r.whole) (digits_are 20 n))))

pub reading-end : {t : List ℕ} {v : ℕ} (rest : List ℕ) → Reading t v rest → rest ≡ [] → (t ≡ [] → ⊥) → Some v ≡ number_of t
unfolding value
reading-end {t} {v} rest r z h = elim r.spelled [
  | inl (e, w) ↦ absurd (h (r.whole ∙ ap₂ (λ (a b : List ℕ). a ++ b) e z))
  | inr (p, e) ↦ number_is t v (r.whole ∙ ap₂ (λ (a b : List ℕ). a ++ b) e z ∙ append-nil (decimal v)) (r.says ∙ ap (value v) z) r.small
]

-- ---- the end of a piece

lead-some : (b : ℕ) (ps : List (List ℕ)) → (ps ≡ [] → ⊥) → length (lead (on_first b ps)) ≡ length (lead ps) + 1
unfolding lead
lead-some b [] h = absurd (h refl)
lead-some b (t ∷ ts) h = omega arith

module _ (s : List ℕ) (i c : ℕ) where
  pub piece-end : length s ≤ i → length (lead (parted c (drop i s))) ≡ 0
  unfolding parted lead
  piece-end l = rw (drop_of_length-le s l)

  pub piece-here : i < length s → get_or s i 0 ≡ c → length (lead (parted c (drop i s))) ≡ 0
  unfolding parted lead
  piece-here l e = rw (drop-cons s i 0 l) (rw (eq-eqb (get_or s i 0) c e) refl)

  pub piece-on : i < length s → (get_or s i 0 ≡ c → ⊥) → length (lead (parted c (drop i s))) ≡ length (lead (parted c (drop (i + 1) s))) + 1
  unfolding parted
  piece-on l e =
      ap (λ (v : List ℕ). length (lead (parted c v))) (drop-cons s i 0 l)
      ∙ rw (ne_eqb (get_or s i 0) c e) (lead-some (get_or s i 0) (parted c (drop (suc i) s)) (some-piece c (drop (suc i) s)))
      ∙ ap (λ (n : ℕ). length (lead (parted c (drop n s))) + 1) (sym (add-one i))

-- the loop: what is left of the piece that begins at `at` begins at i
abbrev pub Seeking : List ℕ → ℕ → ℕ → ℕ → Type 0
Seeking s at c i = (i ≤ length s) × (i + length (lead (parted c (drop i s))) ≡ at + length (lead (parted c (drop at s))))

module _ (s : List ℕ) (at c i : ℕ) (k : Seeking s at c i) where
  pub sought_here : i < length s → get_or s i 0 ≡ c → (i ≤ length s) × (i ≡ at + length (lead (parted c (drop at s))))
  sought_here l e = let z = piece-here s i c l e in (omega arith, omega arith)

  pub sought_end : length s ≤ i → (i ≤ length s) × (i ≡ at + length (lead (parted c (drop at s))))
  sought_end l = let z = piece-end s i c l in (omega arith, omega arith)

  pub sought_on : i < length s → (get_or s i 0 ≡ c → ⊥) → Seeking s at c (i + 1)
  sought_on l e = let z = piece-on s i c l e in (omega arith, omega arith)

-- ---- the loop over a field

-- a 0 before other digits
pub number-zeros : (t : List ℕ) → (t ≡ 0x30 ∷ [] → ⊥) → 0 < length t → get_or t 0 0 ≡ 0x30 → None ≡ number_of t
number-zeros [] n l e = absurd (omega arith)
number-zeros (x ∷ []) n l e = absurd (n (ap (λ (d : ℕ). d ∷ []) e))
number-zeros (x ∷ y ∷ u) n l e = number-padded (x ∷ y ∷ u) y u (ap (λ (d : ℕ). d ∷ y ∷ u) e)

-- a length that is tested
pub no-length : (t : List ℕ) → eqb (length t) 0 ≡ true → t ≡ []
no-length [] e = refl
no-length (x ∷ t) e = absurd (omega (arith, eqb-true (length (x ∷ t)) 0 e))

pub some-length : (t : List ℕ) → eqb (length t) 0 ≡ false → 0 < length t
some-length [] e = absurd (false≢true (sym e))
some-length (x ∷ t) e = omega arith

-- v is read, the digits from i on are not
pub record Digit (t : List ℕ) (v i : ℕ) : Type 0 where
  pub some : 0 < length t
  pub headed : Headed t
  pub reading : Reading t v (drop i t)

pub digit_start : (t : List ℕ) → 0 < length t → (get_or t 0 0 ≡ 0x30 → ⊥) → Digit t 0 0
digit_start [] l n = absurd (omega arith)
digit_start (x ∷ t) l n = record { some = l; headed = n; reading = reading-start (x ∷ t) }

pub digit_small : {t : List ℕ} {v i : ℕ} → Digit t v i → v ≤ 0xFFFFFFF
digit_small r = r.reading.small

module _ {t : List ℕ} {v i : ℕ} (r : Digit t v i) (l : i < length t) where
  now : Reading t v (get_or t i 0 ∷ drop (i + 1) t)
  now = rw (drop-cons t i 0 l, ← add-one i) at r.reading

  pub digit_bad : {d : ℕ} → d ≡ get_or t i 0 → (d < 0x30) ⊎ ((0x30 ≤ d) × (0x39 < d)) → None ≡ number_of t
  digit_bad e (inl k) = reading-bad (get_or t i 0) now (λ q. omega arith)
  digit_bad e (inr k) = reading-bad (get_or t i 0) now (λ q. let h = k.1 in omega arith)

  pub digit_over : {d : ℕ} → d ≡ get_or t i 0 → 0xFFFFFFF < v * 10 + (d - 0x30) → None ≡ number_of t
  digit_over e k = reading-over (get_or t i 0) now (rw e at k)

  pub digit_on : {d : ℕ} → d ≡ get_or t i 0 → 0x30 ≤ d → d ≤ 0x39 → v * 10 + (d - 0x30) ≤ 0xFFFFFFF → Digit t (v * 10 + (d - 0x30)) (i + 1)
  digit_on e a c k = record {
    some = r.some;
    headed = r.headed;
    reading = rw e (reading-on (get_or t i 0) now r.headed (omega arith) (omega arith) (rw e at k));
  }

pub digit_end : {t : List ℕ} {v i : ℕ} → Digit t v i → length t ≤ i → Some v ≡ number_of t
digit_end {t} {v} {i} r k = reading-end (drop i t) r.reading (drop_of_length-le t k) (λ e. let a = ap length e in let b = r.some in omega arith)
