-- The digits of a decimal number, counted and stored from the last one on.
-- Assumes nothing.
use mathlib.Core.Path.{◌≡◌, refl, sym, ap, ◌∙◌}
use mathlib.Core.Bool.{Bool, true, false, cond}
use mathlib.Core.List.{List, [], ◌∷◌, ◌++◌, append_assoc, append-nil}
use Prim.Native.Nat.{ℕ, zero, suc, ◌+◌, ◌-◌, ◌*◌, ◌/◌, ◌%◌, ◌^◌, ◌≤◌, ◌<◌}
use native.Mathlib.Decide.{dec_lt}
use native.Mathlib.Omega.{arith}
use lib.Dec.{ltb}
use lib.ListN.{length, length-append, set}
use lib.Seq.{sets, set_comm}
use borrow.Author.Tests.{lt-ltb, le-ltb}
use Rattle.room.specs.Decimal.{digits, decimal}

-- ---- one digit, and the last of more

-- one digit more is not needed
enough : (k n : ℕ) → n < 10 ^ suc k → digits (suc k) n ≡ digits (suc (suc k)) n
unfolding digits
enough zero n l = simp (lt-ltb n 10 (omega arith))
enough (suc k) n l = elim (dec_lt n 10) [
  | yes h ↦ simp (lt-ltb n 10 h)
  | no h ↦ ap (λ v. cond (ltb n 10) [] v ++ (0x30 + n % 10) ∷ []) (enough k (n / 10) (omega arith))
]

pub decimal-one : (n : ℕ) → n < 10 → (0x30 + n) ∷ [] ≡ decimal n
unfolding decimal digits
decimal-one n l = let e : n % 10 ≡ n = omega arith in simp (lt-ltb n 10 l, e)

digits_more : (k n : ℕ) → 10 ≤ n → digits (suc k) n ≡ digits k (n / 10) ++ (0x30 + n % 10) ∷ []
unfolding digits
digits_more k n l = simp (le-ltb n 10 l)

decimal-more : (n : ℕ) → 10 ≤ n → n < 2 ^ 64 → decimal n ≡ decimal (n / 10) ++ (0x30 + n % 10) ∷ []
unfolding decimal
decimal-more n l h = digits_more 19 n l ∙ ap (λ v. v ++ (0x30 + n % 10) ∷ []) (enough 18 (n / 10) (omega arith))

-- ---- counted

shorter : (b : Bool) (xs : List ℕ) → length (cond b [] xs) ≤ length xs
shorter true xs = omega arith
shorter false xs = omega arith

at_most : (k n : ℕ) → length (digits k n) ≤ k
unfolding digits
at_most zero n = omega arith
at_most (suc k) n =
    let a = at_most k (n / 10) in let b = shorter (ltb n 10) (digits k (n / 10)) in
    let c = length-append (cond (ltb n 10) [] (digits k (n / 10))) ((0x30 + n % 10) ∷ []) in
    omega arith

pub few-digits : (n : ℕ) → length (decimal n) ≤ 20
unfolding decimal
few-digits n = at_most 20 n

pub some-digit : (n : ℕ) → 0 < length (decimal n)
unfolding decimal digits
some-digit n = let c = length-append (cond (ltb n 10) [] (digits 19 (n / 10))) ((0x30 + n % 10) ∷ []) in omega arith

-- by the powers of ten that it lies between
pub sized : (k n : ℕ) → 10 ^ k ≤ n → n < 10 * 10 ^ k → n < 2 ^ 64 → k + 1 ≡ length (decimal n)
sized zero n l h w = ap length (decimal-one n (omega arith))
sized (suc k) n l h w =
    let a = sized k (n / 10) (omega arith) (omega arith) (omega arith) in
    let c = ap length (decimal-more n (omega arith) w) ∙ length-append (decimal (n / 10)) ((0x30 + n % 10) ∷ []) in
    omega arith

-- more than one
more-than-nine : (n : ℕ) → 1 < length (decimal n) → 10 ≤ n
more-than-nine n l = elim (dec_lt n 10) [
  | yes h ↦ let e = ap length (decimal-one n h) in omega arith
  | no h ↦ omega arith
]

-- one alone
pub up_to_nine : (n : ℕ) → n < 2 ^ 64 → length (decimal n) ≤ 1 → n < 10
up_to_nine n w l = elim (dec_lt n 10) [
  | yes h ↦ h
  | no h ↦
      let a = some-digit (n / 10) in
      let c = ap length (decimal-more n (omega arith) w) ∙ length-append (decimal (n / 10)) ((0x30 + n % 10) ∷ []) in
      omega arith
]

-- ---- stored

set-sets : (o : List ℕ) (i at d : ℕ) (ws : List ℕ) → i < at → set (sets o at ws) i d ≡ sets (set o i d) at ws
set-sets o i at d [] l = refl
set-sets o i at d (w ∷ ws) l = set-sets (set o at w) i (suc at) d ws (omega arith) ∙ ap (λ (v : List ℕ). sets v (suc at) ws) (set_comm o at i w d (λ e. omega arith))

-- one more in front
set_front : (o : List ℕ) {i at : ℕ} (d : ℕ) (ws : List ℕ) → at ≡ suc i → {o' : List ℕ} → o' ≡ sets o at ws → set o' i d ≡ sets o i (d ∷ ws)
set_front o {i} {at} d ws e h = rw (h, e) (set-sets o i (suc i) d ws (omega arith))

-- the digits behind those of `rest` are stored, from `at` on
pub record Stored (o : List ℕ) (from n : ℕ) (o' : List ℕ) (at rest : ℕ) : Type 0 where
  pub after : List ℕ
  pub whole : decimal rest ++ after ≡ decimal n
  pub place : at ≡ from + length (decimal rest)
  pub small : rest ≤ n
  pub stored : o' ≡ sets o at after

module _ {o : List ℕ} {from n : ℕ} where
  pub stored-start : {end : ℕ} → end ≡ from + length (decimal n) → Stored o from n o end n
  stored-start e = record { after = []; whole = append-nil (decimal n); place = e; small = omega arith; stored = refl }

  module _ {o' : List ℕ} {at rest : ℕ} (s : Stored o from n o' at rest) where
    pub stored-more : from + 1 < at → 10 ≤ rest
    stored-more l = let e = s.place in more-than-nine rest (omega arith)

    pub stored-one : n < 2 ^ 64 → at ≤ from + 1 → rest < 10
    stored-one h l = let e = s.place in let y = s.small in up_to_nine rest (omega arith) (omega arith)

    pub stored_on : n < 2 ^ 64 → 10 ≤ rest → {d : ℕ} → d ≡ 0x30 + rest % 10 → Stored o from n (set o' (at - 1) d) (at - 1) (rest / 10)
    stored_on h l {d} e =
        let y = s.small in
        let q : decimal rest ≡ decimal (rest / 10) ++ d ∷ [] = decimal-more rest l (omega arith) ∙ ap (λ (v : ℕ). decimal (rest / 10) ++ v ∷ []) (sym e) in
        let a : length (decimal rest) ≡ length (decimal (rest / 10)) + 1 = ap length q ∙ length-append (decimal (rest / 10)) (d ∷ []) in
        let b = s.place in
        record {
          after = d ∷ s.after;
          whole = sym (append_assoc (decimal (rest / 10)) (d ∷ []) s.after) ∙ ap (λ (v : List ℕ). v ++ s.after) (sym q) ∙ s.whole;
          place = omega arith;
          small = omega arith;
          stored = set_front o d s.after (omega arith) s.stored;
        }

    pub stored-end : rest < 10 → set o' from (0x30 + rest) ≡ sets o from (decimal n)
    stored-end l =
        let e = decimal-one rest l in let a = ap length e in let b = s.place in
        set_front o (0x30 + rest) s.after (omega arith) s.stored ∙ ap (sets o from) (ap (λ (v : List ℕ). v ++ s.after) e ∙ s.whole)
