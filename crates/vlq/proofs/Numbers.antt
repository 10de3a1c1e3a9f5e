-- A number byte by byte, and the least count of bytes that holds it.
-- Assumes nothing.
use mathlib.Core.Path.{◌≡◌, refl}
use mathlib.Core.List.{List, [], ◌∷◌, ◌++◌}
use Prim.Native.Nat.{ℕ, zero, suc, ◌+◌, ◌-◌, ◌*◌, ◌/◌, ◌%◌, ◌^◌, ◌≤◌, ◌<◌}
use native.Mathlib.Nat.{pow-succ', pow-le-pow_right}
use native.Mathlib.Omega.{arith}
use borrow.Author.Tests.{lt-ltb, le-ltb}
use Rattle.vlq.specs.Vlq.{in_bytes, from, least, vlq}
use Rattle.room.specs.Counts.{Counts}

-- ---- the bytes of a number

pub digit_more : (k n : ℕ) {left b : ℕ} → left ≡ k - 1 → 0 < k → 0 < left → b ≡ 128 + n / 128 ^ left % 128 → in_bytes k n ≡ (b ∷ []) ++ in_bytes left n
unfolding in_bytes
digit_more zero n e l m h = absurd (omega arith)
digit_more (suc zero) n e l m h = absurd (omega arith)
digit_more (suc (suc k)) n {left} e l m h = let q : left ≡ suc k = omega arith in rw (h, q) refl

pub digit_last : (k n : ℕ) {left b : ℕ} → left ≡ k - 1 → 0 < k → left ≤ 0 → b ≡ n / 128 ^ left % 128 → in_bytes k n ≡ (b ∷ []) ++ in_bytes left n
unfolding in_bytes
digit_last zero n e l m h = absurd (omega arith)
digit_last (suc zero) n {left} e l m h = let q : left ≡ 0 = omega arith in rw (h, q) (let z : 0 + n / 1 % 128 ≡ n / 1 % 128 = omega arith in rw z refl)
digit_last (suc (suc k)) n e l m h = absurd (omega arith)

pub none_left : (k n : ℕ) → k ≤ 0 → in_bytes k n ≡ []
unfolding in_bytes
none_left zero n l = refl
none_left (suc k) n l = absurd (omega arith)

-- ---- the least count, one count after the other

module _ (n : ℕ → ℕ) where
  pub one_byte : n 1 < 128 → 1 ≡ least n
  unfolding least from
  one_byte a = simp (lt-ltb (n 1) (128 ^ 1) a)

  pub two_bytes : 128 ≤ n 1 → n 2 < 16384 → 2 ≡ least n
  unfolding least from
  two_bytes a b = simp (le-ltb (n 1) (128 ^ 1) a, lt-ltb (n 2) (128 ^ 2) b)

  pub three_bytes : 128 ≤ n 1 → 16384 ≤ n 2 → n 3 < 2097152 → 3 ≡ least n
  unfolding least from
  three_bytes a b c = simp (le-ltb (n 1) (128 ^ 1) a, le-ltb (n 2) (128 ^ 2) b, lt-ltb (n 3) (128 ^ 3) c)

  pub four_bytes : 128 ≤ n 1 → 16384 ≤ n 2 → 2097152 ≤ n 3 → 4 ≡ least n
  unfolding least from
  four_bytes a b c = simp (le-ltb (n 1) (128 ^ 1) a, le-ltb (n 2) (128 ^ 2) b, le-ltb (n 3) (128 ^ 3) c)

pub short-number : (n : ℕ) → n < 128 → n ∷ [] ≡ vlq n
unfolding vlq in_bytes
short-number n l = let e : 0 + n / 1 % 128 ≡ n = omega arith in rw (← one_byte (λ _. n) l, e) refl

pub number_put : {o o' : List ℕ} {to r : ℕ} (n k : ℕ) → k ≡ least (λ _. n) → Counts o o' to (in_bytes k n) r → Counts o o' to (vlq n) r
unfolding vlq
number_put n k e h = rw e at h

-- ---- powers

pub power_on : {r : ℕ} (i : ℕ) → r ≡ 128 ^ i → r * 128 ≡ 128 ^ (i + 1)
power_on {r} i e = let q : i + 1 ≡ suc i = omega arith in rw (e, q, pow-succ' 128 i) (omega arith)

pub power_most : (i : ℕ) → i ≤ 4 → 128 ^ i ≤ 128 ^ 4
power_most i l = pow-le-pow_right (omega arith) {i = i} {j = 4} l

pub power_some : (i : ℕ) → 0 < 128 ^ i
power_some zero = omega arith
power_some (suc i) = rw (pow-succ' 128 i) (omega (arith, power_some i))
