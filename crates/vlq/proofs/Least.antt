-- The least byte count: it holds its number, none less does, and it is the number's own shortest form.
-- Assumes nothing.
use mathlib.Core.Path.{◌≡◌, refl, ap}
use mathlib.Core.Bool.{Bool, true, false, cond}
use Prim.Native.Nat.{ℕ, zero, suc, ◌+◌, ◌^◌, ◌≤◌, ◌<◌}
use native.Mathlib.Omega.{arith}
use native.Mathlib.Decide.{dec_le, dec_lt}
use lib.Dec.{ltb}
use lib.ListN.{length}
use borrow.Author.Tests.{ltb-true, ltb-false, le-ltb}
use Rattle.vlq.specs.Vlq.{in_bytes, from, least, vlq}

chosen : {A : Type 0} (Q : A → Type 0) (b : Bool) {x y : A} → (b ≡ true → Q x) → (b ≡ false → Q y) → Q (cond b x y)
chosen Q true h k = h refl
chosen Q false h k = k refl

-- ---- from k on

from_in : (more k : ℕ) (n : ℕ → ℕ) → (k ≤ from more k n) × (from more k n ≤ k + more)
unfolding from
from_in zero k n = (omega arith, omega arith)
from_in (suc more) k n = chosen (λ v. (k ≤ v) × (v ≤ k + suc more)) (ltb (n k) (128 ^ k)) (λ t. (omega arith, omega arith))
    (λ t. let i = from_in more (suc k) n in (omega arith, omega arith))

from_le : (more k : ℕ) (n : ℕ → ℕ) (j : ℕ) → k ≤ j → n j < 128 ^ j → from more k n ≤ j
unfolding from
from_le zero k n j l h = l
from_le (suc more) k n j l h = chosen (λ v. v ≤ j) (ltb (n k) (128 ^ k)) (λ t. l) λ t. elim (dec_le (suc k) j) [
  | yes m ↦ from_le more (suc k) n j m h
  | no m ↦ let e : j ≡ k = omega arith in let h' : n k < 128 ^ k = rw e at h in absurd (omega (arith, ltb-false (n k) (128 ^ k) t))
]

from-fits : (more k : ℕ) (n : ℕ → ℕ) → n (from more k n) < 128 ^ (k + more) → n (from more k n) < 128 ^ from more k n
unfolding from
from-fits zero k n h = let e : k + 0 ≡ k = omega arith in rw e at h
from-fits (suc more) k n h =
    chosen (λ v. n v < 128 ^ (k + suc more) → n v < 128 ^ v) (ltb (n k) (128 ^ k)) (λ t g. ltb-true (n k) (128 ^ k) t)
    (λ t g. let e : k + suc more ≡ suc k + more = omega arith in from-fits more (suc k) n (rw e at g)) h

from-top : (more k : ℕ) (n : ℕ → ℕ) → 128 ^ from more k n ≤ n (from more k n) → from more k n ≡ k + more
unfolding from
from-top zero k n h = omega arith
from-top (suc more) k n h =
    chosen (λ v. 128 ^ v ≤ n v → v ≡ k + suc more) (ltb (n k) (128 ^ k)) (λ t g. absurd (omega (arith, ltb-true (n k) (128 ^ k) t)))
    (λ t g. omega (arith, from-top more (suc k) n g)) h

-- ---- the least of 1 to 4

pub least-in : (n : ℕ → ℕ) → (1 ≤ least n) × (least n ≤ 4)
unfolding least
least-in n = let i = from_in 3 1 n in (i.0, i.1)

-- no count that holds the number is less
pub least-le : (n : ℕ → ℕ) (k : ℕ) → 1 ≤ k → n k < 128 ^ k → least n ≤ k
unfolding least
least-le n k l h = from_le 3 1 n k l h

-- it holds the number, where four bytes do
pub least_fits : (n : ℕ → ℕ) → n (least n) < 2 ^ 28 → n (least n) < 128 ^ least n
unfolding least
least_fits n h = from-fits 3 1 n (omega arith)

-- where it does not, it is four
least-top : (n : ℕ → ℕ) → 128 ^ least n ≤ n (least n) → least n ≡ 4
unfolding least
least-top n h = from-top 3 1 n h

-- a lesser number has no greater count
pub least-up : (m n : ℕ → ℕ) → m (least n) ≤ n (least n) → least m ≤ least n
least-up m n u =
    let i = least-in n in let j = least-in m in
    elim (dec_lt (n (least n)) (128 ^ least n)) [
      | yes f ↦ least-le m (least n) i.0 (omega arith)
      | no f ↦ omega (arith, least-top n (omega arith))
    ]

-- the number that counts its own bytes has this count of them in its shortest form
pub least-short : (n : ℕ → ℕ) → ((j : ℕ) → j ≤ least n → n j ≤ n (least n)) → n (least n) < 2 ^ 28 → least (λ _. n (least n)) ≡ least n
least-short n up h =
    let N : ℕ = n (least n) in let i = least-in n in let f = least_fits n h in let m : ℕ = least (λ _. N) in
    let a : m ≤ least n = least-le (λ _. N) (least n) i.0 f in
    let j = least-in (λ _. N) in let g : N < 128 ^ m = least_fits (λ _. N) h in
    let b : least n ≤ m = least-le n m j.0 (omega (arith, up m a)) in
    omega arith

-- a number that four bytes do not hold has four
pub least-most : (n : ℕ) → 2 ^ 28 ≤ n → least (λ _. n) ≡ 4
unfolding least from
least-most n h =
    let a : 128 ^ 1 ≤ n = omega arith in let b : 128 ^ 2 ≤ n = omega arith in let c : 128 ^ 3 ≤ n = omega arith in
    simp (le-ltb _ _ a, le-ltb _ _ b, le-ltb _ _ c)

-- a number that counts its own bytes has at least this count of them in its shortest form
pub least-within : (n : ℕ → ℕ) → ((j : ℕ) → j ≤ least n → n j ≤ n (least n)) → least n ≤ least (λ _. n (least n))
least-within n up = elim (dec_lt (n (least n)) (2 ^ 28)) [
  | yes h ↦ omega (arith, least-short n up h)
  | no h ↦ omega (arith, (least-in n).1, least-most (n (least n)) (omega arith))
]

-- ---- written

pub in_bytes_length : (k n : ℕ) → length (in_bytes k n) ≡ k
unfolding in_bytes
in_bytes_length zero n = refl
in_bytes_length (suc k) n = ap suc (in_bytes_length k n)

pub vlq-length : (n : ℕ) → length (vlq n) ≡ least (λ _. n)
unfolding vlq
vlq-length n = in_bytes_length (least (λ _. n)) n

pub vlq-some : (n : ℕ) → 0 < length (vlq n)
vlq-some n = omega (arith, vlq-length n, (least-in (λ _. n)).0)
