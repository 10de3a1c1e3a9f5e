-- Lengths and places that count their own bytes, as the code finds them.
-- Assumes nothing.
use mathlib.Core.Path.{◌≡◌, refl, ◌∙◌}
use Prim.Native.Nat.{ℕ, ◌+◌, ◌-◌, ◌≤◌}
use native.Mathlib.Omega.{arith}
use Rattle.vlq.specs.Vlq.{from, least}
use Rattle.vlq.proofs.Least.{least-in}
use Rattle.title_text.specs.Text.{header_bytes, header_size, length_bytes, start_with, last_bytes, start_bytes, start_at, file_bytes}

-- numbers that are the same at each count have the same least count
least-as : (m n : ℕ → ℕ) → ((k : ℕ) → 1 ≤ k → m k ≡ n k) → least m ≡ least n
unfolding least from
least-as m n e = rw (e 1 (omega arith), e 2 (omega arith), e 3 (omega arith)) refl

pub few : (n : ℕ) {r : ℕ} → r ≡ least (λ _. n) → r ≤ 4
few n e = omega (arith, e, (least-in (λ _. n)).1)

-- ---- a node

module _ (fixed a : ℕ) where
  pub header-found : {r : ℕ} → r ≡ least (λ k. k + (a + fixed)) → a + r + fixed ≡ header_size fixed a
  unfolding header_size header_bytes
  header-found e = let q = least-as (λ k. k + (a + fixed)) (λ b. a + b + fixed) (λ k l. omega arith) in omega arith

  pub header-few : {r : ℕ} → r ≡ header_size fixed a → r ≤ a + 4 + fixed
  unfolding header_size header_bytes
  header-few e = omega (arith, e, (least-in (λ b. a + b + fixed)).1)

pub length-few : (fixed contents : ℕ) {r : ℕ} → r ≡ length_bytes fixed contents → r ≤ 4
unfolding length_bytes
length-few fixed contents e = omega (arith, e, (least-in (λ a. header_size fixed a + contents)).1)

-- ---- the file

module _ (fixed tree x : ℕ) where
  pub last_found : (y : ℕ) → 1 ≤ x → {r : ℕ} → r ≡ least (λ k. k + (x + y + fixed + tree - 1)) → r ≡ last_bytes fixed tree x y
  unfolding last_bytes
  last_found y l e = e ∙ least-as (λ k. k + (x + y + fixed + tree - 1)) (λ z. start_with fixed x y z + tree - 1) (λ k m. omega arith)

  pub last-few : (y : ℕ) {r : ℕ} → r ≡ last_bytes fixed tree x y → r ≤ 4
  unfolding last_bytes
  last-few y e = omega (arith, e, (least-in (λ z. start_with fixed x y z + tree - 1)).1)

  pub start-few : {r : ℕ} → r ≡ start_at fixed tree x → r ≤ x + 8 + fixed
  unfolding start_at start_bytes
  start-few e = omega (arith, e, (least-in (λ y. start_with fixed x y (last_bytes fixed tree x y))).1, last-few (start_bytes fixed tree x) refl)

pub tree-few : (fixed tree after : ℕ) {r : ℕ} → r ≡ start_at fixed tree (file_bytes fixed tree after) → (1 ≤ r) × (r ≤ fixed + 12)
unfolding file_bytes start_at
tree-few fixed tree after e = let l = least-in (λ x. start_at fixed tree x + tree + after) in (omega arith, omega (arith, start-few fixed tree (file_bytes fixed tree after) refl))
