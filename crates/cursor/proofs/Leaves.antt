-- The laws of the leaves: each moves on, stays inside its part, and is small. Callers use these, never the text of a definition.
-- Assumes nothing.
use mathlib.Core.Path.{◌≡◌, sym}
use mathlib.Core.List.{List}
use Prim.Native.Nat.{ℕ, zero, suc, ◌+◌, ◌*◌, ◌%◌, ◌^◌, ◌≤◌, ◌<◌}
use native.Mathlib.Nat.{lt_of_not-le, mul_assoc, mul-le-mul_left, mul-le-mul_right, pow-succ', pow-le-pow_right}
use native.Mathlib.Decide.{dec_le}
use native.Mathlib.Omega.{arith}
use lib.ListN.{get_or}
use borrow.Author.Tests.{ltb-true, leb-true, le-leb, lt-leb, eq-eqb, ne_eqb, lt-ltb, le-ltb}
use Rattle.machine.specs.Machine.{ok, refused, run}
use Rattle.cursor.specs.Rows.{Frame, Part}
use Rattle.cursor.specs.Leaves.{next, digits, number, block, manufacturer, guid}
use Rattle.machine.proofs.Laws.{running}
use Rattle.cursor.proofs.Digits.{begun, last}
use Rattle.machine.proofs.Stable.{depends}
use Rattle.machine.proofs.Within.{same}
use Rattle.cursor.proofs.Within.{number-within}
use Rattle.machine.proofs.Wp.{Wp, Rule, Free, at_end, wp_after, wp_weaken, wp_ret, wp_refuse, wp_here, wp_byte, wp_if, wp_check, wp_place}
use Rattle.machine.proofs.Agree.{AgreeUpTo}

module _ {U : Rule Part} where
  -- one byte
  pub next-on : (κ : Frame) (past end p at : ℕ) → Wp U (next κ past end p) (λ _ q. (q ≡ at + 1) × (q ≤ end)) at
  unfolding next
  next-on κ past end p at = wp_here (wp_if (λ t. wp_byte λ b. wp_ret (omega arith, omega (arith, ltb-true at end t))) (λ t. wp_refuse))

  -- the rest of a number, when the earlier bytes gave v
  digits-on : (κ : Frame) (past end p left v at : ℕ) → Wp U (digits κ past end p left v) (λ w q. (at < q) × (q ≤ at + left) × (q ≤ end) × (w < suc v * 128 ^ left)) at
  unfolding digits
  digits-on κ past end p zero v at = wp_refuse
  digits-on κ past end p (suc left) v at =
      wp_after (next-on κ past end p at) λ b q x.
      wp_if
      (λ t. wp_ret (omega arith, omega arith, omega arith, let l = ltb-true b 128 t in omega (arith, some (v * 128 + b) left, longer v (v * 128 + b) left (omega arith))))
      (λ t. wp_weaken (digits-on κ past end p left (v * 128 + b % 128) q)
      (λ w r y. (omega arith, omega arith, omega arith, omega (arith, longer v (v * 128 + b % 128) left (omega arith)))))
    where
      -- a byte more, and bytes that are left over
      longer : (v u left : ℕ) → u < suc v * 128 → suc u * 128 ^ left ≤ suc v * 128 ^ suc left
      longer v u left l = rw (pow-succ' 128 left, ← mul_assoc (suc v) 128 (128 ^ left)) (mul-le-mul_right (128 ^ left) l)

      some : (u left : ℕ) → suc u * 1 ≤ suc u * 128 ^ left
      some u left = mul-le-mul_left (suc u) (pow-le-pow_right {n = 128} (omega arith) {i = 0} {j = left} (omega arith))

  -- a number moves on by 1 to 4 bytes, stays inside its part, and is below 2 ^ 28
  pub number-on : (κ : Frame) (past end at : ℕ) → Wp U (number κ past end) (λ v q. (at < q) × (q ≤ at + 4) × (q ≤ end) × (v < 2 ^ 28)) at
  unfolding number
  number-on κ past end at = wp_place _ at (wp_weaken (digits-on κ past end at 4 0 at) (λ v q x. (omega arith, omega arith, omega arith, omega arith)))

  -- a block lies inside the part
  pub block_on : (κ : Frame) (past end at : ℕ) → Wp U (block κ past end) (λ v q. (at < q) × (q ≤ at + 4) × (q + v ≤ end) × (v < 2 ^ 28)) at
  unfolding block
  block_on κ past end at =
      wp_place _ at
      (wp_after (number-on κ past end at) λ size q x.
      wp_place _ q (wp_check _ _ λ t. wp_ret (omega arith, omega arith, leb-true (q + size) end t, omega arith)))

  pub manufacturer-on : (κ : Frame) (end at : ℕ) → Wp U (manufacturer κ end) (λ _ q. (at < q) × (q ≤ at + 3) × (q ≤ end)) at
  unfolding manufacturer
  manufacturer-on κ end at =
      wp_place _ at
      (wp_after (next-on κ _ end at at) λ b q x.
      wp_if
      (λ t. wp_after (next-on κ _ end at q) λ c r y. wp_after (next-on κ _ end at r) λ d s z. wp_ret (omega arith))
      (λ t. wp_ret (omega arith)))

  pub guid-on : (κ : Frame) (end at : ℕ) → Wp U (guid κ end) (λ _ q. (at < q) × (q ≤ at + 19) × (q ≤ end)) at
  unfolding guid
  guid-on κ end at = wp_place _ at (wp_after (digits-on κ _ end at 19 0 at) λ v q x. wp_ret (omega arith))

-- ---- the same of a run that is known

-- nothing is asked of what is passed, and nothing given
abbrev pub Any : Rule Part
Any = record { asks = λ w p n. Unit {0}; gets = λ w p n. Unit {0} }

pub any_free : Free Any
any_free w p n = tt

module _ (κ : Frame) (past end : ℕ) (f : List ℕ) (at : ℕ) {v q : ℕ} where
  pub number-inside : run (number κ past end) f at ≡ ok v q → (at < q) × (q ≤ at + 4) × (q ≤ end) × (v < 2 ^ 28)
  number-inside e = at_end any_free f (number-on {U = Any} κ past end at) e

  pub block_inside : run (block κ past end) f at ≡ ok v q → (at < q) × (q ≤ at + 4) × (q + v ≤ end) × (v < 2 ^ 28)
  block_inside e = at_end any_free f (block_on {U = Any} κ past end at) e

  -- a byte below 80h is the whole number
  pub number_short : at < end → v ≡ get_or f at 0 → v < 128 → q ≡ at + 1 → run (number κ past end) f at ≡ ok v q
  number_short l is h k = let m : 0 * 128 + v % 128 ≡ v = omega arith in rw k (sym (rw m at (last (begun f past end at) (λ z. omega arith) l is h κ)))

  -- a number depends on the bytes that it read alone
  pub number-depends : run (number κ past end) f at ≡ ok v q → (g : List ℕ) → AgreeUpTo f g at q → run (number κ past end) g at ≡ ok v q
  number-depends e g h = depends (number κ past end) f g at e h

-- ---- the ways through a block and a manufacturer

module _ (κ : Frame) (past end : ℕ) (f : List ℕ) (at : ℕ) where
  pub block_size : {n p : ℕ} → run (number κ past end) f at ≡ refused n p → refused n p ≡ run (block κ past end) f at
  unfolding block
  block_size e = simp (running, e)

  module _ {size q : ℕ} (e₁ : run (number κ past end) f at ≡ ok size q) where
    pub block-past : end < q + size → refused past at ≡ run (block κ past end) f at
    unfolding block
    block-past l = simp (running, e₁, lt-leb _ _ l)

    pub block-all : q + size ≤ end → ok size q ≡ run (block κ past end) f at
    unfolding block
    block-all l = simp (running, e₁, le-leb _ _ l)

module _ (κ : Frame) (end : ℕ) (f : List ℕ) (at : ℕ) where
  pub manufacturer-none : end ≤ at → refused 3 at ≡ run (manufacturer κ end) f at
  unfolding manufacturer next
  manufacturer-none l = simp (running, le-ltb _ _ l)

  module _ (l : at < end) {b : ℕ} (is : b ≡ get_or f at 0) where
    pub manufacturer-one : ((b ≡ 0) → ⊥) → ok tt (at + 1) ≡ run (manufacturer κ end) f at
    unfolding manufacturer next
    manufacturer-one n = let n' : (get_or f at 0 ≡ 0) → ⊥ = rw is at n in simp (running, lt-ltb _ _ l, ne_eqb _ _ n')

    module _ (z : b ≡ 0) where
      pub manufacturer-cut : end < at + 3 → refused 3 at ≡ run (manufacturer κ end) f at
      unfolding manufacturer next
      manufacturer-cut h =
          let z' : get_or f at 0 ≡ 0 = rw is at z in
          elim (dec_le end (at + 1)) [
            | yes k ↦ simp (running, lt-ltb _ _ l, eq-eqb _ _ z', le-ltb _ _ k)
            | no n ↦ let l₁ : at + 1 < end = lt_of_not-le n in let l₂ : end ≤ at + 1 + 1 = omega arith in simp (running, lt-ltb _ _ l, eq-eqb _ _ z', lt-ltb _ _ l₁, le-ltb _ _ l₂)
          ]

      pub manufacturer-three : at + 3 ≤ end → ok tt (at + 3) ≡ run (manufacturer κ end) f at
      unfolding manufacturer next
      manufacturer-three h =
          let z' : get_or f at 0 ≡ 0 = rw is at z in let l₁ : at + 1 < end = omega arith in
          let l₂ : at + 1 + 1 < end = omega arith in let e : at + 1 + 1 + 1 ≡ at + 3 = omega arith in
          simp (running, lt-ltb _ _ l, eq-eqb _ _ z', lt-ltb _ _ l₁, lt-ltb _ _ l₂, e)

-- ---- a number, given or refused, depends on the bytes of its part alone

pub number_same : (f g : List ℕ) (κ : Frame) (past end at : ℕ) → AgreeUpTo f g at end → run (number κ past end) f at ≡ run (number κ past end) g at
number_same f g κ past end at h = same (number-within κ past end) f g at h
