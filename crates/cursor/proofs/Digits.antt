-- A number byte by byte, at a count of bytes to come that is a variable: so the laws are a GUID's too. And the bound of a number's value, over the byte count.
-- Assumes nothing.
use mathlib.Core.Path.{◌≡◌, refl, sym, ap, ◌∙◌}
use mathlib.Core.List.{List}
use Prim.Native.Nat.{ℕ, zero, suc, ◌+◌, ◌*◌, ◌%◌, ◌-◌, ◌^◌, ◌<◌, ◌≤◌}
use native.Mathlib.Nat.{pow-succ', pow-le-pow_right, lt_of_lt_of_le}
use native.Mathlib.Numerals.{sub-one}
use native.Mathlib.Omega.{arith}
use native.Mathlib.Decide.{dec_lt}
use lib.ListN.{get_or}
use borrow.Author.Tests.{lt-ltb, le-ltb}
use Rattle.machine.specs.Machine.{Out, ok, refused, run}
use Rattle.cursor.specs.Rows.{Frame}
use Rattle.cursor.specs.Leaves.{next, digits, number, guid}
use Rattle.machine.proofs.Laws.{and_then, running, never}

module _ (κ : Frame) (past end p : ℕ) (f : List ℕ) (at v : ℕ) where
  pub digits-none : (left : ℕ) → left ≡ 0 → run (digits κ past end p left v) f at ≡ refused 4 p
  unfolding digits
  digits-none left e = rw e (simp running)

  pub digits-missing : (left : ℕ) → ((left ≡ 0) → ⊥) → end ≤ at → run (digits κ past end p left v) f at ≡ refused past p
  unfolding digits next
  digits-missing zero some l = absurd (some refl)
  digits-missing (suc left) some l = simp (running, le-ltb _ _ l)

  pub digits_last : (left : ℕ) → ((left ≡ 0) → ⊥) → at < end → get_or f at 0 < 128 → run (digits κ past end p left v) f at ≡ ok (v * 128 + get_or f at 0) (at + 1)
  unfolding digits next
  digits_last zero some l b = absurd (some refl)
  digits_last (suc left) some l b = simp (running, lt-ltb _ _ l, lt-ltb _ _ b)

  pub digits_more : (left : ℕ) → ((left ≡ 0) → ⊥) → at < end → 128 ≤ get_or f at 0
      → run (digits κ past end p left v) f at ≡ run (digits κ past end p (left - 1) (v * 128 + get_or f at 0 % 128)) f (at + 1)
  unfolding digits next
  digits_more zero some l b = absurd (some refl)
  digits_more (suc left) some l b = simp (running, lt-ltb _ _ l, le-ltb _ _ b, sub-one)

-- ---- where a number stands: the bytes from `at` to q give w, when the earlier ones gave v and at most `left` may come

pub data Digits (f : List ℕ) : (left v at w q : ℕ) → Type 0 where
  final : {left v at : ℕ} → get_or f at 0 < 128 → Digits f (suc left) v at (v * 128 + get_or f at 0) (at + 1)
  further : {left v at w q : ℕ} → 128 ≤ get_or f at 0 → Digits f left (v * 128 + get_or f at 0 % 128) (at + 1) w q → Digits f (suc left) v at w q

ahead : {f : List ℕ} {left v at w q : ℕ} → Digits f left v at w q → at < q
ahead (final s) = omega arith
ahead (further s d) = omega (arith, ahead d)

module _ (κ : Frame) (past end p : ℕ) {f : List ℕ} where
  -- it is read in any part that holds it
  pub digits-read : {left v at w q : ℕ} → Digits f left v at w q → q ≤ end → run (digits κ past end p left v) f at ≡ ok w q
  digits-read (final {left} {v} {at} s) l = digits_last κ past end p f at v (suc left) (λ z. omega arith) (omega arith) s
  digits-read (further {left} {v} {at} s d) l =
      let a : suc left - 1 ≡ left = omega arith in
      digits_more κ past end p f at v (suc left) (λ z. omega arith) (omega (arith, ahead d)) s ∙ rw a (digits-read d l)

  -- and what was read stands there
  pub digits-were : (left v at : ℕ) {w q : ℕ} → run (digits κ past end p left v) f at ≡ ok w q → Digits f left v at w q × (q ≤ end)
  digits-were zero v at e = never (sym (digits-none κ past end p f at v 0 refl) ∙ e)
  digits-were (suc left) v at {w} {q} e =
      let some : (suc left ≡ 0) → ⊥ = λ z. omega arith in let a : suc left - 1 ≡ left = omega arith in
      elim (dec_lt at end) [
        | no n ↦ never (sym (digits-missing κ past end p f at v (suc left) some (omega arith)) ∙ e)
        | yes i ↦ elim (dec_lt (get_or f at 0) 128) [
          | yes s ↦
              let r : ok (v * 128 + get_or f at 0) (at + 1) ≡ ok w q = sym (digits_last κ past end p f at v (suc left) some i s) ∙ e in
              let x : v * 128 + get_or f at 0 ≡ w = cc in let y : at + 1 ≡ q = cc in
              (rw (← x, ← y) (final s), omega arith)
          | no s ↦ let (d, l) = digits-were left (v * 128 + get_or f at 0 % 128) (at + 1)
              (rw a at (sym (digits_more κ past end p f at v (suc left) some i (omega arith)) ∙ e)) in (further {at = at} (omega arith) d, l)
        ]
      ]

-- ---- the loop: what is left of a field that began at p is the whole. `keeps` is what the field keeps of the number.

pub record Rest {A : Type 0} (whole : Frame → Out A) (keeps : Out ℕ → Out A) (f : List ℕ) (past end p left v at : ℕ) : Type 0 where
  pub same : (κ : Frame) → whole κ ≡ keeps (run (digits κ past end p left v) f at)

abbrev pub Reading : (f : List ℕ) (past end p left v at : ℕ) → Type 0
Reading f past end p left v at = Rest (λ κ. run (number κ past end) f p) (λ o. o) f past end p left v at

pub begun : (f : List ℕ) (past end p : ℕ) → Reading f past end p 4 0 p
unfolding number
begun f past end p = record { same = λ κ. simp running }

-- a GUID keeps no value
abbrev pub dropped : Out ℕ → Out (Unit {0})
dropped o = and_then o (λ v q. ok tt q)

pub guid-is : (κ : Frame) (f : List ℕ) (end p : ℕ) → run (guid κ end) f p ≡ dropped (run (digits κ 3 end p 19 0) f p)
unfolding guid
guid-is κ f end p = simp running

abbrev pub GuidReading : (f : List ℕ) (end p left at : ℕ) → Type 0
GuidReading f end p left at = (v : ℕ) × Rest (λ κ. run (guid κ end) f p) dropped f 3 end p left v at

pub guid-begun : (f : List ℕ) (end p : ℕ) → GuidReading f end p 19 p
guid-begun f end p = (0, record { same = λ κ. guid-is κ f end p })

module _ {A : Type 0} {whole : Frame → Out A} {keeps : Out ℕ → Out A} {f : List ℕ} {past end p left v at : ℕ} (r : Rest whole keeps f past end p left v at) where
  pub out : left ≡ 0 → (κ : Frame) → keeps (refused 4 p) ≡ whole κ
  out z κ = sym (r.same κ ∙ ap keeps (digits-none κ past end p f at v left z))

  module _ (some : (left ≡ 0) → ⊥) where
    pub missing : end ≤ at → (κ : Frame) → keeps (refused past p) ≡ whole κ
    missing l κ = sym (r.same κ ∙ ap keeps (digits-missing κ past end p f at v left some l))

    module _ (l : at < end) {b : ℕ} (is : b ≡ get_or f at 0) where
      pub last : b < 128 → (κ : Frame) → keeps (ok (v * 128 + b % 128) (at + 1)) ≡ whole κ
      last h κ =
          let m : v * 128 + b % 128 ≡ v * 128 + get_or f at 0 = omega arith in
          rw m (sym (r.same κ ∙ ap keeps (digits_last κ past end p f at v left some l (rw is at h))))

      pub more : 128 ≤ b → Rest whole keeps f past end p (left - 1) (v * 128 + b % 128) (at + 1)
      more h = record { same = λ κ. r.same κ ∙ ap keeps (digits_more κ past end p f at v left some l (rw is at h)) ∙ rw is }

-- the value of k bytes is below 128 ^ k
pub grown : (v d left : ℕ) → ((left ≡ 0) → ⊥) → left ≤ 4 → v < 128 ^ (4 - left) → v * 128 + d % 128 < 128 ^ (4 - (left - 1))
grown v d left h l b =
    let e : 4 - (left - 1) ≡ suc (4 - left) = omega arith in
    rw (e, pow-succ' 128 (4 - left)) (omega arith)

pub below : (v left : ℕ) → v < 128 ^ (4 - left) → v < 128 ^ 4
below v left b = lt_of_lt_of_le b (pow-le-pow_right (omega arith) {i = 4 - left} {j = 4} (omega arith))
