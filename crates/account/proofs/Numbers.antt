-- A number that was read ends with its first byte below 80h.
-- Assumes nothing.
use mathlib.Core.Path.{◌≡◌, refl, sym, ap, ◌∙◌}
use mathlib.Core.Bool.{Bool, true, false, cond}
use mathlib.Core.List.{List}
use Prim.Native.Nat.{ℕ, zero, suc, ◌+◌, ◌≤◌, ◌<◌}
use native.Mathlib.Omega.{arith}
use borrow.Author.Tests.{lt-ltb, le-ltb}
use lib.Dec.{ltb}
use lib.ListN.{get_or}
use Rattle.machine.specs.Machine.{ok, run}
use Rattle.cursor.specs.Rows.{Frame}
use Rattle.cursor.specs.Leaves.{number}
use Rattle.cursor.proofs.Digits.{Digits, final, further, digits-were, begun}
use Rattle.account.specs.ByRows.{last_from, last_byte, behind}

module _ (f : List ℕ) where
  -- one byte more
  last-here : (more p : ℕ) → get_or f p 0 < 128 → last_from f more p ≡ p
  unfolding last_from
  last-here zero p l = refl
  last-here (suc more) p l = simp (lt-ltb _ _ l)

  last-later : (more p : ℕ) → 128 ≤ get_or f p 0 → last_from f (suc more) p ≡ last_from f more (p + 1)
  unfolding last_from
  last-later more p l = simp (le-ltb _ _ l)

  last-only : (p : ℕ) → last_from f 0 p ≡ p
  unfolding last_from
  last-only p = refl

  -- which byte is the last, by its bytes
  pub last-first : (p : ℕ) → get_or f p 0 < 128 → p ≡ last_byte f p
  last-first p a = sym (last-here 3 p a)

  pub last-second : (p : ℕ) → 128 ≤ get_or f p 0 → get_or f (p + 1) 0 < 128 → p + 1 ≡ last_byte f p
  last-second p a b = sym (last-later 2 p a ∙ last-here 2 (p + 1) b)

  pub last-third : (p : ℕ) → 128 ≤ get_or f p 0 → 128 ≤ get_or f (p + 1) 0 → get_or f (p + 2) 0 < 128 → p + 2 ≡ last_byte f p
  last-third p a b c = let e : p + 1 + 1 ≡ p + 2 = omega arith in omega (arith, last-later 2 p a, rw e at (last-later 1 (p + 1) b), last-here 1 (p + 2) c)

  pub last-fourth : (p : ℕ) → 128 ≤ get_or f p 0 → 128 ≤ get_or f (p + 1) 0 → 128 ≤ get_or f (p + 2) 0 → p + 3 ≡ last_byte f p
  last-fourth p a b c =
      let e : p + 1 + 1 ≡ p + 2 = omega arith in
      omega (arith, last-later 2 p a, rw e at (last-later 1 (p + 1) b), last-later 0 (p + 2) c, last-only (p + 2 + 1))

  -- it is not before the first
  pub last_on : (more p : ℕ) → p ≤ last_from f more p
  unfolding last_from
  last_on zero p = omega arith
  last_on (suc more) p = by (ltb (get_or f p 0) 128) (last_on more (p + 1))
    where
      by : (b : Bool) → p + 1 ≤ last_from f more (p + 1) → p ≤ (cond b p (last_from f more (p + 1)))
      by true l = omega arith
      by false l = omega arith

  no-digits : {left v at w q : ℕ} → Digits f left v at w q → left ≡ 0 → ⊥
  no-digits (final s) e = omega arith
  no-digits (further s d) e = omega arith

  digits-ended : {left v at w q : ℕ} → Digits f left v at w q → (more : ℕ) → left ≡ suc more → last_from f more at + 1 ≡ q
  digits-ended (final s) more e = ap (λ p. p + 1) (last-here more _ s)
  digits-ended (further s d) zero e = absurd (no-digits d (omega arith))
  digits-ended (further s d) (suc more) e = ap (λ p. p + 1) (last-later more _ s) ∙ digits-ended d more (omega arith)

  pub number-ended : (κ : Frame) (past end at : ℕ) {v q : ℕ} → run (number κ past end) f at ≡ ok v q → behind f at ≡ q
  number-ended κ past end at e = digits-ended (digits-were κ past end at 4 0 at (sym ((begun f past end at).same κ) ∙ e)).0 3 refl
