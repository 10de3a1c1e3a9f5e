-- Whether a number fits its bytes, the lines, and a field that is set.
-- Assumes nothing.
use mathlib.Core.Path.{◌≡◌, sym, ap}
use mathlib.Core.List.{List, [], ◌∷◌}
use Prim.Native.Nat.{ℕ, ◌+◌, ◌^◌, ◌≤◌, ◌<◌}
use native.Mathlib.Omega.{arith}
use lib.Dec.{ltb}
use borrow.Author.Tests.{eq-eqb, ne_eqb}
use lib.ListN.{length}
use lib.Seq.{sets}
use Rattle.vlq.specs.Vlq.{in_bytes}
use Rattle.vlq.proofs.Least.{in_bytes_length}
use Rattle.room.specs.Counts.{Counts, too_many}
use Rattle.room.specs.Decimal.{decimal}
use Rattle.room.proofs.Counting.{counts-then}
use Rattle.mend.specs.Fields.{Field}
use Rattle.mend.specs.Mend.{tabbed, line, both_lines}

-- ---- whether a number fits

pub fits-at : (n k m : ℕ) → k ≡ m → ltb n (128 ^ m) ≡ ltb n (128 ^ k)
fits-at n k m e = ap (λ j. ltb n (128 ^ j)) (sym e)

-- ---- a line

pub tabbed-is : (n : ℕ) {o o₁ o₂ : List ℕ} {s s₁ s₂ : ℕ} → Counts o o₁ s (9 ∷ []) s₁ → Counts o₁ o₂ s₁ (decimal n) s₂ → Counts o o₂ s (tabbed n) s₂
unfolding tabbed
tabbed-is n p q = counts-then p q

module _ (name : List ℕ) (x : Field) (n : ℕ) {o o₁ : List ℕ} {s s₁ : ℕ} where
  pub line_same : x.value ≡ n → Counts o o₁ s [] s₁ → Counts o o₁ s (line name x n) s₁
  unfolding line
  line_same e p = rw (eq-eqb x.value n e) p

  pub line-is : ((x.value ≡ n) → ⊥) → {o₂ o₃ o₄ o₅ : List ℕ} {s₂ s₃ s₄ s₅ : ℕ} → Counts o o₁ s name s₁ → Counts o₁ o₂ s₁ (tabbed x.place)
      s₂ → Counts o₂ o₃ s₂ (tabbed x.value) s₃
      → Counts o₃ o₄ s₃ (tabbed n) s₄ → Counts o₄ o₅ s₄ (10 ∷ []) s₅ → Counts o o₅ s (line name x n) s₅
  unfolding line
  line-is e p q u v w = rw (ne_eqb x.value n e) (counts-then (counts-then (counts-then (counts-then p q) u) v) w)

pub lines_are : (x y : Field) (n m : ℕ) {o o₁ o₂ : List ℕ} {s s₁ s₂ : ℕ} → Counts o o₁ s (line (0x46 ∷ 0x69 ∷ 0x6C ∷ 0x65 ∷ 0x4C ∷ 0x65 ∷ 0x6E ∷ 0x67 ∷ 0x74 ∷ 0x68 ∷ []) x n) s₁
    → Counts o₁ o₂ s₁ (line (0x54 ∷ 0x72 ∷ 0x65 ∷ 0x65 ∷ 0x45 ∷ 0x6E ∷ 0x64 ∷ []) y m) s₂ → Counts o o₂ s (both_lines x y n m) s₂
unfolding both_lines
lines_are x y n m p q = counts-then p q

-- ---- a field that is set: its bytes have room

pub set_is : (k n : ℕ) {o o' : List ℕ} {p r : ℕ} → Counts o o' p (in_bytes k n) r → p + k ≤ length o → length o < too_many → o' ≡ sets o p (in_bytes k n)
set_is k n w l m = let e = in_bytes_length k n in let a = w.after in w.fits (omega arith) (omega arith)
