-- Bytes that are set in a file: they stand there, elsewhere nothing changes, and to set what stands there changes nothing.
-- Assumes nothing.
use mathlib.Core.Path.{◌≡◌, refl, sym, ap, ◌∙◌}
use mathlib.Core.Logic.{◌⊎◌, inl, inr}
use mathlib.Core.List.{List, [], ◌∷◌}
use Prim.Native.Nat.{ℕ, zero, suc, ◌+◌, ◌≤◌, ◌<◌}
use native.Mathlib.Omega.{arith}
use lib.ListN.{length, get_or, set, length-set}
use lib.Seq.{get_or-set_same, get_or-set_other, set-get_or, sets, length-sets}
use Rattle.room.proofs.Lies.{Lies, lies_head, lies_tail}

-- bytes that were set: elsewhere nothing changes
pub sets-out : (s f : List ℕ) (p k : ℕ) → (k < p) ⊎ (p + length s ≤ k) → get_or (sets f p s) k 0 ≡ get_or f k 0
sets-out [] f p k h = refl
sets-out (b ∷ s) f p k h =
    sets-out s (set f p b) (suc p) k (elim h [ inl l ↦ inl (omega arith) | inr l ↦ inr (omega arith) ])
    ∙ get_or-set_other f p k b 0 (λ e. elim h [ inl l ↦ omega arith | inr l ↦ omega arith ])

-- and there they stand
pub sets_lie : (s f : List ℕ) (p : ℕ) → p + length s ≤ length f → Lies (sets f p s) p s
sets_lie s f p h = record { inside = omega (arith, length-sets f p s); same = λ k l. there s f p k h l }
  where
    there : (s f : List ℕ) (p k : ℕ) → p + length s ≤ length f → k < length s → get_or (sets f p s) (p + k) 0 ≡ get_or s k 0
    there [] f p k h l = absurd (omega arith)
    there (b ∷ s) f p zero h l =
        let e : p + 0 ≡ p = omega arith in
        rw e (sets-out s (set f p b) (suc p) p (inl (omega arith)) ∙ get_or-set_same f p b 0 (omega arith))
    there (b ∷ s) f p (suc k) h l = let e : p + suc k ≡ suc p + k = omega arith in rw e (there s (set f p b) (suc p) k (omega (arith, length-set f p b)) (omega arith))

pub sets_same : (s f : List ℕ) (p : ℕ) → Lies f p s → sets f p s ≡ f
sets_same [] f p h = refl
sets_same (b ∷ s) f p h =
    let e : set f p b ≡ f = ap (set f p) (sym (lies_head h)) ∙ set-get_or f p 0 in
    let q : p + 1 ≡ suc p = omega arith in
    rw e (sets_same s f (suc p) (rw q at (lies_tail h)))
