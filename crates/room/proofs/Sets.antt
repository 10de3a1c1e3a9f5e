-- Words stored one after the other, from a table's first word on, and cleared behind.
-- Assumes nothing.
use Prim.Native.Nat.{ℕ, zero, suc, ◌+◌, ◌-◌, ◌≤◌}
use mathlib.Core.Path.{◌≡◌, sym, ap, ◌∙◌}
use mathlib.Core.List.{List, [], ◌∷◌, ◌++◌}
use native.Mathlib.Nat.{zero-add, add-zero, add-suc, suc-add, sub-zero, zero-sub, suc-sub-suc}
use native.Mathlib.Omega.{arith}
use lib.ListN.{length, replicate, take, drop, set, length-replicate}
use lib.Seq.{sets, sets-eq, take_at}
use Rattle.room.specs.Room.{padded}

pub sets-append : {X : Type 0} (t : List X) (i : ℕ) (xs ys : List X) → sets (sets t i xs) (i + length xs) ys ≡ sets t i (xs ++ ys)
sets-append t i [] ys = rw add-zero
sets-append t i (x ∷ xs) ys = rw (add-suc i (length xs), ← (suc-add i (length xs))) (sets-append (set t i x) (suc i) xs ys)

pub sets-front : (t ws : List ℕ) → length ws ≤ length t → sets t 0 ws ≡ ws ++ drop (length ws) t
sets-front t ws l = sets-eq ws t 0 (omega arith) ∙ rw zero-add

drop-replicate : (k size : ℕ) → drop {A = ℕ} k (replicate size 0) ≡ replicate (size - k) 0
drop-replicate zero size = rw sub-zero
drop-replicate (suc k) zero = rw zero-sub
drop-replicate (suc k) (suc size) = rw suc-sub-suc (drop-replicate k size)

pub sets-zeros : (size : ℕ) (ws : List ℕ) → length ws ≤ size → sets (replicate size 0) 0 ws ≡ padded size ws
unfolding padded
sets-zeros size ws l = sets-front (replicate size 0) ws (rw length-replicate l) ∙ rw drop-replicate

-- words in front, cleared behind
pub padded-behind : (ws rest : List ℕ) {t : List ℕ} {n : ℕ} → t ≡ ws ++ rest → n ≡ length ws → take n t ++ replicate (length t - n) 0 ≡ padded (length t) ws
unfolding padded
padded-behind ws rest {t} {n} e k = let h : take n t ≡ ws = ap (λ (x : List ℕ). take n x) e ∙ take_at ws rest n (sym k) in rw (h, k)
