-- What is only counted: with no buffer, what is put is how many bytes.
-- Assumes nothing.
use mathlib.Core.Path.{◌≡◌, refl, sym}
use mathlib.Core.List.{List, [], ◌∷◌}
use Prim.Native.Nat.{ℕ, ◌+◌, ◌≤◌, min}
use native.Mathlib.Decide.{dec_lt}
use native.Mathlib.Omega.{arith}
use lib.ListN.{length}
use Rattle.room.specs.Parts.{part}
use Rattle.vlq.specs.Vlq.{least, vlq, sized}
use Rattle.vlq.proofs.Least.{vlq-length}
use Rattle.room.proofs.Counting.{part_length, counts-stored, counts-over}
use Rattle.vlq.proofs.Sized.{sized-length}
use Rattle.room.specs.Counts.{Counts, too_many}

pub counts-empty : {to r : ℕ} (bytes : List ℕ) → r ≡ min (to + length bytes) too_many → Counts [] [] to bytes r
counts-empty [] e = counts-stored [] e refl
counts-empty (b ∷ bytes) e = counts-over (b ∷ bytes) e (omega arith)

pub counts-number : (v : ℕ) {to n r : ℕ} → n ≡ least (λ _. v) → r ≡ min (to + n) too_many → Counts [] [] to (vlq v) r
counts-number v k e = counts-empty (vlq v) (omega (arith, vlq-length v))

pub counts-part : (f : List ℕ) (at n : ℕ) → at + n ≤ length f → {to r : ℕ} → r ≡ min (to + n) too_many → Counts [] [] to (part f at n) r
counts-part f at n l e = counts-empty (part f at n) (omega (arith, part_length f at n l))

-- a block, by its length
pub counts-sized : (s : List ℕ) {to n k r q : ℕ} → n ≡ min (length s) too_many → k ≡ least (λ _. n) → r ≡ min (to + k) too_many → q ≡ min
    (r + n) too_many → Counts [] [] to (sized s) q
counts-sized s {n = n} a b c d = counts-empty (sized s) (elim (dec_lt (length s) too_many) [
  | yes l ↦ let i : n ≡ length s = omega arith in let v : least (λ _. n) ≡ length (vlq (length s)) = rw i (sym (vlq-length (length s))) in omega (arith, sized-length s)
  | no l ↦ omega (arith, sized-length s)
])
