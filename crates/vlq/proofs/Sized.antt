-- A block behind its length: how long it is, where it stands, and how it is put.
-- Assumes nothing.
use mathlib.Core.Path.{◌≡◌, sym, ap, ◌∙◌}
use mathlib.Core.List.{List, [], ◌∷◌, ◌++◌}
use Prim.Native.Nat.{ℕ, ◌+◌, min}
use native.Mathlib.Decide.{dec_lt}
use native.Mathlib.Omega.{arith}
use lib.ListN.{length, length-append}
use Rattle.room.specs.Counts.{Counts, too_many}
use Rattle.room.proofs.Counting.{counts-as, put_two}
use Rattle.room.proofs.Lies.{Lies, joined_length, stand}
use Rattle.vlq.specs.Vlq.{vlq, sized}

pub sized-length : (t : List ℕ) → length (sized t) ≡ length (vlq (length t)) + length t
unfolding sized
sized-length t = let z = joined_length (vlq (length t) ∷ t ∷ []) in omega arith

-- a block stands behind its length
pub stand_sized : {g : List ℕ} {p : ℕ} (s : List ℕ) → Lies g p (sized s) → Lies g p (vlq (length s)) × Lies g (p + length (vlq (length s))) s
unfolding sized
stand_sized s h = let w = stand (vlq (length s) ∷ s ∷ []) h in (w.0, w.1.0)

-- a block of known length
pub put-block : {o o₁ o₂ : List ℕ} {s s₁ s₂ : ℕ} (body : List ℕ) (n : ℕ) → length body ≡ n → Counts o o₁ s (vlq n) s₁ → Counts o₁ o₂ s₁ body s₂ → Counts o o₂ s (sized body) s₂
unfolding sized
put-block body n e p q = put_two (vlq (length body)) body (counts-as (ap vlq (sym e)) p) q

-- a block whose length was counted: a count that stopped makes the whole stop
pub put-counted : {o o₁ o₂ : List ℕ} {n s s₁ s₂ : ℕ} (body : List ℕ) → n ≡ min (length body) too_many → Counts o o₁ s (vlq n) s₁ → Counts o₁
    o₂ s₁ body s₂ → Counts o o₂ s (sized body) s₂
unfolding sized
put-counted {n = n} body e p q = elim (dec_lt (length body) too_many) [
  | yes l ↦ put-block body n (omega arith) p q
  | no l ↦
      let y = length-append (vlq (length body)) (body ++ []) in
      let z = length-append body [] in
      let a = q.after in let b = p.after in
      record { after = omega arith; fits = λ v w. absurd (omega arith); long = q.long ∙ p.long }
]

-- or measured by its own writer
pub put-sized : {z z' o o₁ o₂ : List ℕ} {n s s₁ s₂ : ℕ} (body : List ℕ) → Counts z z' 0 body n → Counts o o₁ s (vlq n) s₁ → Counts o₁ o₂ s₁ body s₂ → Counts o o₂ s (sized body) s₂
put-sized body m p q = let e = m.after in put-counted body (omega arith) p q
