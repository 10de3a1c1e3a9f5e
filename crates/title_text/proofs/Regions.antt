-- Two files that agree on all that a run read and passed, but for private data, agree on every byte of a part that makes no row. A rule for each form, over a known file.
-- Assumes nothing.
use mathlib.Core.Path.{◌≡◌, refl, ap, ◌∙◌, subst}
use mathlib.Core.Bool.{Bool, true, false}
use mathlib.Core.List.{List, [], ◌∷◌}
use Prim.Native.Nat.{ℕ, ◌+◌, ◌≤◌, ◌<◌}
use native.Mathlib.Omega.{arith}
use native.Mathlib.Decide.{dec_lt}
use Rattle.machine.specs.Machine.{ret, Out, ok, refused, seen, passed, run, trace, exec, puts, ◌>>=◌, ◌>>◌, place, skip, check}
use Rattle.cursor.specs.Rows.{Part, node_row, item_row, plain, P, Events}
use Rattle.machine.proofs.Laws.{and_then, exec-bind, afterwards, trace-bind}
use Rattle.cursor.proofs.Uses.{passing, Only, NoRow, Rowless, used}
use Rattle.cursor.proofs.Quiet.{Quiet, still, exec-puts}
use Rattle.machine.proofs.Stable.{Chain, end_of, chain, ends, Held}
use Rattle.machine.proofs.Log.{held-parts}
use Rattle.cursor.proofs.Post.{Meets}
use Rattle.file_laws.proofs.Demand.{private_data}

-- ---- all bytes of a part that makes no row

region : (A : ℕ → Type 0) (es : Events) (at : ℕ) → Chain at es → Only (passing NoRow) es → Held private_data A es → (k : ℕ) → at ≤ k → k < end_of at es → A k
region A [] at c o h k l m = absurd (omega arith)
region A (seen κ p ∷ es) at c o h k l m = elim (dec_lt at k) [
  | yes i ↦ region A es (at + 1) c.1 o.1 h.1 k (omega arith) m
  | no i ↦ let e : p ≡ k = omega arith in subst A e h.0
]
region A (passed (node_row r) p n ∷ es) at c o h k l m = absurd o.0
region A (passed (item_row r) p n ∷ es) at c o h k l m = absurd o.0
region A (passed (plain x) p n ∷ es) at c o h k l m = elim (dec_lt k (at + n)) [
  | yes i ↦ h.0 tt k (omega arith) (omega arith)
  | no i ↦ region A es (at + n) c.1 o.1 h.1 k (omega arith) m
]

-- what holds of what was kept holds of each byte
pub all-bytes : {A : Type 0} (B : ℕ → Type 0) (m : P A) → Rowless m → (f : List ℕ) (at : ℕ) {a : A} {q : ℕ} → run m f at ≡ ok a q → Held
    private_data B (trace m f at) → (k : ℕ) → at ≤ k → k < q → B k
all-bytes B m u f at e h k l i = let z = ends m f at e in region B (trace m f at) at (chain m f at) (used f at u) h k l (omega arith)

-- ---- Post, for a file of which what a run read and passed has B: a rule for each form

pub record Keeping {A S : Type 0} (B : ℕ → Type 0) (put : Part → ℕ → ℕ → S → S) (f : List ℕ) (m : P A) (Q : A → ℕ → S → Type 0) (at : ℕ) (σ : S) : Type 0 where
  pub meets : Held private_data B (trace m f at) → Meets Q (exec put m f at σ)

module _ {S : Type 0} {B : ℕ → Type 0} {put : Part → ℕ → ℕ → S → S} {f : List ℕ} where
  -- a program that puts nothing into the state, and then another
  pub keep_step : {A C : Type 0} {m : P A} {k : A → P C} {R : C → ℕ → S → Type 0} {at : ℕ} {σ : S} → Quiet put m
      → ((a : A) (q : ℕ) → run m f at ≡ ok a q → Held private_data B (trace m f at) → Keeping B put f (k a) R q σ) → Keeping B put f (m >>= k) R at σ
  unfolding afterwards
  keep_step {A} {C} {m} {k} {R} {at} {σ} w h = record {
    meets = λ held.
        let (x, y) = held-parts private_data B (trace m f at) (afterwards k f (run m f at)) (subst (Held private_data B) (trace-bind m k f at) held) in
        let e : exec put (m >>= k) f at σ ≡ and_then (still (run m f at) σ) (λ z p. exec put (k z.0) f p z.1) = exec-bind _ _ S A C put m k f
        at σ ∙ ap (λ o. and_then o (λ z p. exec put (k z.0) f p z.1)) (w.quiet f at σ) in
        rw e (by (run m f at) refl x y);
  }
    where
      by : (o : Out A) → run m f at ≡ o → Held private_data B (trace m f at) → Held private_data B (afterwards k f o) → Meets R
          (and_then (still o σ) (λ z p. exec put (k z.0) f p z.1))
      by (ok a q) e x y = (h a q e x).meets y
      by (refused n p) e x y = tt

  pub keep_ret : {A : Type 0} {a : A} {R : A → ℕ → S → Type 0} {at : ℕ} {σ : S} → R a at σ → Keeping B put f (ret a) R at σ
  unfolding exec
  keep_ret r = record { meets = λ held. r }

  pub keep_check : {A : Type 0} {b : Bool} (n p : ℕ) {m : P A} {R : A → ℕ → S → Type 0} {at : ℕ} {σ : S} →
      (b ≡ true → Keeping B put f m R at σ) → Keeping B put f (check b n p >> m) R at σ
  unfolding exec trace ◌>>=◌ ◌>>◌ check
  keep_check {b = true} n p h = record { meets = λ held. (h refl).meets held }
  keep_check {b = false} n p h = record { meets = λ held. tt }

  pub keep_place : {A : Type 0} (k : ℕ → P A) {R : A → ℕ → S → Type 0} (at : ℕ) {σ : S} → Keeping B put f (k at) R at σ → Keeping B put f (place >>= k) R at σ
  unfolding exec trace ◌>>=◌ place
  keep_place k at h = record { meets = λ held. h.meets held }

  pub keep_skip : {A : Type 0} (w : Part) (n : ℕ) {m : P A} {R : A → ℕ → S → Type 0} {at : ℕ} {σ : S} → Keeping B put f m R (at + n)
      (put w at n σ) → Keeping B put f (skip w n >> m) R at σ
  unfolding exec trace ◌>>=◌ ◌>>◌ skip
  keep_skip w n h = record { meets = λ held. h.meets held.1 }

  pub keep_after : {A C : Type 0} {m : P A} {k : A → P C} {Q : A → ℕ → S → Type 0} {R : C → ℕ → S → Type 0} {at : ℕ} {σ : S}
      → Keeping B put f m Q at σ → ((a : A) (q : ℕ) (τ : S) → Q a q τ → Keeping B put f (k a) R q τ) → Keeping B put f (m >>= k) R at σ
  unfolding afterwards
  keep_after {A} {C} {m} {k} {Q} {R} {at} {σ} w h = record {
    meets = λ held.
        let (x, y) = held-parts private_data B (trace m f at) (afterwards k f (run m f at)) (subst (Held private_data B) (trace-bind m k f at) held) in
        let z : Meets Q (still (run m f at) (puts put (trace m f at) σ)) = subst (Meets Q) (exec-puts put m f at σ) (w.meets x) in
        let e : exec put (m >>= k) f at σ ≡ and_then (still (run m f at) (puts put (trace m f at) σ)) (λ v p. exec put (k v.0) f p v.1) =
        exec-bind _ _ S A C put m k f at σ ∙ ap (λ o. and_then o (λ v p. exec put (k v.0) f p v.1)) (exec-puts put m f at σ) in
        rw e (by (run m f at) (puts put (trace m f at) σ) y z);
  }
    where
      by : (o : Out A) (τ : S) → Held private_data B (afterwards k f o) → Meets Q (still o τ) → Meets R (and_then (still o τ) (λ v p. exec put (k v.0) f p v.1))
      by (ok a q) τ y z = (h a q τ z).meets y
      by (refused n p) τ y z = tt
