-- What holds of each accepted run of a program and of the state that it leaves, whatever the bytes: a rule for each form, proved once. (Wp, with a state.)
-- Assumes nothing.
use mathlib.Core.Path.{◌≡◌, refl, subst}
use mathlib.Core.Bool.{Bool, true, false}
use mathlib.Core.List.{List}
use Prim.Native.Nat.{ℕ, zero, suc, ◌+◌, ◌-◌}
use native.Mathlib.Omega.{arith}
use lib.Dec.{ltb}
use lib.ListN.{get_or}
use Rattle.machine.specs.Machine.{ret, refuse, here, byte, pass, Out, ok, refused, run, exec, ◌>>=◌, ◌>>◌, when◌then◌else◌, place, skip, check, turns, many, times}
use Rattle.cursor.specs.Rows.{Part, P}
use Rattle.cursor.proofs.Quiet.{Quiet, still}

abbrev pub Meets : {A S : Type 0} → (A → ℕ → S → Type 0) → Out (A × S) → Type 0
Meets Q (ok x p) = Q x.0 p x.1
Meets Q (refused n p) = Unit {0}

-- each accepted run of m from `at` and σ ends with an answer, a cursor and a state of which Q holds
pub record Post {A S : Type 0} (put : Part → ℕ → ℕ → S → S) (f : List ℕ) (m : P A) (Q : A → ℕ → S → Type 0) (at : ℕ) (σ : S) : Type 0 where
  pub post : Meets Q (exec put m f at σ)

chained : {A B S : Type 0} (put : Part → ℕ → ℕ → S → S) (f : List ℕ) (m : P A) (k : A → P B) (Q : A → ℕ → S → Type 0) (R : B → ℕ → S → Type 0) (at : ℕ) (σ : S)
    → Meets Q (exec put m f at σ) → ((a : A) (q : ℕ) (τ : S) → Q a q τ → Meets R (exec put (k a) f q τ)) → Meets R (exec put (m >>= k) f at σ)
unfolding exec ◌>>=◌
chained put f (ret a) k Q R at σ w h = h a at σ w
chained put f (refuse n p) k Q R at σ w h = tt
chained put f (here j) k Q R at σ w h = chained put f (j at) k Q R at σ w h
chained put f (byte κ j) k Q R at σ w h = chained put f (j (get_or f at 0)) k Q R (at + 1) σ w h
chained put f (pass v n m) k Q R at σ w h = chained put f m k Q R (at + n) (put v at n σ) w h

still-meets : {A S : Type 0} (R : A → ℕ → S → Type 0) (o : Out A) (σ : S) → ((a : A) (q : ℕ) → o ≡ ok a q → R a q σ) → Meets R (still o σ)
still-meets R (ok a q) σ h = h a q refl
still-meets R (refused n p) σ h = tt

module _ {A S : Type 0} {put : Part → ℕ → ℕ → S → S} {f : List ℕ} where
  pub holds : {m : P A} {Q : A → ℕ → S → Type 0} {at : ℕ} {σ : S} {a : A} {q : ℕ} {τ : S} → Post put f m Q at σ → exec put m f at σ ≡ ok (a, τ) q → Q a q τ
  holds {Q = Q} w e = subst (Meets Q) e w.post

  pub post_after : {B : Type 0} {m : P A} {k : A → P B} {Q : A → ℕ → S → Type 0} {R : B → ℕ → S → Type 0} {at : ℕ} {σ : S}
      → Post put f m Q at σ → ((a : A) (q : ℕ) (τ : S) → Q a q τ → Post put f (k a) R q τ) → Post put f (m >>= k) R at σ
  post_after {m = m} {k} {Q} {R} {at} {σ} w h = record { post = chained put f m k Q R at σ w.post (λ a q τ x. (h a q τ x).post) }

  pub post_ret : {a : A} {R : A → ℕ → S → Type 0} {at : ℕ} {σ : S} → R a at σ → Post put f (ret a) R at σ
  unfolding exec
  post_ret r = record { post = r }

  pub post_refuse : {n p : ℕ} {R : A → ℕ → S → Type 0} {at : ℕ} {σ : S} → Post put f (refuse n p) R at σ
  unfolding exec
  post_refuse = record { post = tt }

  pub post_if : {b : Bool} {m n : P A} {R : A → ℕ → S → Type 0} {at : ℕ} {σ : S} → (b ≡ true → Post put f m R at σ) →
      (b ≡ false → Post put f n R at σ) → Post put f (when b then m else n) R at σ
  unfolding when◌then◌else◌
  post_if {b = true} h k = h refl
  post_if {b = false} h k = k refl

  pub post_check : {b : Bool} (n p : ℕ) {m : P A} {R : A → ℕ → S → Type 0} {at : ℕ} {σ : S} → (b ≡ true → Post put f m R at σ) → Post put f (check b n p >> m) R at σ
  unfolding exec ◌>>=◌ ◌>>◌ check
  post_check {b = true} n p h = record { post = (h refl).post }
  post_check {b = false} n p h = record { post = tt }

  pub post_place : (g : ℕ → P A) {R : A → ℕ → S → Type 0} (at : ℕ) {σ : S} → Post put f (g at) R at σ → Post put f (place >>= g) R at σ
  unfolding exec ◌>>=◌ place
  post_place g at h = record { post = h.post }

  pub post_skip : (w : Part) (n : ℕ) {m : P A} {R : A → ℕ → S → Type 0} {at : ℕ} {σ : S} → Post put f m R (at + n) (put w at n σ) → Post put f (skip w n >> m) R at σ
  unfolding exec ◌>>=◌ ◌>>◌ skip
  post_skip w n h = record { post = h.post }

  -- a program that puts nothing into the state: what its run answered
  pub post_run : {m : P A} {R : A → ℕ → S → Type 0} {at : ℕ} {σ : S} → Quiet put m → ((a : A) (q : ℕ) → run m f at ≡ ok a q → R a q σ) → Post put f m R at σ
  post_run {m} {R} {at} {σ} w h = record { post = rw (w.quiet f at σ) (still-meets R (run m f at) σ h) }

  pub post_weaken : {m : P A} {Q R : A → ℕ → S → Type 0} {at : ℕ} {σ : S} → Post put f m Q at σ → ((a : A) (q : ℕ) (τ : S) → Q a q τ → R a q τ) → Post put f m R at σ
  post_weaken {m} {Q} {R} {at} {σ} w h = record { post = by (exec put m f at σ) w.post }
    where
      by : (o : Out (A × S)) → Meets Q o → Meets R o
      by (ok x p) y = h x.0 p x.1 y
      by (refused n p) y = tt

-- such a program, and then another
pub post_step : {A B S : Type 0} {put : Part → ℕ → ℕ → S → S} {f : List ℕ} {m : P A} {k : A → P B} {R : B → ℕ → S → Type 0} {at : ℕ} {σ : S}
    → Quiet put m → ((a : A) (q : ℕ) → run m f at ≡ ok a q → Post put f (k a) R q σ) → Post put f (m >>= k) R at σ
post_step {put = put} {f = f} {m = m} {k = k} {R = R} {at = at} {σ = σ} w h =
    record {
      post = chained put f m k (λ a q τ. Meets R (exec put (k a) f q τ)) R at σ
          (post_run {R = λ a q τ. Meets R (exec put (k a) f q τ)} w (λ a q e. (h a q e).post)).post (λ a q τ x. x);
    }

-- ---- repetitions

module _ {A S : Type 0} {put : Part → ℕ → ℕ → S → S} {f : List ℕ} where
  -- after k turns I k holds
  pub post_times : (I : ℕ → A → ℕ → S → Type 0) (n k : ℕ) {body : A → P A} (s : A) {at : ℕ} {σ : S}
      → ((j : ℕ) (t : A) (p : ℕ) (τ : S) → I j t p τ → Post put f (body t) (I (suc j)) p τ) → I k s at σ → Post put f (times n body s) (I (k + n)) at σ
  unfolding times
  post_times I zero k s step i = let e : k + 0 ≡ k = omega arith in rw e (post_ret i)
  post_times I (suc n) k s {at} {σ} step i = let e : k + suc n ≡ suc k + n = omega arith in rw e (post_after (step k s at σ i) (λ t p τ j. post_times I n (suc k) t step j))

  -- turn by turn up to the end
  pub post_turns : (I : A → ℕ → S → Type 0) (k end : ℕ) {body : A → P A} (s : A) {at : ℕ} {σ : S}
      → ((t : A) (p : ℕ) (τ : S) → I t p τ → Post put f (body t) I p τ) → I s at σ → Post put f (turns k end body s) I at σ
  unfolding turns exec
  post_turns I zero end s step i = post_ret i
  post_turns I (suc k) end s {at} {σ} step i =
      record { post = (post_if {b = ltb at end} (λ t. post_after (step s at σ i) (λ t p τ j. post_turns I k end t step j)) (λ t. post_ret i)).post }

  pub post_many : (I : A → ℕ → S → Type 0) (end : ℕ) {body : A → P A} (s : A) {at : ℕ} {σ : S}
      → ((t : A) (p : ℕ) (τ : S) → I t p τ → Post put f (body t) I p τ) → I s at σ → Post put f (many end body s) I at σ
  unfolding many exec
  post_many I end s {at} step i = record { post = (post_turns I (end - at) end s step i).post }
