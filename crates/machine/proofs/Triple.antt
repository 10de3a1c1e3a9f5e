-- What holds of each run of a program from a place, whatever the bytes: R of its answer and the place where it ends, F of the number and the place where it is
-- refused. A rule for each form, proved once.
-- Assumes nothing.
use mathlib.Core.Path.{◌≡◌, refl, sym, subst}
use mathlib.Core.Bool.{Bool, true, false}
use mathlib.Core.List.{List}
use Prim.Native.Nat.{ℕ, zero, suc, ◌+◌, ◌-◌, ◌≤◌, ◌<◌}
use native.Mathlib.Omega.{arith}
use lib.Dec.{ltb}
use lib.ListN.{get_or}
use borrow.Author.Tests.{ltb-true}
use Rattle.machine.specs.Machine.{Prog, ret, here, byte, Out, ok, refused, run, ◌>>=◌, ◌>>◌, when◌then◌else◌, place, skip, check, turns, many}
use Rattle.machine.proofs.Laws.{and_then, run_bind}

abbrev pub Holds : {A : Type 0} → (F : ℕ → ℕ → Type 0) → (R : A → ℕ → Type 0) → Out A → Type 0
Holds F R (ok a q) = R a q
Holds F R (refused n p) = F n p

pub record Triple {K W A : Type 0} (F : ℕ → ℕ → Type 0) (m : Prog K W A) (R : A → ℕ → Type 0) (at : ℕ) : Type 0 where
  pub holds : (f : List ℕ) → Holds F R (run m f at)

weakened : {A : Type 0} (F : ℕ → ℕ → Type 0) (Q R : A → ℕ → Type 0) (o : Out A) → Holds F Q o → ((a : A) (q : ℕ) → Q a q → R a q) → Holds F R o
weakened F Q R (ok a q) w h = h a q w
weakened F Q R (refused n p) w h = w

module _ {K W A : Type 0} {F : ℕ → ℕ → Type 0} where
  -- of a run that is accepted, and of one that is refused
  pub where_ends : {m : Prog K W A} {R : A → ℕ → Type 0} {at : ℕ} → Triple F m R at → (f : List ℕ) {a : A} {q : ℕ} → run m f at ≡ ok a q → R a q
  where_ends {R = R} w f e = subst (Holds F R) e (w.holds f)

  pub where_refused : {m : Prog K W A} {R : A → ℕ → Type 0} {at : ℕ} → Triple F m R at → (f : List ℕ) {n p : ℕ} → run m f at ≡ refused n p → F n p
  where_refused {R = R} w f e = subst (Holds F R) e (w.holds f)

  -- ---- the rules

  chained : {B : Type 0} (g : A → Prog K W B) (Q : A → ℕ → Type 0) (R : B → ℕ → Type 0) (f : List ℕ) (o : Out A)
      → Holds F Q o → ((a : A) (q : ℕ) → Q a q → Triple F (g a) R q) → Holds F R (and_then o (λ a q. run (g a) f q))
  chained g Q R f (ok a q) w h = (h a q w).holds f
  chained g Q R f (refused n p) w h = w

  pub after : {B : Type 0} {m : Prog K W A} {g : A → Prog K W B} {Q : A → ℕ → Type 0} {R : B → ℕ → Type 0} {at : ℕ}
      → Triple F m Q at → ((a : A) (q : ℕ) → Q a q → Triple F (g a) R q) → Triple F (m >>= g) R at
  after {m = m} {g} {Q} {R} {at} w h = record { holds = λ f. subst (Holds F R) (sym (run_bind m g f at)) (chained g Q R f (run m f at) (w.holds f) h) }

  pub followed : {B : Type 0} {m : Prog K W A} {n : Prog K W B} {Q : A → ℕ → Type 0} {R : B → ℕ → Type 0} {at : ℕ}
      → Triple F m Q at → ((a : A) (q : ℕ) → Q a q → Triple F n R q) → Triple F (m >> n) R at
  unfolding ◌>>◌
  followed w h = after w h

  pub weaken : {m : Prog K W A} {Q R : A → ℕ → Type 0} {at : ℕ} → Triple F m Q at → ((a : A) (q : ℕ) → Q a q → R a q) → Triple F m R at
  weaken {m} {Q} {R} {at} w h = record { holds = λ f. weakened F Q R (run m f at) (w.holds f) h }

  pub returns : {a : A} {R : A → ℕ → Type 0} {at : ℕ} → R a at → Triple {K = K} {W = W} F (ret a) R at
  unfolding run
  returns r = record { holds = λ f. r }

  pub reads : {κ : K} {k : ℕ → Prog K W A} {R : A → ℕ → Type 0} {at : ℕ} → ((b : ℕ) → Triple F (k b) R (at + 1)) → Triple F (byte κ k) R at
  unfolding run
  reads {at = at} h = record { holds = λ f. (h (get_or f at 0)).holds f }

  pub asks : {k : ℕ → Prog K W A} {R : A → ℕ → Type 0} {at : ℕ} → Triple F (k at) R at → Triple F (here k) R at
  unfolding run
  asks h = record { holds = λ f. h.holds f }

  pub places : (g : ℕ → Prog K W A) {R : A → ℕ → Type 0} (at : ℕ) → Triple F (g at) R at → Triple F (place >>= g) R at
  unfolding run ◌>>=◌ place
  places g at h = record { holds = λ f. h.holds f }

  pub either : {b : Bool} {m n : Prog K W A} {R : A → ℕ → Type 0} {at : ℕ} → (b ≡ true → Triple F m R at) → (b ≡ false → Triple F n R at) → Triple F (when b then m else n) R at
  unfolding when◌then◌else◌
  either {b = true} h k = h refl
  either {b = false} h k = k refl

  pub checks : {b : Bool} (n p : ℕ) {m : Prog K W A} {R : A → ℕ → Type 0} {at : ℕ} → F n p → (b ≡ true → Triple F m R at) → Triple F (check b n p >> m) R at
  unfolding run ◌>>=◌ ◌>>◌ check
  checks {b = true} n p l h = record { holds = λ f. (h refl).holds f }
  checks {b = false} n p l h = record { holds = λ f. l }

  pub skips : (w : W) (n : ℕ) {m : Prog K W A} {R : A → ℕ → Type 0} {at : ℕ} → Triple F m R (at + n) → Triple F (skip w n >> m) R at
  unfolding run ◌>>=◌ ◌>>◌ skip
  skips w n h = record { holds = λ f. h.holds f }

  -- where each turn moves on, stays in the part, and keeps what is said of the place and the answer so far, the turns do
  turned : (I : A → ℕ → Type 0) (k : ℕ) {end : ℕ} {body : A → Prog K W A} (s : A) (at : ℕ)
      → ((t : A) (p : ℕ) → p < end → I t p → Triple F (body t) (λ t' q. I t' q × (p < q) × (q ≤ end)) p)
      → I s at → end ≤ at + k → at ≤ end → Triple F (turns k end body s) (λ t p. I t p × (p ≤ end)) at
  unfolding turns
  turned I zero s at step i h l = returns (i, l)
  turned I (suc k) {end} s at step i h l =
      asks (either (λ t. after (step s at (ltb-true at end t) i) λ r p q. turned I k r p step q.0 (omega arith) q.2) (λ t. returns (i, l)))

  pub repeats : (I : A → ℕ → Type 0) {end : ℕ} {body : A → Prog K W A} (s : A) {at : ℕ}
      → ((t : A) (p : ℕ) → p < end → I t p → Triple F (body t) (λ t' q. I t' q × (p < q) × (q ≤ end)) p)
      → I s at → at ≤ end → Triple F (many end body s) (λ t p. I t p × (p ≤ end)) at
  unfolding many
  repeats I {end} s {at} step i l = asks (turned I (end - at) s at step i (omega arith) l)

-- a skip with nothing after it
pub skipped : {K W : Type 0} {F : ℕ → ℕ → Type 0} (w : W) (n : ℕ) {R : Unit {0} → ℕ → Type 0} {at : ℕ} → R tt (at + n) → Triple {K = K} F (skip w n) R at
unfolding run skip
skipped w n r = record { holds = λ f. r }
