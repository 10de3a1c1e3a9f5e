-- Programs that read no byte at or past an end: each run, accepted or refused, depends on the bytes before it alone. An instance of the closure rule.
-- Assumes nothing.
use mathlib.Core.Path.{◌≡◌, refl, ap, ◌∙◌}
use mathlib.Core.Bool.{Bool, true, false}
use mathlib.Core.List.{List}
use Prim.Native.Nat.{ℕ, ◌+◌, ◌<◌}
use native.Mathlib.Omega.{arith}
use lib.Dec.{ltb}
use lib.ListN.{get_or}
use borrow.Author.Tests.{ltb-true}
use Rattle.machine.specs.Machine.{Prog, ret, refuse, here, byte, pass, run, ◌>>=◌, ◌>>◌, when◌then◌else◌, place, check, times}
use Rattle.machine.proofs.Agree.{AgreeUpTo}
use Rattle.machine.proofs.Closed.{Closed}
use Rattle.machine.proofs.Closed as closed

module _ {K W : Type 0} (end : ℕ) where
  abbrev WithinOf : {A : Type 0} → Prog K W A → (at : ℕ) → Type 0
  WithinOf (ret a) at = Unit {0}
  WithinOf (refuse n p) at = Unit {0}
  WithinOf (here k) at = WithinOf (k at) at
  WithinOf (byte κ k) at = (at < end) × ((b : ℕ) → WithinOf (k b) (at + 1))
  WithinOf (pass w n m) at = WithinOf m (at + n)

  of_run : {A : Type 0} (m : Prog K W A) (f g : List ℕ) (at : ℕ) → WithinOf m at → AgreeUpTo f g at end → run m f at ≡ run m g at
  unfolding run
  of_run (ret a) f g at w h = refl
  of_run (refuse n p) f g at w h = refl
  of_run (here k) f g at w h = of_run (k at) f g at w h
  of_run (byte κ k) f g at w h = ap (λ b. run (k b) f (at + 1)) (h at (omega arith) w.0) ∙ of_run (k (get_or g at 0)) f g (at + 1)
      (w.1 (get_or g at 0)) (λ j lo hi. h j (omega arith) hi)
  of_run (pass x n m) f g at w h = of_run m f g (at + n) w (λ j lo hi. h j (omega arith) hi)

  chained : {A B : Type 0} (m : Prog K W A) (g : A → Prog K W B) (at : ℕ) → WithinOf m at → ((a : A) (q : ℕ) → WithinOf (g a) q) → WithinOf (m >>= g) at
  unfolding ◌>>=◌
  chained (ret a) g at w h = h a at
  chained (refuse n p) g at w h = tt
  chained (here f) g at w h = chained (f at) g at w h
  chained (byte κ f) g at w h = (w.0, λ b. chained (f b) g (at + 1) (w.1 b) h)
  chained (pass x n m) g at w h = chained m g (at + n) w h

-- from any place on, m reads no byte at or past `end`
pub record Within {K W A : Type 0} (end : ℕ) (m : Prog K W A) : Type 0 where
  within : (at : ℕ) → WithinOf end m at

-- two files that agree from a place up to the end: the runs from that place are the same
pub same : {K W A : Type 0} {end : ℕ} {m : Prog K W A} → Within end m → (f g : List ℕ) (at : ℕ) → AgreeUpTo f g at end → run m f at ≡ run m g at
same {end = end} {m} w f g at h = of_run end m f g at (w.within at) h

within-closed : {K W : Type 0} (end : ℕ) → Closed {K = K} {W = W} (λ A m. Within end m)
within-closed end = record {
  ends = record { within = λ at. tt };
  asks = λ h. record { within = λ at. (h at).within at };
  after = λ {m} {g} w h. record { within = λ at. chained end m g at (w.within at) (λ a. (h a).within) };
}

module _ {K W A : Type 0} {end : ℕ} where
  pub ends : {a : A} → Within {K = K} {W = W} end (ret a)
  ends = (within-closed end).ends

  pub stops : {n p : ℕ} → Within {K = K} {W = W} {A = A} end (refuse n p)
  stops = record { within = λ at. tt }

  pub after : {B : Type 0} {m : Prog K W A} {g : A → Prog K W B} → Within end m → ((a : A) → Within end (g a)) → Within end (m >>= g)
  after w h = (within-closed end).after w h

  pub either : (b : Bool) {m n : Prog K W A} → Within end m → Within end n → Within end (when b then m else n)
  either b h k = closed.either (within-closed end) b h k

  pub checks : (b : Bool) (n p : ℕ) {m : Prog K W A} → Within end m → Within end (check b n p >> m)
  checks b n p h = closed.checks (within-closed end) b n p (record { within = λ at. tt }) h

  pub places : {g : ℕ → Prog K W A} → ((p : ℕ) → Within end (g p)) → Within end (place >>= g)
  places h = closed.places (within-closed end) h

  pub counts : (n : ℕ) {body : A → Prog K W A} (s : A) → ((s : A) → Within end (body s)) → Within end (times n body s)
  counts n s step = closed.counts (within-closed end) n s step

-- a byte that is read where its place lies before the end
module _ {K : Type 0} (W : Type 0) (κ : K) (end : ℕ) where
  guarded : (b : Bool) (past p at : ℕ) → ltb at end ≡ b → WithinOf {K = K} {W = W} end (when b then byte κ ret else refuse past p) at
  unfolding when◌then◌else◌
  guarded true past p at e = (ltb-true at end e, λ b. tt)
  guarded false past p at e = tt

  pub reads : (past p : ℕ) → Within {K = K} {W = W} end (here λ at. when ltb at end then byte κ ret else refuse past p)
  reads past p = record { within = λ at. guarded (ltb at end) past p at refl }
