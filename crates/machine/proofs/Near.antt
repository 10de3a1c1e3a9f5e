-- Programs that differ only in the numbers and places of refusals: an accepted run of the one is one of the other, with the same trace.
-- Assumes nothing.
use mathlib.Core.Path.{◌≡◌, refl, ap}
use mathlib.Core.Bool.{Bool, true, false}
use mathlib.Core.List.{List, ◌∷◌}
use Prim.Native.Nat.{ℕ, ◌+◌}
use native.Mathlib.Omega.{arith}
use lib.ListN.{get_or}
use Rattle.machine.specs.Machine.{Prog, ret, refuse, here, byte, pass, ok, seen, passed, run, trace, ◌>>=◌, ◌>>◌, check}

pub data Near {K W A : Type 0} : Prog K W A → Prog K W A → Type 0 where
  answer : (a : A) → Near (ret a) (ret a)
  either : (n p m q : ℕ) → Near (refuse n p) (refuse m q)
  asked : {k l : ℕ → Prog K W A} → ((at : ℕ) → Near (k at) (l at)) → Near (here k) (here l)
  read : {κ : K} {k l : ℕ → Prog K W A} → ((b : ℕ) → Near (k b) (l b)) → Near (byte κ k) (byte κ l)
  moved : {w : W} {n : ℕ} {m o : Prog K W A} → Near m o → Near (pass w n m) (pass w n o)

module _ {K W : Type 0} where
  pub near_run : {A : Type 0} {m o : Prog K W A} → Near m o → (f : List ℕ) (at : ℕ) {a : A} {p : ℕ} → run m f at ≡ ok a p → (run o f at ≡ ok a p) × (trace o f at ≡ trace m f at)
  unfolding run trace
  near_run (answer a) f at e = (e, refl)
  near_run (either n p m q) f at e = let z : ◌≡◌ {A = ℕ} 0 1 = cc in absurd (omega arith)
  near_run (asked h) f at e = near_run (h at) f at e
  near_run (read {κ = κ} h) f at e = let (r, t) = near_run (h (get_or f at 0)) f (at + 1) e in (r, ap (λ es. seen κ at ∷ es) t)
  near_run (moved {w = w} {n} h) f at e = let (r, t) = near_run h f (at + n) e in (r, ap (λ es. passed w at n ∷ es) t)

  pub near_same : {A : Type 0} (m : Prog K W A) → Near m m
  near_same (ret a) = answer a
  near_same (refuse n p) = either n p n p
  near_same (here k) = asked (λ at. near_same (k at))
  near_same (byte κ k) = read (λ b. near_same (k b))
  near_same (pass w n m) = moved (near_same m)

  -- what follows a program
  pub near_then : {A B : Type 0} (m : Prog K W A) {g h : A → Prog K W B} → ((a : A) → Near (g a) (h a)) → Near (m >>= g) (m >>= h)
  unfolding ◌>>=◌
  near_then (ret a) n = n a
  near_then (refuse i p) n = either i p i p
  near_then (here k) n = asked (λ at. near_then (k at) n)
  near_then (byte κ k) n = read (λ b. near_then (k b) n)
  near_then (pass w i m) n = moved (near_then m n)

  pub near_on : {A B : Type 0} {m o : Prog K W A} (g : A → Prog K W B) → Near m o → Near (m >>= g) (o >>= g)
  unfolding ◌>>=◌
  near_on g (answer a) = near_same (g a)
  near_on g (either n p m q) = either n p m q
  near_on g (asked h) = asked (λ at. near_on g (h at))
  near_on g (read h) = read (λ b. near_on g (h b))
  near_on g (moved h) = moved (near_on g h)

  pub near_check : {A : Type 0} (b : Bool) (n p m q : ℕ) {o v : Prog K W A} → Near o v → Near (check b n p >> o) (check b m q >> v)
  unfolding ◌>>=◌ ◌>>◌ check
  near_check true n p m q h = h
  near_check false n p m q h = either n p m q
