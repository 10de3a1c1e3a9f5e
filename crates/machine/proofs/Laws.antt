-- How a program runs, step by step, with and without a state: the laws by which code is shown to do what a program says.
-- `simp running` and `simp executing` run a program as far as its calls and tests are known.
-- Assumes nothing.
use mathlib.Core.Path.{◌≡◌, refl, sym, ap, ◌∙◌}
use mathlib.Core.Bool.{true, false}
use mathlib.Core.List.{List, [], ◌∷◌, ◌++◌, append_assoc}
use Prim.Native.Nat.{ℕ, zero, suc, ◌+◌, ◌-◌, ◌≤◌, ◌<◌}
use native.Mathlib.Omega.{arith}
use lib.ListN.{get_or}
use borrow.Author.Tests.{lt-ltb, le-ltb}
use Rattle.machine.specs.Machine.{Prog, ret, refuse, here, byte, pass, Out, ok, refused, Event, seen, passed, run, trace, exec, puts, rows_of, ◌>>=◌, ◌>>◌, when◌then◌else◌, place, skip, check, turns, many, times}

-- what a call answered, where its contract says `told r ≡ o` and r is known
pub was : {E O : Type 0} (told : E → O) {r r' : E} {o : O} → told r ≡ o → r ≡ r' → o ≡ told r'
was told e q = sym e ∙ ap told q

-- a run is not both refused and accepted
pub never : {A B : Type 0} {a : A} {n p q : ℕ} → refused n p ≡ ok a q → B
never e = let z : ◌≡◌ {A = ℕ} 0 1 = cc in absurd (omega arith)

module _ {A B : Type 0} where
  abbrev pub and_then : Out A → (A → ℕ → Out B) → Out B
  and_then (ok a p) k = k a p
  and_then (refused n p) k = refused n p

  module _ {K W : Type 0} where
    pub run_bind : (m : Prog K W A) (g : A → Prog K W B) (f : List ℕ) (at : ℕ) → run (m >>= g) f at ≡ and_then (run m f at) (λ a p. run (g a) f p)
    unfolding run ◌>>=◌
    run_bind (ret a) g f at = refl
    run_bind (refuse n p) g f at = refl
    run_bind (here k) g f at = run_bind (k at) g f at
    run_bind (byte κ k) g f at = run_bind (k (get_or f at 0)) g f (at + 1)
    run_bind (pass w n m) g f at = run_bind m g f (at + n)

pub exec-bind : (K W S A B : Type 0) (put : W → ℕ → ℕ → S → S) (m : Prog K W A) (g : A → Prog K W B) (f : List ℕ) (at : ℕ) (σ : S)
    → exec put (m >>= g) f at σ ≡ and_then (exec put m f at σ) (λ x p. exec put (g x.0) f p x.1)
unfolding exec ◌>>=◌
exec-bind K W S A B put (ret a) g f at σ = refl
exec-bind K W S A B put (refuse n p) g f at σ = refl
exec-bind K W S A B put (here k) g f at σ = exec-bind K W S A B put (k at) g f at σ
exec-bind K W S A B put (byte κ k) g f at σ = exec-bind K W S A B put (k (get_or f at 0)) g f (at + 1) σ
exec-bind K W S A B put (pass w n m) g f at σ = exec-bind K W S A B put m g f (at + n) (put w at n σ)

-- ---- the forms, each as an equation

pub then_is : (K W A B : Type 0) (m : Prog K W A) (n : Prog K W B) → (m >> n) ≡ (m >>= λ _. n)
unfolding ◌>>◌
then_is K W A B m n = refl

pub if_true : (K W A : Type 0) (m n : Prog K W A) → (when true then m else n) ≡ m
unfolding when◌then◌else◌
if_true K W A m n = refl

pub if_false : (K W A : Type 0) (m n : Prog K W A) → (when false then m else n) ≡ n
unfolding when◌then◌else◌
if_false K W A m n = refl

module _ (K W A : Type 0) (f : List ℕ) (at : ℕ) where
  pub run_ret : (a : A) → run {K = K} {W = W} (ret a) f at ≡ ok a at
  unfolding run
  run_ret a = refl

  pub run-refuse : (n p : ℕ) → run {K = K} {W = W} {A = A} (refuse n p) f at ≡ refused n p
  unfolding run
  run-refuse n p = refl

  pub run-here : (k : ℕ → Prog K W A) → run (here k) f at ≡ run (k at) f at
  unfolding run
  run-here k = refl

  pub run-byte : (κ : K) (k : ℕ → Prog K W A) → run (byte κ k) f at ≡ run (k (get_or f at 0)) f (at + 1)
  unfolding run
  run-byte κ k = refl

module _ (K W : Type 0) (f : List ℕ) (at : ℕ) where
  pub run-place : run {K = K} {W = W} place f at ≡ ok at at
  unfolding run place
  run-place = refl

  pub run-skip : (w : W) (n : ℕ) → run {K = K} (skip w n) f at ≡ ok tt (at + n)
  unfolding run skip
  run-skip w n = refl

  pub run-check : (n p : ℕ) → run {K = K} {W = W} (check true n p) f at ≡ ok tt at
  unfolding run check
  run-check n p = refl

  pub run-check_no : (n p : ℕ) → run {K = K} {W = W} (check false n p) f at ≡ refused n p
  unfolding run check
  run-check_no n p = refl

pub ruleset running = (then_is, run-check, run-check_no, run_bind, run_ret, run-refuse, run-here, run-byte, run-place, run-skip, if_true, if_false)

module _ (K W S : Type 0) (put : W → ℕ → ℕ → S → S) (f : List ℕ) (at : ℕ) (σ : S) where
  pub exec-ret : (A : Type 0) (a : A) → exec {K = K} put (ret a) f at σ ≡ ok (a, σ) at
  unfolding exec
  exec-ret A a = refl

  pub exec-refuse : (A : Type 0) (n p : ℕ) → exec {K = K} {A = A} put (refuse n p) f at σ ≡ refused n p
  unfolding exec
  exec-refuse A n p = refl

  pub exec-here : (A : Type 0) (k : ℕ → Prog K W A) → exec put (here k) f at σ ≡ exec put (k at) f at σ
  unfolding exec
  exec-here A k = refl

  pub exec_place : exec {K = K} put place f at σ ≡ ok (at, σ) at
  unfolding exec place
  exec_place = refl

  pub exec-skip : (w : W) (n : ℕ) → exec {K = K} put (skip w n) f at σ ≡ ok (tt, put w at n σ) (at + n)
  unfolding exec skip
  exec-skip w n = refl

  pub exec-check : (n p : ℕ) → exec {K = K} put (check true n p) f at σ ≡ ok (tt, σ) at
  unfolding exec check
  exec-check n p = refl

  pub exec-check_no : (n p : ℕ) → exec {K = K} put (check false n p) f at σ ≡ refused n p
  unfolding exec check
  exec-check_no n p = refl

pub ruleset executing = (then_is, exec-bind, exec-ret, exec-refuse, exec-here, exec_place, exec-check, exec-check_no, exec-skip, if_true, if_false)

-- ---- the answer is the run's

abbrev pub answered : {A S : Type 0} → Out (A × S) → Out A
answered (ok x p) = ok x.0 p
answered (refused n p) = refused n p

pub exec-run : {K W S A : Type 0} (put : W → ℕ → ℕ → S → S) (m : Prog K W A) (f : List ℕ) (at : ℕ) (σ : S) → run m f at ≡ answered (exec put m f at σ)
unfolding exec run
exec-run put (ret a) f at σ = refl
exec-run put (refuse n p) f at σ = refl
exec-run put (here k) f at σ = exec-run put (k at) f at σ
exec-run put (byte κ k) f at σ = exec-run put (k (get_or f at 0)) f (at + 1) σ
exec-run put (pass w n m) f at σ = exec-run put m f (at + n) (put w at n σ)

pub ran : {K W S A : Type 0} (put : W → ℕ → ℕ → S → S) (m : Prog K W A) (f : List ℕ) (at : ℕ) (σ : S) {o : Out (A × S)} → exec put m f at σ ≡ o → run m f at ≡ answered o
ran put m f at σ e = exec-run put m f at σ ∙ ap answered e

-- ---- events, and more behind them

pub puts-on : {K W S : Type 0} (put : W → ℕ → ℕ → S → S) (es fs : List (Event K W)) (σ : S) → puts put (es ++ fs) σ ≡ puts put fs (puts put es σ)
unfolding puts
puts-on put [] fs σ = refl
puts-on put (seen κ p ∷ es) fs σ = puts-on put es fs σ
puts-on put (passed w p n ∷ es) fs σ = puts-on put es fs (put w p n σ)

pub rows_on : {K W R : Type 0} (pick : W → ℕ → ℕ → List R) (es fs : List (Event K W)) → rows_of pick (es ++ fs) ≡ rows_of pick es ++ rows_of pick fs
unfolding rows_of
rows_on pick [] fs = refl
rows_on pick (seen κ p ∷ es) fs = rows_on pick es fs
rows_on pick (passed w p n ∷ es) fs = ap (λ v. pick w p n ++ v) (rows_on pick es fs) ∙ sym (append_assoc (pick w p n) _ _)

-- ---- a run in two parts

-- what follows m reads and passes
unfoldable pub afterwards : {K W A B : Type 0} → (A → Prog K W B) → List ℕ → Out A → List (Event K W)
afterwards g f (ok a p) = trace (g a) f p
afterwards g f (refused n p) = []

pub trace-bind : {K W A B : Type 0} (m : Prog K W A) (g : A → Prog K W B) (f : List ℕ) (at : ℕ) → trace (m >>= g) f at ≡ trace m f at ++ afterwards g f (run m f at)
unfolding trace run ◌>>=◌ afterwards
trace-bind (ret a) g f at = refl
trace-bind (refuse n p) g f at = refl
trace-bind (here k) g f at = trace-bind (k at) g f at
trace-bind (byte κ k) g f at = ap (λ es. seen κ at ∷ es) (trace-bind (k (get_or f at 0)) g f (at + 1))
trace-bind (pass w n m) g f at = ap (λ es. passed w at n ∷ es) (trace-bind m g f (at + n))

-- an accepted run: of m, and of what follows it
pub record Split {K W A B : Type 0} (m : Prog K W A) (g : A → Prog K W B) (f : List ℕ) (at : ℕ) (b : B) (q : ℕ) : Type 0 where
  pub a : A
  pub p : ℕ
  pub first : run m f at ≡ ok a p
  pub second : run (g a) f p ≡ ok b q
  pub joined : trace (m >>= g) f at ≡ trace m f at ++ trace (g a) f p

pub split : {K W A B : Type 0} (m : Prog K W A) (g : A → Prog K W B) (f : List ℕ) (at : ℕ) {b : B} {q : ℕ} → run (m >>= g) f at ≡ ok b q → Split m g f at b q
unfolding afterwards
split {A = A} m g f at {b} {q} e = by (run m f at) refl (sym (run_bind m g f at) ∙ e)
  where
    by : (o : Out A) → run m f at ≡ o → and_then o (λ a p. run (g a) f p) ≡ ok b q → Split m g f at b q
    by (ok a p) x y = record { a = a; p = p; first = x; second = y; joined = trace-bind m g f at ∙ ap (λ o. trace m f at ++ afterwards g f o) x }
    by (refused n p) x y = never y

-- ---- repetitions, one turn at a time

module _ {K W S : Type 0} (f : List ℕ) where
  pub run-turn : (k end i : ℕ) (body : S → Prog K W S) (s : S) → i < end → end ≤ i + k
      → run (turns k end body s) f i ≡ and_then (run (body s) f i) (λ t p. run (turns (k - 1) end body t) f p)
  unfolding turns
  run-turn zero end i body s l h = absurd (omega arith)
  run-turn (suc k) end i body s l h = let e : suc k - 1 ≡ k = omega arith in simp (running, lt-ltb _ _ l, e)

  pub run-turned : (k end i : ℕ) (body : S → Prog K W S) (s : S) → end ≤ i → run (turns k end body s) f i ≡ ok s i
  unfolding turns
  run-turned zero end i body s l = simp running
  run-turned (suc k) end i body s l = simp (running, le-ltb _ _ l)

  pub run-many : (end i : ℕ) (body : S → Prog K W S) (s : S) → run (many end body s) f i ≡ run (turns (end - i) end body s) f i
  unfolding many
  run-many end i body s = simp running

  pub run-times : (n i : ℕ) (body : S → Prog K W S) (s : S) → ((n ≡ 0) → ⊥) → run (times n body s) f i ≡ and_then (run (body s) f i) (λ t p. run (times (n - 1) body t) f p)
  unfolding times
  run-times zero i body s some = absurd (some refl)
  run-times (suc n) i body s some = let e : suc n - 1 ≡ n = omega arith in simp (running, e)

  pub run-timed : (n i : ℕ) (body : S → Prog K W S) (s : S) → n ≡ 0 → run (times n body s) f i ≡ ok s i
  unfolding times
  run-timed n i body s z = rw z (simp running)

module _ {K W S T : Type 0} (put : W → ℕ → ℕ → T → T) (f : List ℕ) where
  pub exec-turn : (k end i : ℕ) (body : S → Prog K W S) (s : S) (σ : T) → i < end → end ≤ i + k
      → exec put (turns k end body s) f i σ ≡ and_then (exec put (body s) f i σ) (λ x p. exec put (turns (k - 1) end body x.0) f p x.1)
  unfolding turns
  exec-turn zero end i body s σ l h = absurd (omega arith)
  exec-turn (suc k) end i body s σ l h = let e : suc k - 1 ≡ k = omega arith in simp (executing, lt-ltb _ _ l, e)

  pub exec-turned : (k end i : ℕ) (body : S → Prog K W S) (s : S) (σ : T) → end ≤ i → exec put (turns k end body s) f i σ ≡ ok (s, σ) i
  unfolding turns
  exec-turned zero end i body s σ l = simp executing
  exec-turned (suc k) end i body s σ l = simp (executing, le-ltb _ _ l)

  pub exec-many : (end i : ℕ) (body : S → Prog K W S) (s : S) (σ : T) → exec put (many end body s) f i σ ≡ exec put (turns (end - i) end body s) f i σ
  unfolding many
  exec-many end i body s σ = simp executing

  pub exec-times : (n i : ℕ) (body : S → Prog K W S) (s : S) (σ : T) → ((n ≡ 0) → ⊥)
      → exec put (times n body s) f i σ ≡ and_then (exec put (body s) f i σ) (λ x p. exec put (times (n - 1) body x.0) f p x.1)
  unfolding times
  exec-times zero i body s σ some = absurd (some refl)
  exec-times (suc n) i body s σ some = let e : suc n - 1 ≡ n = omega arith in simp (executing, e)

  pub exec-timed : (n i : ℕ) (body : S → Prog K W S) (s : S) (σ : T) → n ≡ 0 → exec put (times n body s) f i σ ≡ ok (s, σ) i
  unfolding times
  exec-timed n i body s σ z = rw z (simp executing)
