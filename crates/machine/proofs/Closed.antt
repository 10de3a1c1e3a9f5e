-- The closure rule. What holds of an answer, of a question for the place, and of one program after another, holds of everything that is made of them: choices, checks,
-- places and repetitions. A law of this kind is proved of the three forms, and its other rules are these.
-- Assumes nothing.
use mathlib.Core.Bool.{Bool, true, false}
use Prim.Native.Nat.{ℕ, zero, suc, ◌-◌}
use lib.Dec.{ltb}
use Rattle.machine.specs.Machine.{Prog, ret, refuse, here, ◌>>=◌, ◌>>◌, when◌then◌else◌, place, check, turns, many, times}

pub record Closed {K W : Type 0} (Q : (A : Type 0) → Prog K W A → Type 0) : Type 1 where
  pub ends : {A : Type 0} {a : A} → Q A (ret a)
  pub asks : {A : Type 0} {k : ℕ → Prog K W A} → ((p : ℕ) → Q A (k p)) → Q A (here k)
  pub after : {A B : Type 0} {m : Prog K W A} {g : A → Prog K W B} → Q A m → ((a : A) → Q B (g a)) → Q B (m >>= g)

module _ {K W : Type 0} {Q : (A : Type 0) → Prog K W A → Type 0} (c : Closed Q) {A : Type 0} where
  pub either : (b : Bool) {m n : Prog K W A} → Q A m → Q A n → Q A (when b then m else n)
  unfolding when◌then◌else◌
  either true h k = h
  either false h k = k

  pub checks : (b : Bool) (n p : ℕ) {m : Prog K W A} → Q (Unit {0}) (refuse n p) → Q A m → Q A (check b n p >> m)
  unfolding check ◌>>◌
  checks true n p r h = c.after (c.ends {a = tt}) (λ _. h)
  checks false n p r h = c.after r (λ _. h)

  pub places : {g : ℕ → Prog K W A} → ((p : ℕ) → Q A (g p)) → Q A (place >>= g)
  unfolding place
  places h = c.after (c.asks λ p. c.ends {a = p}) h

  pub counts : (n : ℕ) {body : A → Prog K W A} (s : A) → ((s : A) → Q A (body s)) → Q A (times n body s)
  unfolding times
  counts zero s step = c.ends
  counts (suc n) s step = c.after (step s) λ r. counts n r step

  turned : (k end : ℕ) {body : A → Prog K W A} (s : A) → ((s : A) → Q A (body s)) → Q A (turns k end body s)
  unfolding turns
  turned zero end s step = c.ends
  turned (suc k) end s step = c.asks λ at. either (ltb at end) (c.after (step s) λ r. turned k end r step) c.ends

  pub repeats : (end : ℕ) {body : A → Prog K W A} (s : A) → ((s : A) → Q A (body s)) → Q A (many end body s)
  unfolding many
  repeats end s step = c.asks λ at. turned (end - at) end s step
