-- Programs that put nothing into a state run as they do without it.
-- Assumes nothing.
use mathlib.Core.Path.{◌≡◌, refl, ap, ◌∙◌}
use mathlib.Core.List.{List, [], ◌∷◌}
use Prim.Native.Nat.{ℕ, ◌+◌}
use lib.ListN.{get_or}
use Rattle.machine.specs.Machine.{Prog, ret, refuse, here, byte, pass, Out, ok, refused, seen, passed, run, trace, exec, puts}
use Rattle.cursor.specs.Rows.{Frame, Plain, Part, plain, P, Events}
use Rattle.cursor.specs.Leaves.{number, block, manufacturer, guid}
use Rattle.cursor.proofs.Uses.{Uses, Only, used, passing, number-with, block_with, manufacturer-uses, guid-uses}

-- an answer beside a state
abbrev pub still : {A S : Type 0} → Out A → S → Out (A × S)
still (ok a p) σ = ok (a, σ) p
still (refused n p) σ = refused n p

-- the state that is left is what the trace puts
pub exec-puts : {K W S A : Type 0} (put : W → ℕ → ℕ → S → S) (m : Prog K W A) (f : List ℕ) (at : ℕ) (σ : S) → exec put m f at σ ≡ still (run m f at) (puts put (trace m f at) σ)
unfolding exec run trace puts
exec-puts put (ret a) f at σ = refl
exec-puts put (refuse n p) f at σ = refl
exec-puts put (here k) f at σ = exec-puts put (k at) f at σ
exec-puts put (byte κ k) f at σ = exec-puts put (k (get_or f at 0)) f (at + 1) σ
exec-puts put (pass w n m) f at σ = exec-puts put m f (at + n) (put w at n σ)

pub record Quiet {S A : Type 0} (put : Part → ℕ → ℕ → S → S) (m : P A) : Type 0 where
  pub quiet : (f : List ℕ) (at : ℕ) (σ : S) → exec put m f at σ ≡ still (run m f at) σ

-- parts that make no row leave the state as it is
pub record IgnoresPlain {S : Type 0} (put : Part → ℕ → ℕ → S → S) : Type 0 where
  pub ignores : (x : Plain) (p n : ℕ) (σ : S) → put (plain x) p n σ ≡ σ

-- what w is leaves the state as it is
abbrev pub Idle : {S : Type 0} → (Part → ℕ → ℕ → S → S) → Part → Type 0
Idle {S} put w = (p n : ℕ) (σ : S) → put w p n σ ≡ σ

puts_none : {S : Type 0} (put : Part → ℕ → ℕ → S → S) (es : Events) → Only (passing (Idle put)) es → (σ : S) → puts put es σ ≡ σ
unfolding puts
puts_none put [] o σ = refl
puts_none put (seen κ p ∷ es) o σ = puts_none put es o.1 σ
puts_none put (passed w p n ∷ es) o σ = ap (puts put es) (o.0 p n σ) ∙ puts_none put es o.1 σ

module _ {S : Type 0} {put : Part → ℕ → ℕ → S → S} where
  -- a program that passes over nothing else
  pub quiet_of : {A : Type 0} {m : P A} → Uses (passing (Idle put)) m → Quiet put m
  quiet_of {m = m} u = record { quiet = λ f at σ. exec-puts put m f at σ ∙ ap (still (run m f at)) (puts_none put (trace m f at) (used f at u) σ) }

  -- ---- the leaves

  pub number-quiet : (κ : Frame) (past end : ℕ) → Quiet put (number κ past end)
  number-quiet κ past end = quiet_of (number-with κ tt past end (λ p. tt))

  pub block-quiet : (κ : Frame) (past end : ℕ) → Quiet put (block κ past end)
  block-quiet κ past end = quiet_of (block_with κ tt past end (λ p. tt))

  pub manufacturer-quiet : (κ : Frame) (end : ℕ) → Quiet put (manufacturer κ end)
  manufacturer-quiet κ end = quiet_of (manufacturer-uses κ tt end)

  pub guid-quiet : (κ : Frame) (end : ℕ) → Quiet put (guid κ end)
  guid-quiet κ end = quiet_of (guid-uses κ tt end)

-- ---- in the form that `simp` takes

module _ (S : Type 0) (put : Part → ℕ → ℕ → S → S) (κ : Frame) (past end : ℕ) (f : List ℕ) (at : ℕ) (σ : S) where
  pub exec-number : exec put (number κ past end) f at σ ≡ still (run (number κ past end) f at) σ
  exec-number = (number-quiet κ past end).quiet f at σ

  pub exec-block : exec put (block κ past end) f at σ ≡ still (run (block κ past end) f at) σ
  exec-block = (block-quiet κ past end).quiet f at σ
