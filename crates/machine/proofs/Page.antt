-- The laws of all programs on one page, with the words that they are stated in. Proved once, for every format.
-- Assumes nothing.
use mathlib.Core.Path.{◌≡◌}
use mathlib.Core.List.{List}
use Prim.Native.Nat.{ℕ}
use Rattle.machine.specs.Machine.{Prog, ok, run, trace, exec, ◌>>=◌}
use Rattle.machine.proofs.Laws.{answered, exec-run, Split, split}
use Rattle.machine.proofs.Agree.{AgreeUpTo}
use Rattle.machine.proofs.Stable.{Chain, end_of, Separate, chain, ends, separate, depends}

module _ {K W A : Type 0} (m : Prog K W A) (f : List ℕ) (at : ℕ) where
  -- What is read and passed over lies end to end from the place where the run began, so that no byte belongs to two of these events; an accepted run ends where they end.
  pub events-lie_end_to_end : Chain at (trace m f at)
  events-lie_end_to_end = chain m f at

  pub events-share_no_byte : Separate (trace m f at)
  events-share_no_byte = separate (trace m f at) at (chain m f at)

  pub run-ends_with_its_events : {a : A} {q : ℕ} → run m f at ≡ ok a q → end_of at (trace m f at) ≡ q
  run-ends_with_its_events = ends m f at

  -- An accepted run depends on the bytes between its two places alone.
  pub accepted-depends_on_its_bytes : (g : List ℕ) {a : A} {q : ℕ} → run m f at ≡ ok a q → AgreeUpTo f g at q → run m g at ≡ ok a q
  accepted-depends_on_its_bytes g = depends m f g at

  -- With a state, the answer is the same.
  pub state-keeps_the_answer : {S : Type 0} (put : W → ℕ → ℕ → S → S) (σ : S) → run m f at ≡ answered (exec put m f at σ)
  state-keeps_the_answer put σ = exec-run put m f at σ

-- An accepted run of one program and then another is two accepted runs, and its events are theirs.
pub run-in_two_parts : {K W A B : Type 0} (m : Prog K W A) (g : A → Prog K W B) (f : List ℕ) (at : ℕ) {b : B} {q : ℕ} → run (m >>= g) f at ≡ ok b q → Split m g f at b q
run-in_two_parts = split
