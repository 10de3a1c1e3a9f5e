-- A run taken apart at a place, a check, an answer; the number of a block.
-- Assumes nothing.
use mathlib.Core.Path.{◌≡◌, refl, ap₂, ◌∙◌}
use mathlib.Core.Bool.{Bool, true, false}
use mathlib.Core.List.{List}
use Prim.Native.Nat.{ℕ}
use Rattle.machine.specs.Machine.{ret, ok, run, trace, ◌>>=◌, ◌>>◌, place, check}
use Rattle.cursor.specs.Rows.{Frame, Part, P}
use Rattle.cursor.specs.Leaves.{number, block}
use Rattle.machine.proofs.Laws.{never, split}

module _ {A : Type 0} (f : List ℕ) (at : ℕ) {a : A} {q : ℕ} where
  pub at_place : (g : ℕ → P A) → run (place >>= g) f at ≡ ok a q → (run (g at) f at ≡ ok a q) × (trace (place >>= g) f at ≡ trace (g at) f at)
  unfolding run trace ◌>>=◌ place
  at_place g e = (e, refl)

  pub at_check : (c : Bool) (n p : ℕ) (m : P A) → run (check c n p >> m) f at ≡ ok a q → (c ≡ true) × (run m f at ≡ ok a q) × (trace (check c n p >> m) f at ≡ trace m f at)
  unfolding run trace ◌>>=◌ ◌>>◌ check
  at_check true n p m e = (refl, e, refl)
  at_check false n p m e = never e

  pub at_ret : (b : A) → run {K = Frame} {W = Part} (ret b) f at ≡ ok a q → (b ≡ a) × (at ≡ q)
  unfolding run
  at_ret b e = (cc, cc)

pub block-number : (f : List ℕ) (κ : Frame) (past end at : ℕ) {n q : ℕ} → run (block κ past end) f at ≡ ok n q → run (number κ past end) f at ≡ ok n q
unfolding block
block-number f κ past end at e =
    let x = split (number κ past end) _ f at (at_place f at _ e).0 in
    let y = at_check f x.p _ _ _ _ (at_place f x.p _ x.second).0 in
    let z = at_ret f x.p x.a y.1 in
    x.first ∙ ap₂ ok z.0 z.1
