-- A number that was read is read in any part that holds it: the part's end, the refusal and its place do not matter.
-- Assumes nothing.
use mathlib.Core.Path.{◌≡◌, refl, sym, ◌∙◌}
use mathlib.Core.List.{List}
use Prim.Native.Nat.{ℕ, ◌+◌, ◌≤◌}
use native.Mathlib.Omega.{arith}
use native.Mathlib.Decide.{dec_le}
use Rattle.machine.specs.Machine.{Out, ok, refused, run}
use Rattle.cursor.specs.Rows.{Frame}
use Rattle.cursor.specs.Leaves.{number, block}
use Rattle.machine.proofs.Laws.{never}
use Rattle.cursor.proofs.Leaves.{block_size, block-past, block-all}
use Rattle.cursor.proofs.Digits.{digits-read, digits-were, begun}

pub number-wider : (κ : Frame) (past past' end end' : ℕ) (f : List ℕ) (at : ℕ) {w q : ℕ} → run (number κ past end) f at ≡ ok w q → q ≤
    end' → run (number κ past' end') f at ≡ ok w q
number-wider κ past past' end end' f at e l = (begun f past' end' at).same κ ∙ digits-read κ past' end' at
    (digits-were κ past end at 4 0 at (sym ((begun f past end at).same κ) ∙ e)).0 l

pub block-wider : (κ : Frame) (past past' end end' : ℕ) (f : List ℕ) (at : ℕ) {w q : ℕ} → run (block κ past end) f at ≡ ok w q → q + w ≤
    end' → run (block κ past' end') f at ≡ ok w q
block-wider κ past past' end end' f at {w} {q} e l = by (run (number κ past end) f at) refl
  where
    by : (o : Out ℕ) → run (number κ past end) f at ≡ o → run (block κ past' end') f at ≡ ok w q
    by (refused n p) x = never (block_size κ past end f at x ∙ e)
    by (ok v r) x = elim (dec_le (r + v) end) [
      | no m ↦ never (block-past κ past end f at x (omega arith) ∙ e)
      | yes m ↦
          let y : ok v r ≡ ok w q = block-all κ past end f at x m ∙ e in
          let y₁ : v ≡ w = cc in let y₂ : r ≡ q = cc in
          sym (block-all κ past' end' f at (number-wider κ past past' end end' f at (x ∙ y) (omega arith)) l)
    ]
