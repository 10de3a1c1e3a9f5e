-- A node's three numbers that were written are read back.
-- Assumes nothing.
use mathlib.Core.Path.{◌≡◌, refl}
use mathlib.Core.Bool.{Bool, true, false, ◌||◌}
use mathlib.Core.List.{List, [], ◌∷◌}
use Prim.Native.Nat.{ℕ, ◌+◌, ◌^◌, ◌≤◌, ◌<◌}
use native.Mathlib.Omega.{arith}
use lib.ListN.{length}
use borrow.Author.Tests.{le-leb}
use Rattle.machine.specs.Machine.{ok, run}
use Rattle.cursor.specs.Rows.{node_frame}
use Rattle.machine.proofs.Laws.{running}
use Rattle.node.specs.Node.{header_length, head, in_tree}
use Rattle.vlq.specs.Vlq.{vlq}
use Rattle.room.proofs.Lies.{Lies, stand, joined_length}
use Rattle.vlq.proofs.Back.{number-back}
use Rattle.title_text.specs.Text.{header_of, framed}
use Rattle.title_text.proofs.Sizes.{framed-length, framed-header}

or_true : (c : Bool) → (c || true) ≡ true
or_true true = refl
or_true false = refl

module _ (end least : ℕ) (g : List ℕ) (p contained : ℕ) (rest own : List ℕ) (n : ℕ) where
  pub head-back : contained < 2 ^ 28 → header_of contained rest (length own + n) + (length own + n) < 2 ^ 28 → Lies g p (framed contained rest own n)
      → p + (length (framed contained rest own n) + n) ≤ end → least ≤ p + (length (framed contained rest own n) + n)
      → run (head (in_tree least end)) g p ≡ ok
      (record {
        size = record { 0 = header_of contained rest (length own + n) + (length own + n) };
        contained = contained;
        header = record
            { 0 = header_of contained rest (length own + n) };
      })
      (p + length (vlq (header_of contained rest (length own + n) + (length own + n))) + length (vlq contained) + length (vlq (header_of contained rest (length own + n))))
  unfolding head header_length framed
  head-back few small h i j =
      let c : ℕ = length own + n in let H : ℕ = header_of contained rest c in let N : ℕ = H + c in
      let ss : List (List ℕ) = vlq N ∷ vlq contained ∷ vlq H ∷ rest ∷ own ∷ [] in
      let s = stand ss h in let z = joined_length ss in let w = framed-length contained rest own n small in
      let y = framed-header contained rest c small in
      let e₁ = number-back node_frame 3 end N s.0 small (omega arith) in
      let e₂ = number-back node_frame 3 (p + N) contained s.1.0 few (omega arith) in
      let e₃ = number-back node_frame 3 (p + N) H s.1.1.0 (omega arith) (omega arith) in
      let k₁ : p + N ≤ end = omega arith in let k₂ : least ≤ p + N = omega arith in let k₃ : H ≤ N = omega arith in
      let k₄ : p + length (vlq N) + length (vlq contained) + length (vlq H) ≤ p + H = omega arith in
      simp (running, e₁, le-leb _ _ k₁, le-leb _ _ k₂, e₂, or_true, e₃, le-leb _ _ k₃, le-leb _ _ k₄)
