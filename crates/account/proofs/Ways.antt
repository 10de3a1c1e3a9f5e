-- What one row gives, from what its calls gave and the tests of its words.
-- Assumes nothing.
use mathlib.Core.Path.{◌≡◌, refl, ap₂, ◌∙◌}
use mathlib.Core.List.{List}
use Prim.Native.Nat.{ℕ, ◌+◌, ◌≤◌, ◌<◌}
use native.Mathlib.Omega.{arith}
use lib.ListN.{length}
use borrow.Author.Tests.{eq-eqb, ne_eqb}
use Rattle.machine.specs.Machine.{run}
use Rattle.cursor.specs.Rows.{meta_frame}
use Rattle.cursor.specs.Refusals.{cut_short}
use Rattle.cursor.specs.Leaves.{number}
use Rattle.cursor.specs.declared.Node.{Node}
use Rattle.cursor.specs.declared.Item.{Item}
use Rattle.account.specs.ByRows.{last_byte, behind, counted, meta_at, meta_end, contents_at, follow_size, in_nodes, in_items, together, kinds_by, Inside}
use Rattle.account.specs.declared.Kinds.{Kinds}
use Rattle.account.specs.declared.Frames.{Frames}
use Rattle.account.specs.declared.Data.{Data}
use Rattle.account.proofs.Numbers.{last_on}

module _ (f : List ℕ) (r : Node) where
  -- each of the three numbers begins where at least four bytes are left
  pub four-left : Inside f r → (r.start + 4 ≤ length f) × (behind f r.start + 4 ≤ length f) × (behind f (behind f r.start) + 4 ≤ length f)
  unfolding meta_at
  four-left i =
      let p = behind f r.start in let a = last_on f 3 r.start in let b = last_on f 3 p in
      let c = last_on f 3 (behind f p) in
      (omega arith, omega arith, omega arith)

  -- it begins behind the node's first byte
  pub from_start : r.start < meta_at f r
  unfolding meta_at
  from_start =
      let p = behind f r.start in
      omega (arith, last_on f 3 r.start, last_on f 3 p, last_on f 3 (behind f p))

  -- one behind the other
  pub thrice : {a b c : ℕ} → a ≡ last_byte f r.start → b ≡ last_byte f (a + 1) → c ≡ last_byte f (b + 1) → c + 1 ≡ meta_at f r
  unfolding meta_at
  thrice x y z = rw (z, y, x) refl

  -- the fourth, and what it counts
  pub spans : {a b : ℕ} → a ≡ meta_at f r → b ≡ counted a (run (number meta_frame cut_short (r.start + r.size)) f a) → a + b ≡ meta_end f r
  unfolding meta_end
  spans x y = rw (y, x) refl

module _ (r : Node) where
  pub contents-one : r.reference ≡ 1 → r.target ≡ contents_at r
  unfolding contents_at
  contents-one e = rw (eq-eqb r.reference 1 e) refl

  pub contents-other : ((r.reference ≡ 1) → ⊥) → r.start + r.size ≡ contents_at r
  unfolding contents_at
  contents-other e = rw (ne_eqb r.reference 1 e) refl

  pub follow_one : r.reference ≡ 1 → r.extent ≡ follow_size r
  unfolding follow_size
  follow_one e = rw (eq-eqb r.reference 1 e) refl

  pub follow-none : ((r.reference ≡ 1) → ⊥) → 0 ≡ follow_size r
  unfolding follow_size
  follow-none e = rw (ne_eqb r.reference 1 e) refl

-- the counts of a file, in three calls
pub in_turn : (f : List ℕ) (end : ℕ) (ns : List Node) (is : List Item) {a : Frames} {b : Data} {c : Kinds} → a ≡ in_nodes f ns → b ≡ in_items
    is → c ≡ together (length f) end a b → c ≡ kinds_by f end ns is
unfolding kinds_by
in_turn f end ns is x y z = z ∙ ap₂ (together (length f) end) x y
