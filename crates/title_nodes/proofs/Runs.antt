-- Bytes that are appended: parts of the file that follow one another are one part.
-- Assumes nothing.
use mathlib.Core.Path.{◌≡◌, refl, sym, ap, ◌∙◌}
use mathlib.Core.Bool.{true, false}
use mathlib.Core.List.{List, [], ◌++◌, append-nil}
use Prim.Native.Nat.{ℕ, ◌+◌, ◌≤◌, ◌<◌}
use native.Mathlib.Omega.{arith}
use lib.ListN.{length, take, drop}
use lib.Seq.{take-add, drop-drop}
use Rattle.room.specs.Parts.{part}
use Rattle.cursor.specs.declared.Node.{Node}
use Rattle.title_text.specs.Description.{Content, shape}
use Rattle.title_text.specs.Title.{Bytes}
use Rattle.title_text.specs.Text.{node_text}
use Rattle.room.specs.Counts.{Counts, too_many}
use Rattle.room.proofs.Counting.{counts-none, counts-then}
use Rattle.title_nodes.specs.Passes.{size_stop, Framed, Leaf}
use Rattle.title_nodes.specs.Told.{Appends}
use Rattle.title_nodes.specs.declared.Frame.{Frame}
use Rattle.title_nodes.specs.declared.Run.{Run}

pub no_true : {X : Type 0} → false ≡ true → X
no_true e = let z : ◌≡◌ {A = ℕ} 0 1 = cc in absurd (omega arith)

part_join : (f : List ℕ) (a m n : ℕ) → part f a (m + n) ≡ part f a m ++ part f (a + m) n
part_join f a m n = take-add m n (drop a f) ∙ ap (λ v. part f a m ++ take n v) (drop-drop m a f)

module _ (f : List ℕ) (o : List ℕ) (r : Run) where
  pub append_on : (from size : ℕ) → r.from + r.size ≡ from → from + size ≤ length f → r.next ≤ too_many
      → Appends f o o r (part f from size) (record { next = r.next; from = r.from; size = r.size + size })
  append_on from size e l few = record {
    inside = omega arith;
    put = [];
    counts = counts-none o few;
    text = part_join f r.from r.size size ∙ ap (λ v. part f r.from r.size ++ part f v size) e;
  }

  pub append_new : (from size : ℕ) → from + size ≤ length f → {o' : List ℕ} {n : ℕ} → Counts o o' r.next (part f r.from r.size) n
      → Appends f o o' r (part f from size) (record { next = n; from = from; size = size })
  append_new from size l p = record { inside = l; put = part f r.from r.size; counts = p; text = refl }

  pub append_anew : {t o₁ o₂ : List ℕ} {m n : ℕ} → Counts o o₁ r.next (part f r.from r.size) m → Counts o₁ o₂ m t n
      → Appends f o o₂ r t (record { next = n; from = 0; size = 0 })
  append_anew {t} p q = record { inside = omega arith; put = part f r.from r.size ++ t; counts = counts-then p q; text = append-nil (part f r.from r.size ++ t) }

pub append_as : {f o o' : List ℕ} {r r' : Run} {s t : List ℕ} → s ≡ t → Appends f o o' r s r' → Appends f o o' r t r'
append_as e a = rw e at a

-- a node that stands in the file
pub leaf_is : (f : List ℕ) (node : Node) (cs : List Content) {own : Type 0} → Leaf f node cs own → Bytes f → {inner : ℕ} → (node.contained ≡ 0 → inner ≡ 0) → {fr : Frame}
    → (node.contained ≡ 0) × (fr.size ≡ node.size) × own → Framed (shape f node) cs inner fr → length (node_text (shape f node) cs inner) + inner < size_stop
    → part f node.start fr.size ≡ node_text (shape f node) cs inner
leaf_is f node cs leaf bytes {inner} none {fr} (a, b, own) w small =
    let z : inner ≡ 0 = none a in
    let l : length (node_text (shape f node) cs 0) + 0 < size_stop = rw z at small in
    let k : fr.size ≡ length (node_text (shape f node) cs inner) + inner = omega (arith, w.stops) in
    let i : fr.size ≡ length (node_text (shape f node) cs 0) + 0 = rw z at k in
    let h : length (node_text (shape f node) cs 0) ≡ node.size = omega arith in
    rw (z, b) (sym (leaf bytes a own h))
