-- If some values of the two fields, in the bytes that they have, make a file that is accepted, then they are the right ones.
-- Assumes nothing.
use mathlib.Core.Path.{◌≡◌, refl, sym, ap, ◌∙◌, subst}
use mathlib.Core.Logic.{inr}
use mathlib.Core.List.{List}
use Prim.Native.Nat.{ℕ, ◌+◌, ◌≤◌, ◌<◌}
use native.Mathlib.Omega.{arith}
use lib.ListN.{length, get_or}
use borrow.Author.Tests.{leb-true}
use Rattle.machine.specs.Machine.{ok, run}
use Rattle.cursor.specs.Rows.{node_frame}
use Rattle.cursor.specs.Leaves.{number}
use Rattle.cursor.specs.declared.Node.{Node}
use Rattle.cursor.specs.declared.Item.{Item}
use Rattle.cursor.proofs.Leaves.{number-inside, number_same}
use Rattle.cursor.proofs.Wider.{number-wider}
use Rattle.cursor.proofs.Post.{post_after, post_run, post_step, post_place, post_check}
use Rattle.cursor.proofs.Runs.{nothing-quiet, post_ran}
use Rattle.header.specs.Header.{Header, header}
use Rattle.metadata.specs.Metadata.{Context}
use Rattle.metadata.specs.declared.Limits.{Limits}
use Rattle.metadata.specs.declared.Made.{Made}
use Rattle.node.specs.Node.{head, front}
use Rattle.tree.specs.Tree.{node, tree}
use Rattle.file.specs.Reading.{rows, read_file}
use Rattle.file.proofs.Follow.{read_back}
use Rattle.mend.specs.Fields.{Fields, Hold}
use Rattle.mend.specs.Mend.{set_to, value_of, number_at, last_of, set_right, mended}
use Rattle.mend.proofs.Parts.{Parts, places, parts_fields, Judged, header_for, header-parts, valued, Valued, valued-parts}
use Rattle.mend.proofs.Values.{set-length, set-valued}

-- ---- the root, which begins with its length, fills the tree

abbrev Root : (end : ℕ) → List ℕ → (at : ℕ) → Type 0
Root end f at = (size : ℕ) × (q : ℕ) × (run (number node_frame 3 end) f at ≡ ok size q) × (at + size ≡ end)

tree-root : (x : Context) (end : ℕ) (f : List ℕ) (at : ℕ) {m : Made} {r : ℕ} → run (tree x end) f at ≡ ok m r → Root end f at
unfolding tree node front head
tree-root x end f at e =
    post_ran {Q = λ m r. Root end f at}
    (post_place _ at (post_check _ _ λ t. post_after {Q = λ w q τ. Root end f at}
    (post_place _ at (post_after {Q = λ h q τ. Root end f at}
    (post_place _ at (post_step nothing-quiet λ size q n. post_check _ _ λ u. post_check _ _ λ v.
    post_run nothing-quiet λ h r c. (size, q, n, omega (arith, leb-true (at + size) end u, leb-true end (at + size) v))))
    λ h q τ z. post_run nothing-quiet λ w r c. z))
    λ w q τ z. post_run nothing-quiet λ m r c. z)) e

-- ---- the number at a place

number-value : (f : List ℕ) (p : ℕ) {n q : ℕ} → run (number node_frame 3 (length f)) f p ≡ ok n q → number_at f p ≡ n
unfolding number_at
number-value f p e = ap value_of e

-- is the same in two files that agree from there on
pub numbers-same : (f g : List ℕ) (p : ℕ) → length f ≡ length g → ((k : ℕ) → p ≤ k → get_or f k 0 ≡ get_or g k 0) → number_at f p ≡ number_at g p
unfolding number_at
numbers-same f g p l h = rw l (ap value_of (number_same f g node_frame 3 (length g) p (λ k lo hi. h k lo)))

-- ---- the values

pub same-fields : {v w : Fields} {p q : ℕ} → ok v p ≡ ok w q → v ≡ w
same-fields e = cc

-- what acceptance says of the values a and b: they are the bytes lent and the root's last byte, and the tree lies in the file behind the header
pub record Right (f : List ℕ) (w : Fields) (a b : ℕ) : Type 0 where
  pub long : a ≡ length f
  pub last : b ≡ last_of f w
  pub after : w.last.end ≤ w.start
  pub ordered : w.start ≤ b
  pub inside : b < length f

module _ (lim : Limits) (f : List ℕ) {w : Fields} (x : Parts (length f) f w) where
  pub right : (g : List ℕ) → length g ≡ length f → {a b : ℕ} → Valued (length f) f g w a b → {h : Header} {ns : List Node} {is : List Item} →
      read_file lim g ≡ rows h ns is → Right f w a b
  unfolding last_of
  right g n {a} {b} v {h} e =
      let r = read_back lim g e in
      let he : run (header (length f)) g 0 ≡ ok h r.next = subst (λ k. run (header k) g 0 ≡ ok h r.next) n r.header_is in
      let (y, z, j, says) = header-parts (length f) g he in
      let s : y ≡ valued w a b = same-fields (sym (parts_fields (length f) g z) ∙ parts_fields (length f) g (valued-parts (length f) f g x v)) in
      let d = subst (Judged (length f)) s j in
      let hs : h ≡ header_for w b = says ∙ ap (λ u. header_for u u.last.value) s in
      let (size, q, number_is, fills) = subst (λ (u : Header). Root (u.extent.last + 1) g u.extent.start) hs
      (tree-root _ (h.extent.last + 1) g h.extent.start r.tree_is) in
      let i = number-inside node_frame 3 (b + 1) g w.start number_is in
      let k = d.inside in let o = d.after in
      let own : number_at f w.start ≡ size = number-value f w.start
      (number_same f g node_frame 3 (length f) w.start (λ k lo hi. v.same k (inr (inr (omega arith)))) ∙ number-wider node_frame 3 3 (b + 1)
      (length f) g w.start number_is (omega arith)) in
      record { long = d.long; last = omega arith; after = o; ordered = d.ordered; inside = k }

  -- values that make an accepted file: the file is the mended one
  pub exact : (a b : ℕ) → Hold w a b → {h : Header} {ns : List Node} {is : List Item} → read_file lim (set_to f w a b) ≡ rows h ns is → set_to f w a b ≡ mended f
  unfolding mended set_right
  exact a b hold e =
      let r = right (set_to f w a b) (set-length f w a b) (set-valued (places (length f) f x) f refl a b hold) e in
      rw (parts_fields (length f) f x, r.long, r.last) refl
