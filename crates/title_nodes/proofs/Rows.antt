-- Nodes and contents by their rows: the bytes of the nodes from a row on, by those from the next row on.
-- Assumes nothing.
use mathlib.Core.Path.{◌≡◌, refl, sym, ap, ◌∙◌}
use mathlib.Core.List.{List, [], ◌∷◌, ◌++◌, append_assoc}
use Prim.Native.Nat.{ℕ, zero, suc, ◌+◌, ◌-◌, ◌*◌, ◌≤◌, ◌<◌}
use native.Mathlib.Omega.{arith}
use lib.ListN.{length, take, drop, length-append, take-append-drop}
use Rattle.room.specs.Parts.{joined}
use Rattle.rows.specs.Rows.{node_width, node_from, nodes_from, rows_from}
use Rattle.title_text.specs.Description.{Content, Shape, shape}
use Rattle.title_text.specs.Text.{node_text, whole_text, outer}
use Rattle.title_items.specs.Contents.{content_at, contents_from}
use Rattle.title_nodes.specs.Passes.{Task, first_item, node_of, shape_of, contents_of, outer_from, inner_of, Sound}

module _ (f : List ℕ) (row : ℕ) (title us : List ℕ) where
  pub contents-take : (k n m : ℕ) → n ≤ m → take n (contents_from f row title us k m) ≡ contents_from f row title us k n
  unfolding contents_from
  contents-take k zero m l = refl
  contents-take k (suc n) zero l = absurd (omega arith)
  contents-take k (suc n) (suc m) l = ap (λ v. content_at f row title us k ∷ v) (contents-take (k + 1) n m (omega arith))

  pub contents-drop : (k n m : ℕ) → n ≤ m → drop n (contents_from f row title us k m) ≡ contents_from f row title us (k + n) (m - n)
  unfolding contents_from
  contents-drop k zero m l = let a : k + 0 ≡ k = omega arith in let b : m - 0 ≡ m = omega arith in rw (a, b) refl
  contents-drop k (suc n) zero l = absurd (omega arith)
  contents-drop k (suc n) (suc m) l = let a : k + 1 + n ≡ k + suc n = omega arith in let b : m - n ≡ suc m - suc n = omega arith
      in contents-drop (k + 1) n m (omega arith) ∙ rw (a, b) refl

pub nodes-on : (ws : List ℕ) (count i : ℕ) → i < count → nodes_from i (count - i) ws ≡ node_from ws (i * node_width) ∷ nodes_from (i + 1) (count - (i + 1)) ws
unfolding rows_from
nodes-on ws count i l = let e : count - i ≡ suc (count - (i + 1)) = omega arith in rw e refl

-- ---- the first item row of a node row

module _ (ws : List ℕ) where
  pub first_on : (i : ℕ) → first_item ws (i + 1) ≡ first_item ws i + (node_from ws (i * node_width)).rows
  unfolding first_item
  first_on i = let e : i + 1 ≡ suc i = omega arith in rw e refl

  pub first-start : first_item ws 0 ≡ 0
  unfolding first_item
  first-start = refl

  first-rises : (i d : ℕ) → first_item ws i ≤ first_item ws (i + d)
  first-rises i zero = let e : i + 0 ≡ i = omega arith in rw e (omega arith)
  first-rises i (suc d) = let e : i + suc d ≡ i + d + 1 = omega arith in rw e (omega (arith, first-rises i d, first_on (i + d)))

-- ---- bytes one after the other

joined-append : (a b : List (List ℕ)) → joined (a ++ b) ≡ joined a ++ joined b
joined-append [] b = refl
joined-append (s ∷ a) b = ap (λ v. s ++ v) (joined-append a b) ∙ sym (append_assoc s (joined a) (joined b))

whole-on : (r : Shape) (cs : List Content) (n : ℕ) (os : List (List ℕ)) → joined (whole_text r cs (joined (take n os)) ∷ drop n os) ≡
    node_text r cs (length (joined (take n os))) ++ joined os
unfolding whole_text
whole-on r cs n os =
    let t : List ℕ = node_text r cs (length (joined (take n os))) in
    append_assoc t (joined (take n os)) (joined (drop n os)) ∙ ap (λ v. t ++ v) (sym (joined-append (take n os) (drop n os)) ∙ ap joined (take-append-drop n os))

-- ---- the nodes from a row on

module _ {x : Task} (s : Sound x) where
  -- a node row's item rows are in the table
  pub rows_fit : (i : ℕ) → i < x.count → first_item x.nodes i + (node_of x i).rows ≤ x.total
  rows_fit i l =
      let e : i + 1 + (x.count - (i + 1)) ≡ x.count = omega arith in
      omega (arith, first_on x.nodes i, rw e at (first-rises x.nodes (i + 1) (x.count - (i + 1))), s.all-items)

  pub outer-end : outer_from x x.count ≡ []
  unfolding outer_from outer rows_from
  outer-end = let e : x.count - x.count ≡ 0 = omega arith in rw e refl

  module _ (i : ℕ) (l : i < x.count) where
    pub outer-on : outer_from x i ≡ whole_text (shape_of x i) (contents_of x i) (joined (take (node_of x i).contained (outer_from x (i + 1)))) ∷ drop
        (node_of x i).contained (outer_from x (i + 1))
    unfolding outer_from outer shape
    outer-on =
        let a : ℕ = first_item x.nodes i in let n : ℕ = (node_of x i).rows in let fit = rows_fit i l in
        let e : x.total - a - n ≡ x.total - (a + n) = omega arith in
        rw (
          nodes-on x.nodes x.count i l,
          contents-take x.file x.row x.title x.items a n (x.total - a) (omega arith),
          contents-drop x.file x.row x.title x.items a n (x.total - a) (omega arith),
          first_on x.nodes i,
          e,
        ) refl

    -- a node's own bytes, and then those of the rows after it
    pub text-on : joined (outer_from x i) ≡ node_text (shape_of x i) (contents_of x i) (inner_of x i) ++ joined (outer_from x (i + 1))
    text-on = ap joined outer-on ∙ whole-on (shape_of x i) (contents_of x i) (node_of x i).contained (outer_from x (i + 1))

    -- the bytes of the nodes that a node holds are among those
    pub inner_within : inner_of x i ≤ length (joined (outer_from x (i + 1)))
    inner_within =
        let n : ℕ = (node_of x i).contained in let os : List (List ℕ) = outer_from x (i + 1) in
        omega (arith, length-append (joined (take n os)) (joined (drop n os)), ap length (sym (joined-append (take n os) (drop n os)) ∙ ap joined (take-append-drop n os)))
