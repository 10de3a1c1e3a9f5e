-- The invariant of a loop over the rows of a table: what is left to do is what the rows from row i on give.
-- Assumes nothing.
use mathlib.Core.Path.{◌≡◌, refl, sym, ap, ◌∙◌, subst}
use mathlib.Core.List.{List}
use Prim.Native.Nat.{ℕ, suc, ◌+◌, ◌*◌, ◌-◌, ◌≤◌, ◌<◌}
use native.Mathlib.Omega.{arith}
use Rattle.rows.specs.Rows.{node_width, item_width, rows_from, node_from, item_from, nodes_in, items_in}
use Rattle.account.specs.ByRows.{with_node, with_item, folded, none, nothing, in_nodes, in_items, SmallFrames, SmallData}
use Rattle.account.specs.declared.Frames.{Frames}
use Rattle.account.specs.declared.Data.{Data}
use Rattle.account.proofs.Exact.{small-frames, small-data}

module _ {S A : Type 0} (add : S → A → S) (width : ℕ) (row : List ℕ → ℕ → A) (ws : List ℕ) (n : ℕ) (k₀ : S) where
  pub record Folding (i : ℕ) (k : S) : Type 0 where
    pub left : folded add k (rows_from width row i (n - i) ws) ≡ folded add k₀ (rows_from width row 0 n ws)

  pub folding_begun : Folding 0 k₀
  folding_begun = record { left = ap (λ m. folded add k₀ (rows_from width row 0 m ws)) (let e : n - 0 ≡ n = omega arith in e) }

  one_more_lem : (i m p : ℕ) (k : S) → m ≡ suc p → folded add k (rows_from width row i m ws) ≡ folded add (add k (row ws (i * width))) (rows_from width row (i + 1) p ws)
  unfolding folded rows_from
  one_more_lem i m p k e = rw e refl

  pub folding_on : {i : ℕ} {k : S} → i < n → Folding i k → {r : A} {k' : S} → r ≡ row ws (i * width) → k' ≡ add k r → Folding (i + 1) k'
  folding_on {i} {k} l w {r} {k'} a b = record {
    left = ap (λ v. folded add v (rows_from width row (i + 1) (n - (i + 1)) ws)) (b ∙ ap (add k) a) ∙ sym
        (one_more_lem i (n - i) (n - (i + 1)) k (omega arith)) ∙ w.left;
  }

  none_left : (i m : ℕ) (k : S) → m ≡ 0 → folded add k (rows_from width row i m ws) ≡ k
  unfolding folded rows_from
  none_left i m k e = rw e refl

  pub folding_done : {i : ℕ} {k : S} → n ≤ i → Folding i k → k ≡ folded add k₀ (rows_from width row 0 n ws)
  folding_done {i} {k} l w = sym (none_left i (n - i) k (omega arith)) ∙ w.left

-- ---- the two loops

pub nodes-done : (f ws : List ℕ) (n : ℕ) {i : ℕ} {k : Frames} → n ≤ i → Folding (with_node f) node_width node_from ws n none i k → k ≡ in_nodes f (nodes_in n ws)
unfolding nodes_in
nodes-done f ws n l w = folding_done (with_node f) node_width node_from ws n none l w

pub items-done : (ws : List ℕ) (n : ℕ) {i : ℕ} {d : Data} → n ≤ i → Folding with_item item_width item_from ws n nothing i d → d ≡ in_items (items_in n ws)
unfolding items_in
items-done ws n l w = folding_done with_item item_width item_from ws n nothing l w

-- on the way the sums are small

pub nodes-small : (f ws : List ℕ) (n : ℕ) {i : ℕ} {k : Frames} → i < n → Folding (with_node f) node_width node_from ws n none i k → SmallFrames (in_nodes f (nodes_in n ws))
    → SmallFrames (with_node f k (node_from ws (i * node_width)))
unfolding nodes_in
nodes-small f ws n {i} {k} l w s =
    let on = folding_on (with_node f) node_width node_from ws n none l w refl refl in
    small-frames f (rows_from node_width node_from (i + 1) (n - (i + 1)) ws) _ (subst SmallFrames (sym on.left) s)

pub items-small : (ws : List ℕ) (n : ℕ) {i : ℕ} {d : Data} → i < n → Folding with_item item_width item_from ws n nothing i d → SmallData (in_items (items_in n ws))
    → SmallData (with_item d (item_from ws (i * item_width)))
unfolding items_in
items-small ws n {i} {d} l w s =
    let on = folding_on with_item item_width item_from ws n nothing l w refl refl in
    small-data (rows_from item_width item_from (i + 1) (n - (i + 1)) ws) _ (subst SmallData (sym on.left) s)
