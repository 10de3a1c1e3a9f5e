-- Lines written from rows: those of the first edition are well formed, and the mover takes them to those of the second. Rows: anything with a line for each node and lines (none or one) for each item.
-- Assumes nothing.
use mathlib.Core.Path.{◌≡◌, refl, sym, ap, ap₂, ◌∙◌, subst}
use mathlib.Core.Logic.{inl}
use mathlib.Core.Bool.{false}
use mathlib.Core.List.{List, [], ◌∷◌, ◌++◌, map, append_assoc, head-eq_of_cons-eq, tail-eq_of_cons-eq}
use Prim.{Unit, tt}
use Prim.Native.Nat.{ℕ, zero, suc, ◌+◌, ◌≤◌, ◌<◌}
use native.Mathlib.Omega.{arith}
use lib.ListN.{length, take, drop, replicate, take-append-drop}
use Rattle.editions.specs.Sheets.{Lines, node, kind, nodes_of, items_of, reordered}
use Rattle.editions.proofs.Order.{Rows, Items, Groups, groups-items, items-nodes, items-items, none-nodes, none-items, nodes-node, items-node, items-lower, first_rows, first-low, second_back}
use Rattle.editions.proofs.Back.{FirstBody}
use Rattle.file_laws.proofs.Small.{Each}

-- from cons to its parts
no-cons : {A : Type 0} (x : A) (xs : List A) → x ∷ xs ≡ [] → ⊥
no-cons x xs e = let z : ◌≡◌ {A = ℕ} 0 1 = cc in omega arith

module _ {N I : Type 0} (rows : N → ℕ) (owner : I → ℕ) (node_line : ℕ → N → List ℕ) (item_line : I → Lines) where
  abbrev pub node_lines : ℕ → List N → Lines
  node_lines k [] = []
  node_lines k (r ∷ rs) = node_line k r ∷ node_lines (k + 1) rs

  abbrev pub item_lines : List I → Lines
  item_lines [] = []
  item_lines (i ∷ is) = item_line i ++ item_lines is

  -- each node's line, and the lines of as many items as its row says
  abbrev pub group_lines : ℕ → List N → List I → Lines
  group_lines k [] is = []
  group_lines k (r ∷ rs) is = node_line k r ∷ item_lines (take (rows r) is) ++ group_lines (k + 1) rs (drop (rows r) is)

  -- the owners of the items: for each node its row number as many times as its row says (crates/file/proofs/Order.antt, `InOrder`)
  abbrev pub owners : ℕ → List N → List ℕ
  owners k [] = []
  owners k (r ∷ rs) = replicate (rows r) k ++ owners (k + 1) rs

  -- the lines are of their rows' kinds
  abbrev pub NodesAre : ℕ → List N → Type 0
  NodesAre k [] = Unit {0}
  NodesAre k (r ∷ rs) = (kind (node_line k r) ≡ node k) × NodesAre (k + 1) rs

  abbrev pub ItemsAre : List I → Type 0
  ItemsAre is = Each (λ i. Items (owner i) (owner i + 1) (item_line i)) is

  joined : (low high : ℕ) (a b : Lines) → (k : ℕ) → low ≤ k → k < high → Items k (k + 1) a → Items k high b → Items low high (a ++ b)
  joined low high [] b k l h m n = items-lower k low high b l n
  joined low high (x ∷ a) b k l h (j, e, p, q, m) n = (j, e, omega arith, omega arith, joined j high a b k (omega arith) h (again j m (omega arith)) n)
    where
      again : (j : ℕ) → Items j (k + 1) a → k ≤ j → Items k (k + 1) a
      again j m l = items-lower j k (k + 1) a l m

  -- c items of one node
  taken : (c k : ℕ) (is : List I) (rest : List ℕ) → ItemsAre is → map owner is ≡ replicate c k ++ rest → Items k (k + 1)
      (item_lines (take c is)) × (map owner (drop c is) ≡ rest) × ItemsAre (drop c is)
  taken zero k is rest a e = (tt, e, a)
  taken (suc c) k [] rest a e = absurd (no-cons k (replicate c k ++ rest) (sym e))
  taken (suc c) k (i ∷ is) rest (o, a) e =
      let q : owner i ≡ k = head-eq_of_cons-eq e in let r = taken c k is rest a (tail-eq_of_cons-eq e) in
      let m : Items k (k + 1) (item_line i) = subst (λ (j : ℕ). Items j (j + 1) (item_line i)) q o in
      (joined k (k + 1) (item_line i) (item_lines (take c is)) k (omega arith) (omega arith) m r.0, r.1, r.2)

  lines-append : (a b : List I) → item_lines (a ++ b) ≡ item_lines a ++ item_lines b
  lines-append [] b = refl
  lines-append (i ∷ a) b = ap (λ (v : Lines). item_line i ++ v) (lines-append a b) ∙ sym (append_assoc (item_line i) (item_lines a) (item_lines b))

  group_stands : (k : ℕ) (ns : List N) (is : List I) → NodesAre k ns → ItemsAre is → map owner is ≡ owners k ns → Groups k (group_lines k ns is) (k + length ns)
  group_stands k [] is n a e = omega arith
  group_stands k (r ∷ ns) is (n, ms) a e =
      let (m, d, b) = taken (rows r) k is (owners (k + 1) ns) a e in
      let z : k + 1 + length ns ≡ k + length (r ∷ ns) = omega arith in
      let g = subst (λ (n : ℕ). Groups (k + 1) (group_lines (k + 1) ns (drop (rows r) is)) n) z (group_stands (k + 1) ns (drop (rows r) is) ms b d) in
      inl (n, groups-items k (k + length (r ∷ ns)) (item_lines (take (rows r) is)) (group_lines (k + 1) ns (drop (rows r) is)) k (omega arith) m g)

  group_nodes : (k : ℕ) (ns : List N) (is : List I) → NodesAre k ns → ItemsAre is → map owner is ≡ owners k ns → nodes_of (group_lines k ns is) ≡ node_lines k ns
  group_nodes k [] is n a e = none-nodes
  group_nodes k (r ∷ ns) is (n, ms) a e =
      let (m, d, b) = taken (rows r) k is (owners (k + 1) ns) a e in
      nodes-node (node_line k r) (item_lines (take (rows r) is) ++ group_lines (k + 1) ns (drop (rows r) is)) n
      ∙ ap (λ (v : Lines). node_line k r ∷ v)
      (items-nodes k (k + 1) (item_lines (take (rows r) is)) m (group_lines (k + 1) ns (drop (rows r) is)) ∙ group_nodes (k + 1) ns
      (drop (rows r) is) ms b d)

  no-owners : (is : List I) → map owner is ≡ [] → item_lines is ≡ []
  no-owners [] e = refl
  no-owners (i ∷ is) e = absurd (no-cons (owner i) (map owner is) e)

  group_items_are : (k : ℕ) (ns : List N) (is : List I) → NodesAre k ns → ItemsAre is → map owner is ≡ owners k ns → items_of (group_lines k ns is) ≡ item_lines is
  group_items_are k [] is n a e = none-items ∙ sym (no-owners is e)
  group_items_are k (r ∷ ns) is (n, ms) a e =
      let (m, d, b) = taken (rows r) k is (owners (k + 1) ns) a e in
      items-node (node_line k r) (item_lines (take (rows r) is) ++ group_lines (k + 1) ns (drop (rows r) is)) n
      ∙ items-items k (k + 1) (item_lines (take (rows r) is)) m (group_lines (k + 1) ns (drop (rows r) is))
      ∙ ap (λ (v : Lines). item_lines (take (rows r) is) ++ v) (group_items_are (k + 1) ns (drop (rows r) is) ms b d)
      ∙ sym (lines-append (take (rows r) is) (drop (rows r) is))
      ∙ ap item_lines (take-append-drop (rows r) is)

  module _ (ns : List N) (is : List I) (n : NodesAre 0 ns) (a : ItemsAre is) (e : map owner is ≡ owners 0 ns) where
    -- the first edition's lines are well formed
    pub first_body : FirstBody (node_lines 0 ns ++ item_lines is) (0 + length ns) (length (item_lines is))
    first_body =
        let g = group_stands 0 ns is n a e in
        record {
          ns = node_lines 0 ns;
          ms = item_lines is;
          whole = refl;
          rows = subst (λ (v : Lines). Rows 0 v (0 + length ns)) (group_nodes 0 ns is n a e) (first_rows (group_lines 0 ns is) (0 + length ns) g);
          low = subst (λ (v : Lines). Items 0 (0 + length ns) v) (group_items_are 0 ns is n a e) (first-low (group_lines 0 ns is) (0 + length ns) g);
          count = refl;
        }

    -- and the mover takes them to the second's
    pub first-to_second : reordered false (node_lines 0 ns ++ item_lines is) ≡ group_lines 0 ns is
    unfolding reordered
    first-to_second =
        ap₂ (λ (v w : Lines). reordered false (v ++ w)) (sym (group_nodes 0 ns is n a e)) (sym (group_items_are 0 ns is n a e))
        ∙ second_back (group_lines 0 ns is) (0 + length ns) (group_stands 0 ns is n a e)
