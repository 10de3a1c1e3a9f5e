-- The tree's rows come first and rise; following adds rows behind them that are detached.
-- Assumes nothing.
use mathlib.Core.Path.{◌≡◌, refl, sym, ap, ◌∙◌, subst}
use mathlib.Core.Bool.{Bool, true, false, cond}
use mathlib.Core.List.{List, [], ◌∷◌, ◌++◌}
use Prim.Native.Nat.{ℕ, zero, suc, ◌+◌, ◌≤◌, ◌<◌}
use native.Mathlib.Omega.{arith}
use borrow.Author.Tests.{eq-eqb, ne_eqb, eqb-true}
use lib.Dec.{eqb}
use lib.ListN.{length, take}
use lib.Seq.{take_all}
use Rattle.machine.specs.Machine.{ok, run, trace}
use Rattle.cursor.specs.Rows.{Events}
use Rattle.cursor.specs.declared.Node.{Node}
use Rattle.cursor.specs.declared.Item.{Item}
use Rattle.machine.proofs.Laws.{rows_on}
use Rattle.header.specs.Header.{Header}
use Rattle.metadata.specs.declared.Limits.{Limits}
use Rattle.metadata.specs.declared.Made.{Made}
use Rattle.rows.specs.Rows.{node_of, nodes_of, node_at, tree_rows, Rising}
use Rattle.file.specs.Reading.{good, follow, detached_at, context, rows, read_file}
use Rattle.file.specs.Told.{TreeFirst}
use Rattle.tree.proofs.Starts.{detached-row, tree-rises, tree-attached}
use Rattle.file.proofs.Shown.{part-is, header_of_lem}
use Rattle.file.proofs.Follow.{tree_of, target, Reached, known, added, followed, read_back}

-- ---- of any rows

pub tree-few : (ns : List Node) → tree_rows ns ≤ length ns
unfolding tree_rows
tree-few [] = omega arith
tree-few (r ∷ ns) = by (eqb r.detached 0) (tree-few ns)
  where
    by : (b : Bool) → tree_rows ns ≤ length ns → (cond b (suc (tree_rows ns)) 0) ≤ suc (length ns)
    by true l = omega arith
    by false l = omega arith

pub attached : (ns : List Node) (i : ℕ) → i < tree_rows ns → (node_at ns i).detached ≡ 0
unfolding tree_rows
attached [] i l = absurd (omega arith)
attached (r ∷ ns) i l = by (eqb r.detached 0) refl (attached ns) i l
  where
    by : (b : Bool) → eqb r.detached 0 ≡ b → ((j : ℕ) → j < tree_rows ns → (node_at ns j).detached ≡ 0) → (i : ℕ) → i <
        (cond b (suc (tree_rows ns)) 0) → (node_at (r ∷ ns) i).detached ≡ 0
    by true e rest zero l = eqb-true _ _ e
    by true e rest (suc i) l = rest i (omega arith)
    by false e rest i l = absurd (omega arith)

-- rows none of which is detached are all the tree's
all-attached : (ns : List Node) → ((i : ℕ) → i < length ns → (node_at ns i).detached ≡ 0) → tree_rows ns ≡ length ns
unfolding tree_rows
all-attached [] h = refl
all-attached (r ∷ ns) h = rw (eq-eqb r.detached 0 (h 0 (omega arith))) (ap suc (all-attached ns (λ i l. h (suc i) (omega arith))))

-- a detached row behind them changes nothing
behind : (ns : List Node) (r : Node) (ms : List Node) → r.detached ≡ 1 → tree_rows (ns ++ (r ∷ ms)) ≡ tree_rows ns
unfolding tree_rows
behind [] r ms e = let n : (r.detached ≡ 0) → ⊥ = λ z. omega arith in rw (ne_eqb r.detached 0 n) refl
behind (q ∷ ns) r ms e = ap (λ k. cond (eqb q.detached 0) (suc k) 0) (behind ns r ms e)

take-front : (k : ℕ) (ns ms : List Node) → k ≤ length ns → take k (ns ++ ms) ≡ take k ns
take-front zero ns ms l = refl
take-front (suc k) [] ms l = absurd (omega arith)
take-front (suc k) (r ∷ ns) ms l = ap (λ v. r ∷ v) (take-front k ns ms (omega arith))

-- ---- of the rows of a log

module _ (lim : Limits) (f : List ℕ) (h : Header) where
  -- after the tree
  pub tree-first : {m : Made} {p : ℕ} → h.extent.last < length f → run (tree_of lim (length f) h) f h.extent.start ≡ ok m p
      → TreeFirst (length (nodes_of (trace (tree_of lim (length f) h) f h.extent.start))) (trace (tree_of lim (length f) h) f h.extent.start)
  tree-first l e =
      let x = context lim h (length f) in
      let ns = nodes_of (trace (tree_of lim (length f) h) f h.extent.start) in
      record {
        tree_is = all-attached ns (tree-attached x (h.extent.last + 1) f h.extent.start (omega arith) e);
        rising = subst Rising (sym (take_all (length ns) ns (omega arith))) (tree-rises x (h.extent.last + 1) f h.extent.start (omega arith) e);
      }

  -- after one more row
  pub tree-still : {tree : ℕ} {log log' : Events} {r : Node} → h.extent.start ≤ length f → TreeFirst tree log → Reached lim f h log r log' → TreeFirst tree log'
  unfolding detached_at
  tree-still z t (known x y) = rw y t
  tree-still {tree} {log} {log'} {r} z t (added s y) =
      let es = trace (target lim f h log r) f r.target in
      let w = detached-row f (context lim h (length f)) _ _ _ _ r.target (part-is h (length f) r.target z).0 s.runs in
      let n : nodes_of log' ≡ nodes_of log ++ (w.row ∷ w.others) = ap nodes_of y ∙ rows_on node_of log es ∙ ap (λ v. nodes_of log ++ v) w.rows_are in
      let l = tree-few (nodes_of log) in let e = t.tree_is in
      record {
        tree_is = ap tree_rows n ∙ behind (nodes_of log) w.row w.others w.detached-is ∙ e;
        rising = subst Rising (sym (ap (take tree) n ∙ take-front tree (nodes_of log) (w.row ∷ w.others) (omega arith))) t.rising;
      }

  -- after all rows were followed
  pub tree-followed : {tree : ℕ} (k i : ℕ) (log : Events) {log' : Events} → h.extent.start ≤ length f → TreeFirst tree log → follow k lim f
      h i (good log) ≡ good log' → TreeFirst tree log'
  tree-followed {tree} k i log z t e = (followed lim f h (λ _ log. TreeFirst tree log) (λ i log log' s l r. tree-still z s r) k i (good log)
      (λ v q. subst (TreeFirst tree) (same q) t) e).1
    where
      same : {a b : Events} → good a ≡ good b → a ≡ b
      same x = cc

-- the tree's rows of an accepted file rise
pub rows-rise : (lim : Limits) (f : List ℕ) {h : Header} {ns : List Node} {is : List Item} → read_file lim f ≡ rows h ns is → Rising (take (tree_rows ns) ns)
rows-rise lim f {h} {ns} e =
    let a = read_back lim f e in let b = header_of_lem a in
    let t = tree-followed lim f h lim.nodes 0 _ (omega arith) (tree-first lim f h b.3 a.tree_is) a.follows in
    subst (λ v. Rising (take (tree_rows v) v)) a.nodes-are (subst (λ k. Rising (take k (nodes_of a.log))) (sym t.tree_is) t.rising)
