-- Each refusal of the reader is one of the reader's: the header's, the tree's, and those of targets.
-- Assumes nothing.
use mathlib.Core.Path.{◌≡◌, refl, subst}
use mathlib.Core.Bool.{Bool, true, false, cond}
use mathlib.Core.List.{List, []}
use Prim.Native.Nat.{ℕ, zero, suc, ◌+◌, ◌-◌}
use native.Mathlib.Omega.{arith}
use lib.Dec.{ltb}
use lib.ListN.{length}
use Rattle.machine.specs.Machine.{Out, ok, refused, run, trace}
use Rattle.cursor.specs.Rows.{P, Events}
use Rattle.cursor.specs.declared.Node.{Node}
use Rattle.cursor.proofs.Uses.{InList, Listed, refusing, refused_as, after, ends, stops, at_place, checks, places, passes, counts}
use Rattle.header.specs.Header.{Header, header}
use Rattle.header.proofs.Uses.{header-uses}
use Rattle.metadata.specs.Metadata.{Context}
use Rattle.metadata.specs.declared.Limits.{Limits}
use Rattle.metadata.specs.declared.Made.{Made}
use Rattle.node.specs.Node.{in_tree, outside_tree}
use Rattle.node.specs.declared.Bounds.{Bounds}
use Rattle.node.proofs.Uses.{front-uses}
use Rattle.tree.specs.Tree.{folder, node, tree, detached}
use Rattle.rows.specs.Rows.{node_at, nodes_of}
use Rattle.file.specs.Reading.{Result, good, bad, refusal, logged, detached_at, follow_row, follow, reading, context, read_tree, read_file}
use Rattle.targets.specs.Targets.{is_missing, offset_at, outside}

-- ---- the tree

folder-listed : (end : ℕ) {children : P Made} → Listed children → Listed (folder end children)
unfolding folder
folder-listed end w = after w λ m. places λ q. checks _ _ _ tt ends

node-listed : (d : ℕ) (x : Context) (parent : ℕ) (s : Bounds) (m : Made) → Listed (node d x parent s m)
unfolding node
node-listed zero x parent s m = at_place λ p. stops tt
node-listed (suc d) x parent s m =
    places λ p. checks _ _ _ tt
    (after (front-uses (λ κ. tt) (λ v. tt) (λ i. tt) x parent (16 - d) s m) λ w. passes _ _ tt
    (folder-listed _ (counts w.row.contained _ (λ t. node-listed d x m.nodes (in_tree 0 (p + w.row.size)) t))))

pub tree-listed : (x : Context) (end : ℕ) → Listed (tree x end)
unfolding tree
tree-listed x end = node-listed 16 x 0 (in_tree end end) (record { nodes = 0; items = 0 })

detached-listed : (x : Context) (end taken offset : ℕ) (m : Made) → Listed (detached x end taken offset m)
unfolding detached
detached-listed x end taken offset m = node-listed 17 x m.nodes (outside_tree end taken offset) m

-- ---- the file

same-bad : {A : Type 0} {k q n p : ℕ} → InList k q → ◌≡◌ {A = Result A} (bad k q) (bad n p) → InList n p
same-bad {k = k} {q} {n} {p} i e = let y : q ≡ p = cc in let z : k ≡ n = cc in subst (λ v. InList v p) z (subst (λ v. InList k v) y i)

not_good : {A B : Type 0} {a : A} {n p : ℕ} → ◌≡◌ {A = Result A} (good a) (bad n p) → B
not_good e = let z : ◌≡◌ {A = ℕ} 0 1 = cc in absurd (omega arith)

logged-listed : {m : P Made} (f : List ℕ) (at : ℕ) → Listed m → (log : Events) (o : Out Made) → run m f at ≡ o → {n p : ℕ} → logged log o (trace m f at) ≡ bad n p → InList n p
unfolding logged
logged-listed f at l log (ok v q) e z = not_good z
logged-listed f at l log (refused k q) e z = same-bad (refused_as f at l e) z

module _ (lim : Limits) (f : List ℕ) (h : Header) {n p : ℕ} where
  reach_listed : (log : Events) (r : Node) → follow_row lim f h log r ≡ bad n p → InList n p
  unfolding follow_row detached_at
  reach_listed log r e = by (is_missing (nodes_of log) r) (outside h (length f) r.target) e
    where
      m : P Made
      m = detached_at lim h (length f) log r.target (offset_at f r)

      by : (b c : Bool) → (cond b (cond c (logged log (run m f r.target) (trace m f r.target)) (bad 16 (offset_at f r))) (good log)) ≡ bad n p → InList n p
      by true true z = logged-listed f r.target (detached-listed _ _ _ _ _) log (run m f r.target) refl z
      by true false z = same-bad tt z
      by false true z = not_good z
      by false false z = not_good z

  follow-listed : (k i : ℕ) (o : Result Events) → (o ≡ bad n p → InList n p) → follow k lim f h i o ≡ bad n p → InList n p
  unfolding follow
  follow-listed zero i o base e = base e
  follow-listed (suc k) i (bad a b) base e = base e
  follow-listed (suc k) i (good log) base e = by (ltb i (length (nodes_of log)))
      (follow-listed k (i + 1) (follow_row lim f h log (node_at (nodes_of log) i)) (reach_listed log (node_at (nodes_of log) i))) e
    where
      by : (b : Bool) → (follow k lim f h (i + 1) (follow_row lim f h log (node_at (nodes_of log) i)) ≡ bad n p → InList n p)
          → (cond b (follow k lim f h (i + 1) (follow_row lim f h log (node_at (nodes_of log) i))) (good log)) ≡ bad n p → InList n p
      by true rest z = rest z
      by false rest z = not_good z

module _ (lim : Limits) (f : List ℕ) {n p : ℕ} where
  of_log : (g : Header) (o : Result Events) → (o ≡ bad n p → InList n p) → reading g o ≡ refusal n p → InList n p
  unfolding reading
  of_log g (good log) base e = let z : ◌≡◌ {A = ℕ} 0 1 = cc in absurd (omega arith)
  of_log g (bad k q) base e = base (let z : k ≡ n = cc in let y : q ≡ p = cc in rw (z, y) refl)

  of_header_lem : (o : Out Header) → run (header (length f)) f 0 ≡ o → read_tree lim f o ≡ refusal n p → InList n p
  unfolding read_tree
  of_header_lem (ok g q) e r =
      of_log g _ (follow-listed lim f g lim.nodes 0 _
      (logged-listed f g.extent.start (tree-listed (context lim g (length f)) (g.extent.last + 1)) []
      (run (tree (context lim g (length f)) (g.extent.last + 1)) f g.extent.start) refl)) r
  of_header_lem (refused k q) e r = let y : q ≡ p = cc in let z : k ≡ n = cc in subst (λ v. InList v p) z
      (subst (λ v. InList k v) y (refused_as {S = refusing} f 0 (header-uses tt tt (length f)) e))

pub refusal-listed : (lim : Limits) (f : List ℕ) {n p : ℕ} → read_file lim f ≡ refusal n p → InList n p
unfolding read_file
refusal-listed lim f e = of_header_lem lim f (run (header (length f)) f 0) refl e
