-- Rows stand in file order: a node's row comes after its parent's, its start after the starts before, and item rows stand in node order, as many for each node as its row says.
-- Assumes nothing.
use mathlib.Core.Path.{◌≡◌, refl, ap, ◌∙◌, subst}
use mathlib.Core.List.{List, [], ◌∷◌, ◌++◌, map}
use Prim.Native.Nat.{ℕ, zero, suc, ◌+◌, ◌-◌, ◌≤◌, ◌<◌}
use native.Mathlib.Omega.{arith}
use lib.ListN.{length, replicate}
use Rattle.machine.specs.Machine.{ok, seen, passed, run, trace, rows_of}
use Rattle.cursor.specs.Rows.{node_row, item_row, plain, P, Events}
use Rattle.cursor.specs.declared.Node.{Node}
use Rattle.cursor.specs.declared.Item.{Item}
use Rattle.cursor.proofs.Order.{Orders, Ordered, ordered_on, in_order, after, weaken, ends, stops, at_place, checks, places, passes_node, counts}
use Rattle.header.specs.Header.{Header}
use Rattle.metadata.specs.Metadata.{Context}
use Rattle.metadata.specs.declared.Limits.{Limits}
use Rattle.metadata.specs.declared.Made as made
use Rattle.node.specs.Node.{in_tree, outside_tree}
use Rattle.node.specs.declared.Bounds.{Bounds}
use Rattle.node.proofs.Order.{front-orders}
use Rattle.tree.specs.Tree.{folder, node, tree, detached}
use Rattle.rows.specs.Rows.{nodes_of, items_of, node_at}
use Rattle.file.specs.Reading.{good, made_by, detached_at, rows, read_file}
use Rattle.tree.proofs.Starts.{counted}
use Rattle.file.proofs.Follow.{tree_of, Reached, known, added, followed, read_back}

-- ---- the tree makes its rows in order

-- as many node rows as are counted, which are more than n, and no item row since the last of them
abbrev pub Above : ℕ → made.Made → ℕ → ℕ → Type 0
Above n m k c = (k ≡ m.nodes) × (c ≡ 0) × (n < m.nodes)

folder-orders : (n end : ℕ) {children : P made.Made} {k c : ℕ} → Orders children (Above n) k c → Orders (folder end children) (Above n) k c
unfolding folder
folder-orders n end w = after w λ m k c i. places λ q. checks _ _ _ (ends i)

pub node-orders : (d : ℕ) (x : Context) (parent : ℕ) (s : Bounds) (m : made.Made) (k c : ℕ) → k ≡ m.nodes → c ≡ 0 → parent ≤ m.nodes →
    Orders (node d x parent s m) (Above m.nodes) k c
unfolding node
node-orders zero x parent s m k c a b before = at_place λ p. stops
node-orders (suc d) x parent s m k c a b before =
    rw (a, b) (places λ p. checks _ _ _
    (after (front-orders x parent (16 - d) s m) λ w k c i.
    passes_node w.row _ i.2 (let a = i.0 in let b = i.3 in omega arith)
    (folder-orders m.nodes _
    (counts (Above m.nodes) w.row.contained _
    (λ t k' c' j. weaken (node-orders d x m.nodes (in_tree 0 (p + w.row.size)) t k' c' j.0 j.1 (let z = j.2 in omega arith)) (λ s' k'' c'' l. (l.0, l.1, omega arith)))
    (omega arith, refl, omega arith)))))

pub tree-orders : (x : Context) (end : ℕ) → Orders (tree x end) (Above 0) 0 0
unfolding tree
tree-orders x end = node-orders 16 x 0 (in_tree end end) (record { nodes = 0; items = 0 }) 0 0 refl refl (omega arith)

-- ---- what that says of the rows

-- for each node, from row k on, its row number as many times as its row says
abbrev pub spread : ℕ → List Node → List ℕ
spread k [] = []
spread k (r ∷ ns) = replicate r.rows k ++ spread (k + 1) ns

one_more_lem : (c k : ℕ) (rest : List ℕ) → replicate c k ++ (k ∷ rest) ≡ replicate (c + 1) k ++ rest
one_more_lem zero k rest = refl
one_more_lem (suc c) k rest = let e : suc c + 1 ≡ suc (c + 1) = omega arith in rw e (ap (λ v. k ∷ v) (one_more_lem c k rest))

in_node_order : (k c : ℕ) (es : Events) (k' : ℕ) → Ordered k c es k' 0 → replicate c k ++ map (λ (r : Item). r.node) (items_of es) ≡ spread k (nodes_of es)
unfolding rows_of
in_node_order k c [] k' o = rw o.1
in_node_order k c (seen κ p ∷ es) k' o = in_node_order k c es k' o
in_node_order k c (passed (node_row r) p n ∷ es) k' o = rw o.0 (ap (λ v. replicate c k ++ v) (in_node_order (k + 1) 0 es k' o.2))
in_node_order k c (passed (item_row r) p n ∷ es) k' o = rw o.0 (one_more_lem c k _ ∙ in_node_order k (c + 1) es k' o.1)
in_node_order k c (passed (plain x) p n ∷ es) k' o = in_node_order k c es k' o

parents_before : (k c : ℕ) (es : Events) (k' c' : ℕ) → Ordered k c es k' c' → (i : ℕ) → i < length (nodes_of es) → (node_at (nodes_of es) i).parent ≤ k + i
unfolding rows_of
parents_before k c [] k' c' o i l = absurd (omega arith)
parents_before k c (seen κ p ∷ es) k' c' o i l = parents_before k c es k' c' o i l
parents_before k c (passed (node_row r) p n ∷ es) k' c' o zero l = let z = o.1 in omega arith
parents_before k c (passed (node_row r) p n ∷ es) k' c' o (suc i) l = let z = parents_before (k + 1) 0 es k' c' o.2 i (omega arith) in omega arith
parents_before k c (passed (item_row r) p n ∷ es) k' c' o i l = parents_before k (c + 1) es k' c' o.1 i l
parents_before k c (passed (plain x) p n ∷ es) k' c' o i l = parents_before k c es k' c' o i l

-- a detached node makes its row behind k others
pub detached-orders : (x : Context) (end taken offset : ℕ) (m : made.Made) → Orders (detached x end taken offset m) (Above m.nodes) m.nodes 0
unfolding detached
detached-orders x end taken offset m = node-orders 17 x m.nodes (outside_tree end taken offset) m m.nodes 0 refl refl (omega arith)

-- ---- the rows of an accepted file

pub record InOrder (ns : List Node) (is : List Item) : Type 0 where
  pub items-follow : map (λ (r : Item). r.node) is ≡ spread 0 ns
  pub parents_first : (i : ℕ) → i < length ns → (node_at ns i).parent ≤ i

-- the log's rows stand in order, and no item row comes behind the last node's
abbrev InLog : Events → Type 0
InLog log = Ordered 0 0 log (length (nodes_of log)) 0

tree-log : (f : List ℕ) (x : Context) (end at : ℕ) {m : made.Made} {p : ℕ} → run (tree x end) f at ≡ ok m p → InLog (trace (tree x end) f at)
tree-log f x end at e =
    let w = in_order f at (tree-orders x end) e in
    let c = counted 0 0 (trace (tree x end) f at) w.nodes w.items w.ordered in
    let n : length (nodes_of (trace (tree x end) f at)) ≡ w.nodes = omega arith in
    rw n (subst (λ v. Ordered 0 0 (trace (tree x end) f at) w.nodes v) w.ends.1 w.ordered)

more-log : (f : List ℕ) (x : Context) (end taken offset at : ℕ) (log : Events) {m : made.Made} {p : ℕ} → InLog log → run (detached x end taken offset (made_by log)) f at ≡ ok m p
    → InLog (log ++ trace (detached x end taken offset (made_by log)) f at)
more-log f x end taken offset at log i e =
    let es = trace (detached x end taken offset (made_by log)) f at in
    let w = in_order f at (detached-orders x end taken offset (made_by log)) e in
    let k = length (nodes_of log) in
    let o : Ordered k 0 es w.nodes 0 = subst (λ v. Ordered k 0 es w.nodes v) w.ends.1 w.ordered in
    let a = ordered_on 0 0 log es k 0 w.nodes 0 i o in let c = counted 0 0 (log ++ es) w.nodes 0 a in
    let n : length (nodes_of (log ++ es)) ≡ w.nodes = omega arith in
    rw n a

module _ (lim : Limits) (f : List ℕ) (h : Header) where
  one-more_row : (log log' : Events) (r : Node) → InLog log → Reached lim f h log r log' → InLog log'
  unfolding detached_at
  one-more_row log log' r i (known x e) = rw e i
  one-more_row log log' r i (added s e) = rw e (more-log f _ _ _ _ r.target log i s.runs)

of_log : (log : Events) → InLog log → {ns : List Node} {is : List Item} → nodes_of log ≡ ns → items_of log ≡ is → InOrder ns is
of_log log o a b = rw (← a, ← b) (record {
  items-follow = in_node_order 0 0 log _ o;
  parents_first = λ i l. let z = parents_before 0 0 log _ 0 o i l in omega arith;
})

-- item rows stand in node order, and no parent's row is later
pub in_row_order : (lim : Limits) (f : List ℕ) {h : Header} {ns : List Node} {is : List Item} → read_file lim f ≡ rows h ns is → InOrder ns is
in_row_order lim f {h} r =
    let a = read_back lim f r in
    let t : InLog (trace (tree_of lim (length f) h) f h.extent.start) = tree-log f _ _ h.extent.start a.tree_is in
    let w = followed lim f h (λ i. InLog) (λ i log log' o l. one-more_row lim f h log log' _ o) lim.nodes 0 _ (λ log e. subst InLog (same e) t) a.follows in
    of_log a.log w.1 a.nodes-are a.items-are
  where
    same : {x y : Events} → good x ≡ good y → x ≡ y
    same e = cc
