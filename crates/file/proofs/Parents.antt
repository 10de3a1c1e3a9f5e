-- Where the rows of an accepted file hang: a row of the tree other than the root has an earlier row of the tree as its parent; the root and each detached row are their own parents.
-- Assumes nothing.
use mathlib.Core.Path.{◌≡◌, refl, sym, ap, ◌∙◌, subst}
use mathlib.Core.Bool.{Bool, true, false}
use mathlib.Core.Logic.{◌⊎◌, inl, inr}
use mathlib.Core.List.{List, [], ◌∷◌, ◌++◌, append-nil}
use Prim.Native.Nat.{ℕ, zero, suc, ◌+◌, ◌-◌, ◌≤◌, ◌<◌}
use native.Mathlib.Decide.{dec_lt}
use native.Mathlib.Omega.{arith}
use lib.Dec.{leb}
use lib.ListN.{length, length-append}
use lib.Seq.{get_or-append_seam}
use Rattle.machine.specs.Machine.{ret, ok, run, trace, rows_of, ◌>>=◌, ◌>>◌, place, skip, check, times}
use Rattle.cursor.specs.Refusals.{bytes_left}
use Rattle.cursor.specs.Rows.{node_row, inline_size, P, Events}
use Rattle.cursor.specs.declared.Node.{Node}
use Rattle.cursor.specs.declared.Item.{Item}
use Rattle.machine.proofs.Laws.{rows_on, split}
use Rattle.cursor.proofs.Order.{in_order}
use Rattle.cursor.proofs.Uses.{Uses, used, passing}
use Rattle.cursor.proofs.Uses as uses
use Rattle.header.specs.Header.{Header}
use Rattle.metadata.specs.Tables.{plus_node}
use Rattle.metadata.specs.Metadata.{Context}
use Rattle.metadata.specs.declared.Limits.{Limits}
use Rattle.metadata.specs.declared.Made.{Made}
use Rattle.node.specs.Node.{in_tree, front}
use Rattle.node.specs.declared.Front.{Front}
use Rattle.node.specs.declared.Bounds.{Bounds}
use Rattle.node.proofs.Order.{front-orders}
use Rattle.tree.specs.Tree.{folder, node, tree}
use Rattle.rows.specs.Rows.{node_of, nodes_of, node_at, no_node}
use Rattle.file.specs.Reading.{good, made_by, detached_at, context, rows, read_file}
use Rattle.tree.proofs.Starts.{nodes-joined, NoNode, none, front-none, counted, detached-row, tree-attached}
use Rattle.file.proofs.Order.{node-orders}
use Rattle.file.proofs.Shown.{part-is, header_of_lem}
use Rattle.file.proofs.Follow.{tree_of, Reached, known, added, followed, read_back}

-- ---- rows below others

-- rows from row k on, each of which has an earlier parent
abbrev Under : ℕ → List Node → Type 0
Under k [] = Unit {0}
Under k (r ∷ ns) = (r.parent < k) × Under (k + 1) ns

under-on : (k n : ℕ) (ns ms : List Node) → n ≡ k + length ns → Under k ns → Under n ms → Under k (ns ++ ms)
under-on k n [] ms e a b = let z : n ≡ k = omega arith in subst (λ v. Under v ms) z b
under-on k n (r ∷ ns) ms e a b = (a.0, under-on (k + 1) n ns ms (omega arith) a.1 b)

under_at : (k : ℕ) (ns : List Node) → Under k ns → (i : ℕ) → i < length ns → (node_at ns i).parent < k + i
under_at k [] a i l = absurd (omega arith)
under_at k (r ∷ ns) a zero l = let z = a.0 in omega arith
under_at k (r ∷ ns) a (suc i) l = let z = under_at (k + 1) ns a.1 i (omega arith) in omega arith

-- a node's own row, row k, and those below it
abbrev Hangs : (parent k : ℕ) → List Node → Type 0
Hangs parent k [] = ⊥
Hangs parent k (r ∷ ns) = (r.parent ≡ parent) × Under (k + 1) ns

hang_under : (parent k : ℕ) (ns : List Node) → parent < k → Hangs parent k ns → Under k ns
hang_under parent k [] l h = absurd h
hang_under parent k (r ∷ ns) l h = let z = h.0 in (omega arith, h.1)

-- ---- the rows that an accepted run makes

record Makes {A : Type 0} (f : List ℕ) (m : P A) (at : ℕ) (Q : List Node → Type 0) : Type 0 where
  makes : {a : A} {p : ℕ} → run m f at ≡ ok a p → Q (nodes_of (trace m f at))

-- what follows a folder's children
abbrev ending : ℕ → Made → P Made
ending end m = place >>= λ q. (check (leb end q) bytes_left q >> ret m)

ending-uses : (end : ℕ) (m : Made) → Uses (passing NoNode) (ending end m)
ending-uses end m = uses.places λ q. uses.checks _ _ _ tt uses.ends

module _ (f : List ℕ) where
  places : {A : Type 0} (g : ℕ → P A) (at : ℕ) {Q : List Node → Type 0} → Makes f (g at) at Q → Makes f (place >>= g) at Q
  unfolding run trace ◌>>=◌ place
  places g at h = record { makes = h.makes }

  checks : (c : Bool) (n p : ℕ) {A : Type 0} {m : P A} {at : ℕ} {Q : List Node → Type 0} → Makes f m at Q → Makes f (check c n p >> m) at Q
  unfolding run trace ◌>>=◌ ◌>>◌ check
  checks true n p h = h
  checks false n p h = record { makes = λ e. let z : ◌≡◌ {A = ℕ} 0 1 = cc in absurd (omega arith) }

  -- how many rows a node makes
  more-nodes : (d : ℕ) (x : Context) (parent : ℕ) (s : Bounds) (m : Made) (at : ℕ) → parent ≤ m.nodes → {m' : Made} {p : ℕ} → run (node d x parent s m) f at ≡ ok m' p
      → (m'.nodes ≡ m.nodes + length (nodes_of (trace (node d x parent s m) f at))) × (m.nodes < m'.nodes)
  more-nodes d x parent s m at l e =
      let w = in_order f at (node-orders d x parent s m m.nodes 0 refl refl l) e in
      let c = counted m.nodes 0 (trace (node d x parent s m) f at) w.nodes w.items w.ordered in
      let a = w.ends.0 in
      (omega arith, w.ends.2)

  module _ (d : ℕ) (x : Context) (parent : ℕ) (s : Bounds) (step : (t : Made) (p : ℕ) → parent < t.nodes → Makes f (node d x parent s t) p (Under t.nodes)) where
    times-under : (n : ℕ) (m : Made) (at : ℕ) → parent < m.nodes → Makes f (times n (node d x parent s) m) at (Under m.nodes)
    unfolding times run trace rows_of
    times-under zero m at l = record { makes = λ e. tt }
    times-under (suc n) m at l = record {
      makes = λ e.
          let y = split (node d x parent s m) (times n (node d x parent s)) f at e in
          let c = more-nodes d x parent s m at (omega arith) y.first in
          let more = c.1 in
          rw (nodes-joined y) (under-on m.nodes y.a.nodes (nodes_of (trace (node d x parent s m) f at))
          (nodes_of (trace (times n (node d x parent s) y.a) f y.p)) c.0 ((step m at l).makes y.first)
          ((times-under n y.a y.p (omega arith)).makes y.second));
    }

  folder-under : (end k : ℕ) {children : P Made} {at : ℕ} → Makes f children at (Under k) → Makes f (folder end children) at (Under k)
  unfolding folder
  folder-under end k {children} {at} w = record {
    makes = λ e.
        let y = split children _ f at e in
        let rest : nodes_of (trace (ending end y.a) f y.p) ≡ [] = none _ (used f y.p (ending-uses end y.a)) in
        subst (Under k) (sym (nodes-joined y ∙ ap (λ v. nodes_of (trace children f at) ++ v) rest ∙ append-nil (nodes_of (trace children f at)))) (w.makes y.first);
  }

  front-hangs : (x : Context) (parent depth : ℕ) (s : Bounds) (m : Made) (at : ℕ) (g : Front → P Made)
      → ((w : Front) (q : ℕ) → w.made.nodes ≡ m.nodes → Makes f (g w) q (Under (m.nodes + 1)))
      → Makes f (front x parent depth s m >>= λ w. (skip (node_row w.row) (inline_size w.row) >> g w)) at (Hangs parent m.nodes)
  unfolding run trace rows_of ◌>>=◌ ◌>>◌ skip
  front-hangs x parent depth s m at g h = record {
    makes = λ e.
        let y = split (front x parent depth s m) (λ w. (skip (node_row w.row) (inline_size w.row) >> g w)) f at e in
        let i = in_order f at (front-orders x parent depth s m) y.first in
        rw (nodes-joined y, front-none f x parent depth s m at) (i.ends.3, (h y.a _ i.ends.1).makes y.second);
  }

  node-hangs : (d : ℕ) (x : Context) (parent : ℕ) (s : Bounds) (m : Made) (at : ℕ)
      → ((end : ℕ) (t : Made) (p : ℕ) → m.nodes < t.nodes → Makes f (node d x m.nodes (in_tree 0 end) t) p (Under t.nodes))
      → Makes f (node (suc d) x parent s m) at (Hangs parent m.nodes)
  unfolding node
  node-hangs d x parent s m at step =
      places _ at (checks _ _ _ (front-hangs x parent (16 - d) s m at _ λ w q e.
      let n : (plus_node w.made).nodes ≡ m.nodes + 1 = omega arith in
      let children : P Made = times w.row.contained (node d x m.nodes (in_tree 0 (at + w.row.size))) (plus_node w.made) in
      folder-under _ _ (subst (λ k. Makes f children q (Under k)) n
      (times-under d x m.nodes (in_tree 0 (at + w.row.size)) (step (at + w.row.size)) w.row.contained (plus_node w.made) q
      (omega arith)))))

  node-under : (d : ℕ) (x : Context) (parent : ℕ) (s : Bounds) (m : Made) (at : ℕ) → parent < m.nodes → Makes f (node d x parent s m) at (Under m.nodes)
  unfolding node run trace
  node-under zero x parent s m at l = record { makes = λ e. let z : ◌≡◌ {A = ℕ} 0 1 = cc in absurd (omega arith) }
  node-under (suc d) x parent s m at l = record {
    makes = λ e. hang_under parent m.nodes (nodes_of (trace (node (suc d) x parent s m) f at)) l
        ((node-hangs d x parent s m at (λ end t p. node-under d x m.nodes (in_tree 0 end) t p)).makes e);
  }

  -- the tree's rows
  tree-hangs : (x : Context) (end at : ℕ) → Makes f (tree x end) at (Hangs 0 0)
  unfolding tree
  tree-hangs x end at = node-hangs 15 x 0 (in_tree end end) (record { nodes = 0; items = 0 }) at (λ end t p. node-under 15 x 0 (in_tree 0 end) t p)

-- ---- the rows of an accepted file

-- row i is the tree's, and so is its parent, which is earlier unless row i is the root, row 0; or it is detached, and its own parent
abbrev pub Rooted : List Node → ℕ → Type 0
Rooted ns i =
    (((node_at ns i).detached ≡ 0) × ((node_at ns (node_at ns i).parent).detached ≡ 0) × (((i ≡ 0) × ((node_at ns i).parent ≡ 0)) ⊎ ((node_at ns i).parent < i)))
    ⊎ (((node_at ns i).detached ≡ 1) × ((node_at ns i).parent ≡ i))

abbrev AllRooted : Events → Type 0
AllRooted log = (i : ℕ) → i < length (nodes_of log) → Rooted (nodes_of log) i

hung : (ns : List Node) → Hangs 0 0 ns → (i : ℕ) → i < length ns → ((i ≡ 0) × ((node_at ns i).parent ≡ 0)) ⊎ ((node_at ns i).parent < i)
hung [] h i l = absurd h
hung (r ∷ ns) h zero l = inl (refl, h.0)
hung (r ∷ ns) h (suc i) l = let z = under_at 1 ns h.1 i (omega arith) in inr (omega arith)

-- a row in front of others
pub row-front : (ns ms : List Node) (i : ℕ) → i < length ns → node_at (ns ++ ms) i ≡ node_at ns i
row-front [] ms i l = absurd (omega arith)
row-front (r ∷ ns) ms zero l = refl
row-front (r ∷ ns) ms (suc i) l = row-front ns ms i (omega arith)

module _ (lim : Limits) (f : List ℕ) (h : Header) where
  tree-rooted : {m : Made} {p : ℕ} → h.extent.last < length f → run (tree_of lim (length f) h) f h.extent.start ≡ ok m p → AllRooted
      (trace (tree_of lim (length f) h) f h.extent.start)
  tree-rooted l e i j =
      let x = context lim h (length f) in
      let ns = nodes_of (trace (tree_of lim (length f) h) f h.extent.start) in
      let whole = tree-attached x (h.extent.last + 1) f h.extent.start (omega arith) e in
      let w = hung ns ((tree-hangs f x (h.extent.last + 1) h.extent.start).makes e) i j in
      inl (whole i j, whole (node_at ns i).parent (elim w [ inl z ↦ (let y = z.1 in omega arith) | inr z ↦ omega arith ]), w)

  -- a detached node that was read has one row
  one-row : {log : Events} {r : Node} {log' : Events} → h.extent.start ≤ length f → Reached lim f h log r log'
      → (log' ≡ log) ⊎ ((row : Node) × (nodes_of log' ≡ nodes_of log ++ (row ∷ [])) × (row.detached ≡ 1) × (row.parent ≡ length (nodes_of log)))
  unfolding detached_at
  one-row z (known x y) = inl y
  one-row {log} {r} {log'} z (added s y) =
      let w = detached-row f (context lim h (length f)) _ _ _ (made_by log) r.target (part-is h (length f) r.target z).0 s.runs in
      inr (w.row, ap nodes_of y ∙ rows_on node_of log _ ∙ ap (λ v. nodes_of log ++ v) (w.rows_are ∙ ap (λ v. w.row ∷ v) (w.alone refl)), w.detached-is, w.parent_is)

  more-rooted : (log log' : Events) (r : Node) → h.extent.start ≤ length f → AllRooted log → Reached lim f h log r log' → AllRooted log'
  more-rooted log log' r z all k = elim (one-row z k) [
    | inl e ↦ rw e all
    | inr (row, n, d, p) ↦ rw n (λ i l.
        let c = length-append (nodes_of log) (row ∷ []) in
        elim (dec_lt i (length (nodes_of log))) [
          | yes m ↦ still (nodes_of log) (row ∷ []) i m (all i m)
          | no m ↦ (let e : i ≡ length (nodes_of log) = omega arith in let s = get_or-append_seam (nodes_of log) row [] no_node in rw (e, s) (inr (d, p)))
        ])
  ]
    where
      still : (ns ms : List Node) (i : ℕ) → i < length ns → Rooted ns i → Rooted (ns ++ ms) i
      still ns ms i l (inl (a, b, c)) =
          let m : (node_at ns i).parent < length ns = elim c [ inl x ↦ (let y = x.1 in omega arith) | inr x ↦ omega arith ] in
          rw (row-front ns ms i l, row-front ns ms (node_at ns i).parent m) (inl (a, b, c))
      still ns ms i l (inr a) = rw (row-front ns ms i l) (inr a)

pub all-rooted : (lim : Limits) (f : List ℕ) {h : Header} {ns : List Node} {is : List Item} → read_file lim f ≡ rows h ns is → (i : ℕ) → i < length ns → Rooted ns i
all-rooted lim f {h} r =
    let a = read_back lim f r in let b = header_of_lem a in
    let t : AllRooted (trace (tree_of lim (length f) h) f h.extent.start) = tree-rooted lim f h b.3 a.tree_is in
    let w = followed lim f h (λ i. AllRooted) (λ i log log' o l. more-rooted lim f h log log' _ (omega arith) o) lim.nodes 0 _
    (λ log e. subst AllRooted (same e) t) a.follows in
    subst (λ v. (i : ℕ) → i < length v → Rooted v i) a.nodes-are w.1
  where
    same : {x y : Events} → good x ≡ good y → x ≡ y
    same e = cc
