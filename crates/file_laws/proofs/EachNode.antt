-- What holds of each node's own events, those of its front and its row, and of events one after the other, holds of all that tree and detached nodes read.
-- Assumes nothing.
use mathlib.Core.Path.{◌≡◌, refl, sym, ap, ◌∙◌, subst}
use mathlib.Core.Bool.{Bool}
use mathlib.Core.List.{List, [], ◌∷◌, ◌++◌, append_assoc}
use Prim.Native.Nat.{ℕ, zero, suc, ◌+◌, ◌-◌}
use native.Mathlib.Omega.{arith}
use lib.ListN.{length}
use Rattle.machine.specs.Machine.{ret, refuse, here, ok, passed, run, trace, rows_of, ◌>>=◌, ◌>>◌, place, skip, check, times}
use Rattle.cursor.specs.Rows.{Frame, Part, node_row, inline_size, P, Events}
use Rattle.cursor.specs.declared.Node.{Node}
use Rattle.cursor.specs.declared.Item.{Item}
use Rattle.machine.proofs.Laws.{rows_on, split}
use Rattle.cursor.proofs.Apart.{at_place, at_check}
use Rattle.cursor.proofs.Order.{in_order}
use Rattle.header.specs.Header.{Header}
use Rattle.metadata.specs.Metadata.{Context}
use Rattle.metadata.specs.Tables.{plus_node}
use Rattle.metadata.specs.declared.Limits.{Limits}
use Rattle.metadata.specs.declared.Made.{Made}
use Rattle.node.specs.Node.{in_tree, front}
use Rattle.node.specs.declared.Bounds.{Bounds}
use Rattle.node.specs.declared.Front.{Front}
use Rattle.node.proofs.Order.{front-orders}
use Rattle.tree.specs.Tree.{folder, node, tree, detached}
use Rattle.rows.specs.Rows.{node_of, nodes_of}
use Rattle.file.specs.Reading.{good, detached_at}
use Rattle.tree.proofs.Starts.{counted}
use Rattle.file.proofs.Follow.{tree_of, Reached, known, added, followed, ReadAs}

none : (ns : List Node) → length ns ≡ 0 → ns ≡ []
none [] e = refl
none (r ∷ ns) e = absurd (omega arith)

-- a front makes no node row
front-rowless : (x : Context) (parent depth : ℕ) (s : Bounds) (m : Made) (f : List ℕ) (at : ℕ) {w : Front} {q : ℕ} → run (front x parent depth s m) f at ≡ ok w q
    → nodes_of (trace (front x parent depth s m) f at) ≡ []
front-rowless x parent depth s m f at e =
    let es = trace (front x parent depth s m) f at in
    let w = in_order f at (front-orders x parent depth s m) e in
    let c = counted m.nodes 0 es w.nodes w.items w.ordered in
    let d = w.ends.0 in
    none (nodes_of es) (omega arith)

too_deep_lem : {X : Type 0} (f : List ℕ) (at : ℕ) {a : Made} {q : ℕ} → run {K = Frame} {W = Part} (here λ p. refuse 9 p) f at ≡ ok a q → X
unfolding run
too_deep_lem f at e = let z : ◌≡◌ {A = ℕ} 0 1 = cc in absurd (omega arith)

-- the front of a node, and its row
abbrev pub own_events : Context → (parent depth : ℕ) → Bounds → Made → List ℕ → (at : ℕ) → Node → (q : ℕ) → Events
own_events x parent depth s m f at r q = trace (front x parent depth s m) f at ++ (passed (node_row r) q (inline_size r) ∷ [])

-- ---- what holds of each node's own events, and of events one after the other, holds of the whole log

module _ (I : Events → Type 0) (nil : I []) (join : (es fs : Events) → I es → I fs → I (es ++ fs)) (f : List ℕ) where
  record Adds {A : Type 0} (m : P A) (at : ℕ) : Type 0 where
    adds : {a : A} {q : ℕ} → run m f at ≡ ok a q → I (trace m f at)

  after : {A B : Type 0} {m : P A} {g : A → P B} {at : ℕ} → Adds m at → ((a : A) (p : ℕ) → Adds (g a) p) → Adds (m >>= g) at
  after {m = m} {g} {at} w h = record {
    adds = λ e. let x = split m g f at e in subst I (sym x.joined)
        (join (trace m f at) _ (w.adds x.first) ((h x.a x.p).adds x.second));
  }

  ends : {A : Type 0} (a : A) (at : ℕ) → Adds (ret a) at
  unfolding trace
  ends a at = record { adds = λ e. nil }

  places : {A : Type 0} (g : ℕ → P A) (at : ℕ) → Adds (g at) at → Adds (place >>= g) at
  places g at h = record { adds = λ e. let x = at_place f at g e in subst I (sym x.1) (h.adds x.0) }

  checks : {A : Type 0} (b : Bool) (n p : ℕ) (m : P A) (at : ℕ) → Adds m at → Adds (check b n p >> m) at
  checks b n p m at h = record { adds = λ e. let x = at_check f at b n p m e in subst I (sym x.2) (h.adds x.1) }

  times-add : {A : Type 0} (n : ℕ) {body : A → P A} (s : A) (at : ℕ) → ((s : A) (p : ℕ) → Adds (body s) p) → Adds (times n body s) at
  unfolding times
  times-add zero s at step = ends s at
  times-add (suc n) s at step = after (step s at) λ r p. times-add n r p step

  folder-adds : (end : ℕ) {children : P Made} {at : ℕ} → Adds children at → Adds (folder end children) at
  unfolding folder
  folder-adds end w = after w λ m p. places _ p (checks _ _ _ _ p (ends m p))

  -- it holds of a node's own events, where what follows was accepted
  abbrev pub OfRow : Type 0
  OfRow = (x : Context) (parent depth : ℕ) (s : Bounds) (m : Made) (at : ℕ) (w : Front) (q : ℕ) → run (front x parent depth s m) f at ≡ ok w q
      → (body : Made → P Made) (b : Made) (v : ℕ) → run (folder (at + w.row.size) (times w.row.contained body (plus_node w.made))) f (q + inline_size w.row) ≡ ok b v
      → I (own_events x parent depth s m f at w.row q)

  module _ (own : OfRow) where
    front-then : (x : Context) (parent depth : ℕ) (s : Bounds) (m : Made) (at : ℕ) (body : Front → Made → P Made) →
        ((w : Front) (q : ℕ) → Adds (folder (at + w.row.size) (times w.row.contained (body w) (plus_node w.made))) q)
        → Adds (front x parent depth s m >>= λ w.
        (skip (node_row w.row) (inline_size w.row) >> folder (at + w.row.size) (times w.row.contained (body w) (plus_node w.made)))) at
    unfolding run trace ◌>>=◌ ◌>>◌ skip
    front-then x parent depth s m at body h = record {
      adds = λ e.
          let g : Front → P Made = λ w. folder (at + w.row.size) (times w.row.contained (body w) (plus_node w.made)) in
          let y = split (front x parent depth s m) (λ w. (skip (node_row w.row) (inline_size w.row) >> g w)) f at e in
          let o = own x parent depth s m at y.a y.p y.first (body y.a) _ _ y.second in
          let rest = trace (g y.a) f (y.p + inline_size y.a.row) in
          subst I (sym (y.joined ∙ sym (append_assoc (trace (front x parent depth s m) f at) (passed (node_row y.a.row) y.p (inline_size y.a.row) ∷ []) rest)))
          (join (own_events x parent depth s m f at y.a.row y.p) rest o ((h y.a (y.p + inline_size y.a.row)).adds y.second));
    }

    node-adds : (d : ℕ) (x : Context) (parent : ℕ) (s : Bounds) (m : Made) (at : ℕ) → Adds (node d x parent s m) at
    unfolding node
    node-adds zero x parent s m at = record { adds = λ e. too_deep_lem f at e }
    node-adds (suc d) x parent s m at =
        places _ at (checks _ _ _ _ at (front-then x parent (16 - d) s m at (λ w. node d x m.nodes (in_tree 0 (at + w.row.size))) λ w q.
        folder-adds _ (times-add w.row.contained _ q λ u p. node-adds d x m.nodes (in_tree 0 (at + w.row.size)) u p)))

    -- the log of tree and detached nodes
    module _ (lim : Limits) (h : Header) where
      one_more_lem : (log log' : Events) (r : Node) → I log → Reached lim f h log r log' → I log'
      unfolding detached_at detached
      one_more_lem log log' r s (known x y) = subst I (sym y) s
      one_more_lem log log' r s (added u y) = subst I (sym y) (join log _ s ((node-adds 17 _ _ _ _ r.target).adds u.runs))

      pub by_nodes : {ns : List Node} {is : List Item} (a : ReadAs lim f h ns is) → I a.log
      unfolding tree
      by_nodes a =
          let s : I (trace (tree_of lim (length f) h) f h.extent.start) = (node-adds 16 _ 0 _ _ h.extent.start).adds a.tree_is in
          (followed lim f h (λ i. I) (λ i log log' u l. one_more_lem log log' _ u) lim.nodes 0 _ (λ log e. subst I (same e) s) a.follows).1
        where
          same : {x y : Events} → good x ≡ good y → x ≡ y
          same e = cc

-- a node's own events have its row alone
pub own_row : (x : Context) (parent depth : ℕ) (s : Bounds) (m : Made) (f : List ℕ) (at : ℕ) {w : Front} {q : ℕ} → run (front x parent depth s m) f at ≡ ok w q
    → nodes_of (own_events x parent depth s m f at w.row q) ≡ w.row ∷ []
unfolding rows_of
own_row x parent depth s m f at {w} {q} e =
    rows_on node_of (trace (front x parent depth s m) f at) (passed (node_row w.row) q (inline_size w.row) ∷ []) ∙ ap
    (λ v. v ++ (w.row ∷ [])) (front-rowless x parent depth s m f at e)
