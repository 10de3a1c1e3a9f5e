-- Node rows stand in the order of their starts: where a node begins, each row made so far is of a node that began before.
-- Assumes nothing.
use mathlib.Core.Path.{◌≡◌, refl, ap, ◌∙◌}
use mathlib.Core.Bool.{Bool, true, false}
use mathlib.Core.Logic.{inl, inr}
use mathlib.Core.List.{List, [], ◌∷◌, ◌++◌}
use Prim.Native.Nat.{ℕ, zero, suc, ◌+◌, ◌-◌, ◌≤◌, ◌<◌}
use native.Mathlib.Omega.{arith}
use lib.ListN.{length}
use Rattle.machine.specs.Machine.{ok, seen, passed, run, trace, rows_of, ◌>>=◌, ◌>>◌, place, skip, check, times}
use Rattle.cursor.specs.Rows.{Part, node_row, item_row, plain, inline_size, P, Events}
use Rattle.cursor.specs.declared.Node.{Node}
use Rattle.machine.proofs.Laws.{rows_on, Split, split}
use Rattle.machine.proofs.Stable.{ends, at_least}
use Rattle.machine.proofs.Wp.{Wp, at_end, wp_weaken}
use Rattle.cursor.proofs.Order.{Ordered, in_order}
use Rattle.cursor.proofs.Uses.{Uses, Only, used, passing}
use Rattle.cursor.proofs.Uses as uses
use Rattle.metadata.specs.Metadata.{Context}
use Rattle.metadata.specs.declared.Made.{Made}
use Rattle.metadata.proofs.Ends.{Nothing, Inside, inside-free}
use Rattle.tree.proofs.Ends.{contained-fills, node-on}
use Rattle.node.specs.Node.{in_tree, outside_tree, front}
use Rattle.node.specs.declared.Bounds.{Bounds}
use Rattle.node.specs.declared.Front.{Front}
use Rattle.node.proofs.Ends.{FrontIn, front-on}
use Rattle.node.proofs.Order.{front-orders}
use Rattle.node.proofs.Uses.{front-uses}
use Rattle.tree.specs.Tree.{folder, node, tree, detached}
use Rattle.rows.specs.Rows.{node_of, nodes_of, node_at, Rising}

-- ---- rows that rise

-- the starts are from `low` on, each before the next, and before `high`; the thirteenth word is d at most
data Rise (d : ℕ) : ℕ → List Node → ℕ → Type 0 where
  done : {low high : ℕ} → low ≤ high → Rise d low [] high
  more : {low high : ℕ} {r : Node} {ns : List Node} → low ≤ r.start → r.detached ≤ d → Rise d (r.start + 1) ns high → Rise d low (r ∷ ns) high

rise_sooner : {d low low' high : ℕ} {ns : List Node} → low' ≤ low → Rise d low ns high → Rise d low' ns high
rise_sooner {low' = low'} {high} l (done a) = let b : low' ≤ high = omega arith in done b
rise_sooner {low' = low'} l (more {r = r} a x h) = let b : low' ≤ r.start = omega arith in more b x h

rise_on : {d low middle high : ℕ} {ns ms : List Node} → Rise d low ns middle → Rise d middle ms high → Rise d low (ns ++ ms) high
rise_on (done a) k = rise_sooner a k
rise_on (more a x h) k = more a x (rise_on h k)

from_low : {d low high : ℕ} {ns : List Node} → Rise d low ns high → (j : ℕ) → j < length ns → low ≤ (node_at ns j).start
from_low (done a) j l = absurd (omega arith)
from_low (more a x h) zero l = a
from_low (more a x h) (suc j) l = let b = from_low h j (omega arith) in omega arith

rising : {d low high : ℕ} {ns : List Node} → Rise d low ns high → Rising ns
rising (done a) i j l m = absurd (omega arith)
rising (more a x h) i zero l m = absurd (omega arith)
rising (more a x h) zero (suc j) l m = let b = from_low h j (omega arith) in omega arith
rising (more a x h) (suc i) (suc j) l m = rising h i j (omega arith) (omega arith)

-- ---- an accepted run, part by part

pub nodes-joined : {A B : Type 0} {m : P A} {g : A → P B} {f : List ℕ} {at : ℕ} {b : B} {q : ℕ} (y : Split m g f at b q) → nodes_of
    (trace (m >>= g) f at) ≡ nodes_of (trace m f at) ++ nodes_of (trace (g y.a) f y.p)
nodes-joined {m = m} {g} {f} {at} y = ap nodes_of y.joined ∙ rows_on node_of (trace m f at) (trace (g y.a) f y.p)

-- each accepted run of m from `at` makes rows that rise, from `at` on and before where it ends
record Rises {A : Type 0} (d : ℕ) (f : List ℕ) (m : P A) (at : ℕ) : Type 0 where
  rises : {a : A} {p : ℕ} → run m f at ≡ ok a p → Rise d at (nodes_of (trace m f at)) p

-- ---- a run that makes no node row

pub counted : (k c : ℕ) (es : Events) (k' c' : ℕ) → Ordered k c es k' c' → k + length (nodes_of es) ≡ k'
unfolding rows_of
counted k c [] k' c' o = omega arith
counted k c (seen κ p ∷ es) k' c' o = counted k c es k' c' o
counted k c (passed (node_row r) p n ∷ es) k' c' o = let e = counted (k + 1) 0 es k' c' o.2 in omega arith
counted k c (passed (item_row r) p n ∷ es) k' c' o = counted k (c + 1) es k' c' o.1
counted k c (passed (plain x) p n ∷ es) k' c' o = counted k c es k' c' o

-- what makes no node row
abbrev pub NoNode : Part → Type 0
NoNode (node_row r) = ⊥
NoNode (item_row r) = Unit {0}
NoNode (plain x) = Unit {0}

pub none : (es : Events) → Only (passing NoNode) es → nodes_of es ≡ []
unfolding rows_of
none [] o = refl
none (seen κ p ∷ es) o = none es o.1
none (passed (node_row r) p n ∷ es) o = absurd o.0
none (passed (item_row r) p n ∷ es) o = none es o.1
none (passed (plain x) p n ∷ es) o = none es o.1

pub front-none : (f : List ℕ) (x : Context) (parent depth : ℕ) (s : Bounds) (m : Made) (at : ℕ) → nodes_of (trace (front x parent depth s m) f at) ≡ []
front-none f x parent depth s m at = none _ (used f at (front-uses {S = passing NoNode} (λ κ. tt) (λ v. tt) (λ i. tt) x parent depth s m))

-- ---- the rules

module _ (b : ℕ) (f : List ℕ) where
  after : {A B : Type 0} {m : P A} {g : A → P B} {at : ℕ} → Rises b f m at → ((a : A) (p : ℕ) → Rises b f (g a) p) → Rises b f (m >>= g) at
  after {m = m} {g} {at} w h = record { rises = λ e. let x = split m g f at e in rw (nodes-joined x) (rise_on (w.rises x.first) ((h x.a x.p).rises x.second)) }

  rowless : {A : Type 0} (m : P A) (at : ℕ) → Uses (passing NoNode) m → Rises b f m at
  rowless m at u = record { rises = λ {a} {p} e. let z = ends m f at e in let l = at_least (trace m f at) at in let c : at ≤ p = omega arith in rw (none _ (used f at u)) (done c) }

  places : {A : Type 0} (g : ℕ → P A) (at : ℕ) → Rises b f (g at) at → Rises b f (place >>= g) at
  unfolding run trace ◌>>=◌ place
  places g at h = record { rises = h.rises }

  checks : (c : Bool) (n p : ℕ) {A : Type 0} {m : P A} {at : ℕ} → Rises b f m at → Rises b f (check c n p >> m) at
  unfolding run trace ◌>>=◌ ◌>>◌ check
  checks true n p h = h
  checks false n p h = record { rises = λ e. let z : ◌≡◌ {A = ℕ} 0 1 = cc in absurd (omega arith) }

  times-rise : {A : Type 0} (n : ℕ) {body : A → P A} (s : A) (at : ℕ) → ((s : A) (p : ℕ) → Rises b f (body s) p) → Rises b f (times n body s) at
  unfolding times
  times-rise zero s at step = rowless _ at uses.ends
  times-rise (suc n) s at step = after (step s at) λ r p. times-rise n r p step

  -- ---- the tree

  folder-rises : (end : ℕ) {children : P Made} {at : ℕ} → Rises b f children at → Rises b f (folder end children) at
  unfolding folder
  folder-rises end w = after w λ m p. rowless _ p (uses.places λ q. uses.checks _ _ _ tt uses.ends)

  -- a node's row, and then the rows of what it holds
  front-then : (x : Context) (parent depth : ℕ) (s : Bounds) (m : Made) (at : ℕ) → s.end.0 ≤ x.size → s.detached ≤ b →
      {g : Front → P Made} → ((w : Front) (q : ℕ) → FrontIn x s m at w q → Rises b f (g w) (q + inline_size w.row))
      → Rises b f (front x parent depth s m >>= λ w. (skip (node_row w.row) (inline_size w.row) >> g w)) at
  unfolding run trace rows_of ◌>>=◌ ◌>>◌ skip
  front-then x parent depth s m at l v {g} h = record {
    rises = λ e.
        let y = split (front x parent depth s m) (λ w. (skip (node_row w.row) (inline_size w.row) >> g w)) f at e in
        let i = at_end (inside-free s.end.0 x.size) f (front-on Nothing s.end.0 x parent depth s m at (omega arith) l) y.first in
        let z = i.start in let n = i.moves in let c : at ≤ y.a.row.start = omega arith in let j = i.detached-is in
        let k : y.a.row.detached ≤ b = omega arith in
        rw (nodes-joined y, front-none f x parent depth s m at) (more c k (rise_sooner (omega arith) ((h y.a y.p i).rises y.second)));
  }

  node-rises : (d : ℕ) (x : Context) (parent : ℕ) (s : Bounds) (m : Made) (at : ℕ) → s.end.0 ≤ x.size → s.detached ≤ b → Rises b f (node d x parent s m) at
  unfolding node
  node-rises zero x parent s m at l v = rowless _ at (uses.at_place λ p. uses.stops tt)
  node-rises (suc d) x parent s m at l v =
      places _ at (checks _ _ _ (front-then x parent (16 - d) s m at l v λ w q i.
      let a = i.within in
      folder-rises _ (times-rise w.row.contained _ (q + inline_size w.row) λ t p. node-rises d x m.nodes (in_tree 0 (at + w.row.size)) t p (omega arith) (omega arith))))

-- the rows of a tree that was read
pub tree-rises : (x : Context) (end : ℕ) (f : List ℕ) (at : ℕ) → end ≤ x.size → {m : Made} {p : ℕ} → run (tree x end) f at ≡ ok m p → Rising (nodes_of (trace (tree x end) f at))
unfolding tree
tree-rises x end f at l e = rising ((node-rises 0 f 16 x 0 (in_tree end end) _ at l (omega arith)).rises e)

-- ---- the row of a node that was read

-- the first row is the node's own: it starts where the run did, and ends where the run did; a detached node has no other
pub record OwnRow (s : Bounds) (parent at q : ℕ) (ns : List Node) : Type 0 where
  pub row : Node
  pub others : List Node
  pub rows_are : ns ≡ row ∷ others
  pub parent_is : row.parent ≡ parent
  pub alone : s.detached ≡ 1 → others ≡ []
  pub start : row.start ≡ at
  pub stop : row.start + row.size ≡ q
  pub detached-is : row.detached ≡ s.detached

record Owns {A : Type 0} (f : List ℕ) (s : Bounds) (parent start : ℕ) (m : P A) (at : ℕ) : Type 0 where
  owns : {a : A} {q : ℕ} → run m f at ≡ ok a q → OwnRow s parent start q (nodes_of (trace m f at))

module _ (f : List ℕ) (s : Bounds) (parent start : ℕ) where
  own-place : {A : Type 0} (g : ℕ → P A) (at : ℕ) → Owns f s parent start (g at) at → Owns f s parent start (place >>= g) at
  unfolding run trace ◌>>=◌ place
  own-place g at h = record { owns = h.owns }

  own-check : (b : Bool) (n p : ℕ) {A : Type 0} {m : P A} {at : ℕ} → Owns f s parent start m at → Owns f s parent start (check b n p >> m) at
  unfolding run trace ◌>>=◌ ◌>>◌ check
  own-check true n p h = h
  own-check false n p h = record { owns = λ e. let z : ◌≡◌ {A = ℕ} 0 1 = cc in absurd (omega arith) }

own-front : (f : List ℕ) (x : Context) (parent depth : ℕ) (s : Bounds) (m : Made) (at : ℕ) → s.end.0 ≤ x.size → (g : Front → P Made)
    → ((w : Front) (q : ℕ) → FrontIn x s m at w q → Wp (Inside Nothing s.end.0 x.size)
    (skip (node_row w.row) (inline_size w.row) >> g w) (λ _ v. v ≡ at + w.row.size) q)
    → ((w : Front) (q : ℕ) → w.row.contained ≡ 0 → nodes_of (trace (g w) f q) ≡ [])
    → Owns f s parent at (front x parent depth s m >>= λ w. (skip (node_row w.row) (inline_size w.row) >> g w)) at
unfolding run trace rows_of ◌>>=◌ ◌>>◌ skip
own-front f x parent depth s m at l g h only = record {
  owns = λ e.
      let y = split (front x parent depth s m) (λ w. (skip (node_row w.row) (inline_size w.row) >> g w)) f at e in
      let i = at_end (inside-free s.end.0 x.size) f (front-on Nothing s.end.0 x parent depth s m at (omega arith) l) y.first in
      let v = at_end (inside-free s.end.0 x.size) f (h y.a y.p i) y.second in
      let z = i.start in
      record {
        row = y.a.row;
        others = nodes_of (trace (g y.a) f (y.p + inline_size y.a.row));
        rows_are = nodes-joined y ∙ ap (λ v. v ++ (y.a.row ∷ nodes_of (trace (g y.a) f (y.p + inline_size y.a.row)))) (front-none f x parent depth s m at);
        parent_is = (in_order f at (front-orders x parent depth s m) y.first).ends.3;
        alone = λ e. elim i.folder [ inl n ↦ only y.a _ n | inr n ↦ absurd (omega arith) ];
        start = z;
        stop = omega arith;
        detached-is = i.detached-is;
      };
}

no-children : (f : List ℕ) (n : ℕ) → n ≡ 0 → (end : ℕ) (body : Made → P Made) (m : Made) (at : ℕ) → nodes_of (trace (folder end (times n body m)) f at) ≡ []
unfolding folder times ◌>>=◌
no-children f zero e end body m at = none _ (used {S = passing NoNode} f at (uses.places λ q. uses.checks _ _ _ tt uses.ends))
no-children f (suc n) e end body m at = absurd (omega arith)

own_row : (f : List ℕ) (d : ℕ) (x : Context) (parent : ℕ) (s : Bounds) (m : Made) (at : ℕ) → s.end.0 ≤ x.size → Owns f s parent at (node (suc d) x parent s m) at
unfolding node
own_row f d x parent s m at l =
    own-place f s parent at _ at (own-check f s parent at _ _ _ (own-front f x parent (16 - d) s m at l _ (λ w q i.
    let a = i.within in
    contained-fills Nothing s.end.0 d x s m at w q (omega arith) i
    (λ t p j. wp_weaken (node-on Nothing s.end.0 d x m.nodes (in_tree 0 (at + w.row.size)) t p (omega arith) (omega arith)) (λ _ v z. (omega arith, z.1))))
    (λ w q e. no-children f w.row.contained e _ _ _ q)))

-- a detached node's row
pub detached-row : (f : List ℕ) (x : Context) (end taken offset : ℕ) (m : Made) (at : ℕ) → end ≤ x.size → {m' : Made} {q : ℕ} → run (detached x end taken offset m) f at ≡ ok m' q
    → OwnRow (outside_tree end taken offset) m.nodes at q (nodes_of (trace (detached x end taken offset m) f at))
unfolding detached
detached-row f x end taken offset m at l e = (own_row f 16 x m.nodes (outside_tree end taken offset) m at l).owns e

-- all rows start at `at` or later
abbrev pub From : ℕ → List Node → Type 0
From at [] = Unit {0}
From at (r ∷ ns) = (at ≤ r.start) × From at ns

rise_from : {d low high : ℕ} {ns : List Node} (at : ℕ) → at ≤ low → Rise d low ns high → From at ns
rise_from at l (done a) = tt
rise_from at l (more a x h) = (omega arith, rise_from at (omega arith) h)

pub detached-from : (f : List ℕ) (x : Context) (end taken offset : ℕ) (m : Made) (at : ℕ) → end ≤ x.size → {m' : Made} {q : ℕ} → run (detached x end taken offset m) f at ≡ ok m' q
    → From at (nodes_of (trace (detached x end taken offset m) f at))
unfolding detached
detached-from f x end taken offset m at l e = rise_from at (omega arith) ((node-rises 1 f 17 x m.nodes (outside_tree end taken offset) m at l (omega arith)).rises e)

pub tree-from : (f : List ℕ) (x : Context) (end at : ℕ) → end ≤ x.size → {m : Made} {q : ℕ} → run (tree x end) f at ≡ ok m q → From at (nodes_of (trace (tree x end) f at))
unfolding tree
tree-from f x end at l e = rise_from at (omega arith) ((node-rises 0 f 16 x 0 (in_tree end end) _ at l (omega arith)).rises e)

-- no row of the tree is detached
rise_word : {d low high : ℕ} {ns : List Node} → Rise d low ns high → (i : ℕ) → i < length ns → (node_at ns i).detached ≤ d
rise_word (done a) i l = absurd (omega arith)
rise_word (more a x h) zero l = x
rise_word (more a x h) (suc i) l = rise_word h i (omega arith)

pub tree-attached : (x : Context) (end : ℕ) (f : List ℕ) (at : ℕ) → end ≤ x.size → {m : Made} {p : ℕ} → run (tree x end) f at ≡ ok m p →
    (i : ℕ) → i < length (nodes_of (trace (tree x end) f at))
    → (node_at (nodes_of (trace (tree x end) f at)) i).detached ≡ 0
unfolding tree
tree-attached x end f at l e i m = let w = rise_word ((node-rises 0 f 16 x 0 (in_tree end end) _ at l (omega arith)).rises e) i m in omega arith
