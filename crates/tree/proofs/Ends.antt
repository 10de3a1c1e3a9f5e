-- Where nodes end: after they began, and not past their holder; the root where the tree does. So every row of a tree lies in it.
-- Assumes nothing.
use mathlib.Core.Path.{◌≡◌, refl}
use mathlib.Core.List.{List}
use Prim.Native.Nat.{ℕ, zero, suc, ◌+◌, ◌-◌, ◌≤◌, ◌<◌}
use native.Mathlib.Omega.{arith}
use borrow.Author.Tests.{leb-true}
use Rattle.machine.specs.Machine.{ok, run, trace, ◌>>◌, skip, times}
use Rattle.cursor.specs.Rows.{node_row, inline_size, P}
use Rattle.machine.proofs.Wp.{Wp, All, at_end, asked, given, wp_after, wp_weaken, wp_ret, wp_refuse, wp_here, wp_check, wp_place, wp_skip, wp_times}
use Rattle.metadata.specs.Tables.{plus_node}
use Rattle.metadata.specs.Metadata.{Context}
use Rattle.metadata.specs.declared.Made.{Made}
use Rattle.metadata.proofs.Ends.{OfNames, Nothing, Given, inside-free, Inside}
use Rattle.node.specs.Node.{in_tree, outside_tree}
use Rattle.node.specs.declared.Bounds.{Bounds}
use Rattle.node.specs.declared.Front.{Front}
use Rattle.node.proofs.Ends.{FrontIn, front-on, inline_at, inline_fits}
use Rattle.tree.specs.Tree.{folder, node, tree, detached}

module _ (N : OfNames) (top size : ℕ) where
  pub folder-fills : {children : P Made} {end at : ℕ} → Wp (Inside N top size) children (λ _ q. q ≤ end) at → Wp (Inside N top size) (folder end children) (λ _ q. q ≡ end) at
  unfolding folder
  folder-fills {end = end} w = wp_after w λ m q h. wp_place _ q (wp_check _ _ λ t. wp_ret (omega (arith, leb-true end q t)))

-- a node's row, and what it holds, which fills it
pub contained-fills : (N : OfNames) (top d : ℕ) (x : Context) (s : Bounds) (m : Made) (at : ℕ) (w : Front) (q : ℕ) → s.end.0 ≤ top → FrontIn x s m at w q
    → ((t : Made) (p : ℕ) → p ≤ at + w.row.size → Wp (Inside N top x.size) (node d x m.nodes (in_tree 0 (at + w.row.size)) t) (λ _ v. (p ≤ v) × (v ≤ at + w.row.size)) p)
    → Wp (Inside N top x.size) (skip (node_row w.row) (inline_size w.row) >> folder (at + w.row.size)
    (times w.row.contained (node d x m.nodes (in_tree 0 (at + w.row.size))) (plus_node w.made))) (λ _ v. v ≡ at + w.row.size) q
contained-fills N top d x s m at w q o y children =
    let a = y.within in let b = y.inside in let e = y.start in let c = inline_fits y in
    wp_skip _ _ (y.header, omega arith, y.leads, refl, inline_at y) (λ _.
    folder-fills N top x.size
    (wp_weaken (wp_times (λ _. Unit {0}) w.row.contained _ (λ t p l j. wp_weaken (children t p l) (λ _ v z. (tt, z.0, z.1))) tt (omega arith)) (λ _ v z. z.2)))

-- a node moves on, and ends in the part that holds it
pub node-on : (N : OfNames) (top d : ℕ) (x : Context) (parent : ℕ) (s : Bounds) (m : Made) (at : ℕ) → s.end.0 ≤ top → s.end.0 ≤ x.size
    → Wp (Inside N top x.size) (node d x parent s m) (λ _ q. (at < q) × (q ≤ s.end.0) × (s.least.0 ≤ q) × (q ≤ s.taken.0)) at
unfolding node
node-on N top zero x parent s m at o i = wp_here wp_refuse
node-on N top (suc d) x parent s m at o i =
    wp_place _ at (wp_check _ _ λ t₁.
    wp_after (front-on N top x parent (16 - d) s m at o i) λ w q y.
    let a = y.within in let b = y.inside in let c = y.least-is in let e = y.start in let g = y.moves in let j = y.taken_is in
    wp_weaken (contained-fills N top d x s m at w q o y
    (λ t p l. wp_weaken (node-on N top d x m.nodes (in_tree 0 (at + w.row.size)) t p (omega arith) (omega arith))
    (λ _ v z. (omega arith, z.1))))
    (λ _ v z. (omega arith, omega arith, omega arith, omega arith)))

-- every row of a tree lies in it, and its custom name was passed
pub tree-shows : (N : OfNames) (x : Context) (f : List ℕ) (at end : ℕ) → end ≤ x.size → All (Given N) (trace (tree x end) f at) → All
    (Inside N x.size x.size).asks (trace (tree x end) f at)
unfolding tree
tree-shows N x f at end i g = asked f (node-on N x.size 16 x 0 (in_tree end end) _ at i i) g

pub tree-inside : (x : Context) (f : List ℕ) (at end : ℕ) → end ≤ x.size → All (Inside Nothing x.size x.size).asks (trace (tree x end) f at)
tree-inside x f at end i = tree-shows Nothing x f at end i (given (Inside Nothing x.size x.size) (inside-free x.size x.size) (trace (tree x end) f at))

-- the same of a detached node
pub detached-shows : (N : OfNames) (x : Context) (f : List ℕ) (at end taken offset : ℕ) (m : Made) → end ≤ x.size → All (Given N) (trace (detached x end taken offset m) f at)
    → All (Inside N x.size x.size).asks (trace (detached x end taken offset m) f at)
unfolding detached
detached-shows N x f at end taken offset m i g = asked f (node-on N x.size 17 x m.nodes (outside_tree end taken offset) m at i i) g

pub detached-inside : (x : Context) (f : List ℕ) (at end taken offset : ℕ) (m : Made) → end ≤ x.size → All
    (Inside Nothing x.size x.size).asks (trace (detached x end taken offset m) f at)
detached-inside x f at end taken offset m i = detached-shows Nothing x f at end taken offset m i
    (given (Inside Nothing x.size x.size) (inside-free x.size x.size) (trace (detached x end taken offset m) f at))

pub detached-ends : (x : Context) (f : List ℕ) (at end taken offset : ℕ) (m : Made) → end ≤ x.size → {m' : Made} {q : ℕ} → run
    (detached x end taken offset m) f at ≡ ok m' q → (at < q) × (q ≤ end) × (q ≤ taken)
unfolding detached
detached-ends x f at end taken offset m i e = let w = at_end (inside-free x.size x.size) f
    (node-on Nothing x.size 17 x m.nodes (outside_tree end taken offset) m at i i) e in (w.0, w.1, w.3)

pub tree-ends : (x : Context) (f : List ℕ) (at end : ℕ) → end ≤ x.size → {m : Made} {q : ℕ} → run (tree x end) f at ≡ ok m q → q ≤ end
unfolding tree
tree-ends x f at end i e = (at_end (inside-free x.size x.size) f (node-on Nothing x.size 16 x 0 (in_tree end end) _ at i i) e).1
