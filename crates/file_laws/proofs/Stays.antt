-- A file is read in the file: each refusal of the reader is placed at one of its bytes, or at its end.
-- Assumes nothing.
use mathlib.Core.Path.{◌≡◌, refl}
use mathlib.Core.Bool.{Bool, true, false, cond}
use mathlib.Core.List.{List, []}
use Prim.Native.Nat.{ℕ, zero, suc, ◌+◌, ◌-◌, ◌≤◌, ◌<◌}
use native.Mathlib.Omega.{arith}
use lib.Dec.{ltb}
use lib.ListN.{length}
use borrow.Author.Tests.{ltb-true}
use Rattle.machine.specs.Machine.{Out, ok, refused, run, trace}
use Rattle.cursor.specs.Rows.{P, Events, reference_frame}
use Rattle.cursor.specs.Refusals.{cut_short}
use Rattle.cursor.specs.Leaves.{number}
use Rattle.cursor.specs.declared.Node.{Node}
use Rattle.cursor.proofs.Leaves.{any_free}
use Rattle.machine.proofs.Wp.{All, all-on, at_end}
use Rattle.cursor.proofs.Stays as stays
use Rattle.cursor.proofs.Stays.{Stays, refused-inside, anywhere, after-at, after, ends, stops, at_place, places, place_at, check-at, skip_at, checks, counts, number-stays}
use Rattle.header.specs.Header.{Header, header}
use Rattle.header.proofs.Ends.{header-on}
use Rattle.header.proofs.Stays.{header-stays}
use Rattle.metadata.specs.Metadata.{Context}
use Rattle.metadata.specs.declared.Limits.{Limits}
use Rattle.metadata.specs.declared.Made.{Made}
use Rattle.metadata.proofs.Ends.{Nothing, inside-free, Inside}
use Rattle.node.specs.Node.{in_tree, outside_tree}
use Rattle.node.specs.declared.Bounds.{Bounds}
use Rattle.node.proofs.Ends.{front-on, inline_fits}
use Rattle.node.proofs.Stays.{front-stays}
use Rattle.tree.specs.Tree.{folder, node, tree, detached}
use Rattle.rows.specs.Rows.{node_at, nodes_of}
use Rattle.file.specs.Reading.{Result, good, bad, refusal, logged, detached_at, follow_row, follow, reading, context, read_tree, read_file}
use Rattle.targets.specs.Targets.{place_of, is_missing, offset_at, outside}
use Rattle.tree.proofs.Ends.{tree-inside, detached-inside}
use Rattle.file.proofs.Follow.{target}
use Rattle.file.proofs.Shown.{outside-is, part-is}
use Rattle.file.proofs.Rows.{node_in}

-- ---- the tree

module _ {f : List ℕ} where
  folder-stays : (end : ℕ) {children : P Made} → Stays f children → Stays f (folder end children)
  unfolding folder
  folder-stays end w = after w λ m. places λ q l. checks _ _ l λ t. ends

  node_stays : (d : ℕ) (x : Context) (parent : ℕ) (s : Bounds) (m : Made) → s.end.0 ≤ x.size → s.end.0 ≤ length f → s.offset.0 ≤ length f → Stays f (node d x parent s m)
  unfolding node
  node_stays zero x parent s m i o k = at_place λ p l. (stops l).from p l
  node_stays (suc d) x parent s m i o k =
      anywhere λ at l. place_at _ at (check-at _ _ l λ t. after-at ((front-stays x parent (16 - d) s m o k).from at l) λ w q e j.
      let y = at_end (inside-free x.size x.size) f (front-on Nothing x.size x parent (16 - d) s m at i i) e in
      let a = y.within in let b = inline_fits y in
      skip_at _ _ (omega arith) (folder-stays _
      (counts w.row.contained _ (λ t. node_stays d x m.nodes (in_tree 0 (at + w.row.size)) t (omega arith) (omega arith) (omega arith)))))

  tree-stays : (x : Context) (end : ℕ) → end ≤ x.size → end ≤ length f → Stays f (tree x end)
  unfolding tree
  tree-stays x end i o = node_stays 16 x 0 (in_tree end end) (record { nodes = 0; items = 0 }) i o (omega arith)

  detached-stays : (x : Context) (end taken offset : ℕ) (m : Made) → end ≤ x.size → end ≤ length f → offset ≤ length f → Stays f (detached x end taken offset m)
  unfolding detached
  detached-stays x end taken offset m i o k = node_stays 17 x m.nodes (outside_tree end taken offset) m i o k

-- ---- rows that are followed, over a log whose rows lie in the file

module _ (f : List ℕ) where
  abbrev Shown : Events → Type 0
  Shown log = All (Inside Nothing (length f) (length f)).asks log

  row_inside : (log : Events) → Shown log → (i : ℕ) → i < length (nodes_of log) → let r = node_at (nodes_of log) i in r.start + r.header ≤ length f
  row_inside log a i l = let w = node_in log (length f) (length f) (omega arith) a i l in omega arith

  offset_inside : (r : Node) → r.start + r.header ≤ length f → offset_at f r ≤ length f
  unfolding offset_at
  offset_inside r l = by (run (number reference_frame cut_short (length f)) f (r.start + r.header)) ((number-stays _ _ (length f) (omega arith)).from _ l).inside
    where
      by : (o : Out ℕ) → stays.Inside (length f) o → place_of o ≤ length f
      by (ok v q) w = w
      by (refused n p) w = w

  -- a log of such rows, or a refusal in the file
  abbrev In : Result Events → Type 0
  In (good log) = Shown log
  In (bad n p) = p ≤ length f

  logged-in : (log es : Events) (o : Out Made) → Shown log → Shown es → stays.Inside (length f) o → In (logged log o es)
  unfolding logged
  logged-in log es (ok m p) a b w = all-on _ log es a b
  logged-in log es (refused n p) a b w = w

  module _ (lim : Limits) (h : Header) (o : h.extent.start ≤ length f) where
    reach_in : (log : Events) (r : Node) → Shown log → r.start + r.header ≤ length f → In (follow_row lim f h log r)
    unfolding follow_row detached_at
    reach_in log r a l = by (is_missing (nodes_of log) r) (outside h (length f) r.target) refl
      where
        m : P Made
        m = target lim f h log r

        by : (b c : Bool) → outside h (length f) r.target ≡ c → In
            (cond b (cond c (logged log (run m f r.target) (trace m f r.target)) (bad 16 (offset_at f r))) (good log))
        by true true e =
            let i = (part-is h (length f) r.target o).0 in
            logged-in log _ _ a (detached-inside (context lim h (length f)) f r.target _ _ _ _ i)
            ((detached-stays (context lim h (length f)) _ _ _ _ i i (offset_inside r l)).from r.target (let z = outside-is h (length f) r.target e in omega arith)).inside
        by true false e = offset_inside r l
        by false c e = a

    follow-in : (k i : ℕ) (x : Result Events) → In x → In (follow k lim f h i x)
    unfolding follow
    follow-in zero i x a = a
    follow-in (suc k) i (bad n p) a = a
    follow-in (suc k) i (good log) a = by (ltb i (length (nodes_of log))) refl (λ b. follow-in k (i + 1) (follow_row lim f h log (node_at (nodes_of log) i)) b)
      where
        r : Node
        r = node_at (nodes_of log) i

        by : (b : Bool) → ltb i (length (nodes_of log)) ≡ b → (In (follow_row lim f h log r) → In (follow k lim f h (i + 1) (follow_row lim f h log r))) → In
            (cond b (follow k lim f h (i + 1) (follow_row lim f h log r)) (good log))
        by true e rest = rest (reach_in log r a (row_inside log a i (ltb-true _ _ e)))
        by false e rest = a

-- ---- the file

module _ (lim : Limits) (f : List ℕ) {n p : ℕ} where
  of_log : (h : Header) (o : Result Events) → In f o → reading h o ≡ refusal n p → p ≤ length f
  unfolding reading
  of_log h (good log) a e = let z : ◌≡◌ {A = ℕ} 0 1 = cc in absurd (omega arith)
  of_log h (bad m q) a e = let y : q ≡ p = cc in omega arith

  of_header_lem : (o : Out Header) → run (header (length f)) f 0 ≡ o → read_tree lim f o ≡ refusal n p → p ≤ length f
  unfolding read_tree
  of_header_lem (ok h q) e z =
      let w = at_end any_free f (header-on (length f)) e in let x = context lim h (length f) in
      let i : h.extent.last + 1 ≤ length f = omega arith in
      of_log h _ (follow-in f lim h (omega arith) lim.nodes 0 _
      (logged-in f [] _ _ tt (tree-inside x f h.extent.start _ i) ((tree-stays x _ i i).from h.extent.start (omega arith)).inside)) z
  of_header_lem (refused m q) e z = let y : q ≡ p = cc in let l : 0 ≤ length f = omega arith in let k = refused-inside {f = f} (header-stays.from 0 l) e in omega arith

pub refusal-inside : (lim : Limits) (f : List ℕ) {n p : ℕ} → read_file lim f ≡ refusal n p → p ≤ length f
unfolding read_file
refusal-inside lim f e = of_header_lem lim f (run (header (length f)) f 0) refl e
