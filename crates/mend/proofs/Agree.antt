-- What follows the header is read from the bytes behind the header alone: two files that agree there read alike under one header, refused or not.
-- Assumes nothing.
use mathlib.Core.Path.{◌≡◌, refl, ap, ap₂, ◌∙◌, subst}
use mathlib.Core.Bool.{Bool, true, false, cond}
use mathlib.Core.List.{List, [], ◌∷◌, ◌++◌}
use Prim.Native.Nat.{ℕ, zero, suc, ◌+◌, ◌≤◌, ◌<◌}
use native.Mathlib.Omega.{arith}
use lib.Dec.{ltb}
use lib.ListN.{length, get_or}
use borrow.Author.Tests.{ltb-true}
use Rattle.machine.specs.Machine.{Prog, ret, refuse, here, byte, pass, Out, ok, refused, seen, passed, run, trace}
use Rattle.cursor.specs.Rows.{P, Events, reference_frame}
use Rattle.cursor.specs.Leaves.{number}
use Rattle.cursor.specs.declared.Node.{Node}
use Rattle.machine.proofs.Laws.{rows_on}
use Rattle.header.specs.Header.{Header}
use Rattle.metadata.specs.declared.Limits.{Limits}
use Rattle.metadata.specs.declared.Made.{Made}
use Rattle.rows.specs.Rows.{node_at, node_of, nodes_of}
use Rattle.file.specs.Reading.{Result, good, bad, logged, detached_at, follow_row, follow, context, reading, read_tree}
use Rattle.targets.specs.Targets.{place_of, is_missing, offset_at, outside}
use Rattle.tree.proofs.Starts.{From, tree-from, detached-from}
use Rattle.file.proofs.Shown.{outside-is, part-is}
use Rattle.file.proofs.Follow.{tree_of, target, Reached, known, added, reached}

-- a program reads nothing before the place where it begins
pub forward : {K W A : Type 0} (m : Prog K W A) (f g : List ℕ) (at : ℕ) → ((k : ℕ) → at ≤ k → get_or f k 0 ≡ get_or g k 0) → (run m f at ≡ run m g at) × (trace m f at ≡ trace m g at)
unfolding run trace
forward (ret a) f g at h = (refl, refl)
forward (refuse n p) f g at h = (refl, refl)
forward (here k) f g at h = forward (k at) f g at h
forward (byte κ k) f g at h =
    let (r, t) = forward (k (get_or f at 0)) f g (at + 1) (λ j l. h j (omega arith)) in
    rw (← h at (omega arith)) (r, ap (λ es. seen κ at ∷ es) t)
forward (pass w n m) f g at h = let (r, t) = forward m f g (at + n) (λ j l. h j (omega arith)) in (r, ap (λ es. passed w at n ∷ es) t)

from_at : (at : ℕ) (ns : List Node) → From at ns → (i : ℕ) → i < length ns → at ≤ (node_at ns i).start
from_at at [] a i l = absurd (omega arith)
from_at at (r ∷ ns) a zero l = a.0
from_at at (r ∷ ns) a (suc i) l = from_at at ns a.1 i (omega arith)

from_on : (at : ℕ) (ns ms : List Node) → From at ns → From at ms → From at (ns ++ ms)
from_on at [] ms a b = b
from_on at (r ∷ ns) ms a b = (a.0, from_on at ns ms a.1 b)

from_less : (low at : ℕ) (ns : List Node) → low ≤ at → From at ns → From low ns
from_less low at [] l a = tt
from_less low at (r ∷ ns) l a = (let b = a.0 in omega arith, from_less low at ns l a.1)

module _ (lim : Limits) (f g : List ℕ) (long : length f ≡ length g) (h : Header) (after : h.extent.end ≤ h.extent.start)
    (ordered : h.extent.start ≤ h.extent.last) (inside : h.extent.last < length f)
    (same : (k : ℕ) → h.extent.end ≤ k → get_or f k 0 ≡ get_or g k 0) where
  offset_same : (r : Node) → h.extent.end ≤ r.start → offset_at f r ≡ offset_at g r
  unfolding offset_at
  offset_same r l = rw (← long) (ap place_of (forward (number reference_frame 3 (length f)) f g (r.start + r.header) (λ k o. same k (omega arith))).0)

  reach_same : (log : Events) (r : Node) → h.extent.end ≤ r.start → follow_row lim f h log r ≡ follow_row lim g h log r
  unfolding follow_row
  reach_same log r l =
      rw (← long, ← offset_same r l)
      (by (is_missing (nodes_of log) r) (outside h (length f) r.target) refl)
    where
      m : P Made
      m = detached_at lim h (length f) log r.target (offset_at f r)

      by : (b c : Bool) → outside h (length f) r.target ≡ c
          → cond b (cond c (logged log (run m f r.target) (trace m f r.target)) (bad 16 (offset_at f r))) (good log)
          ≡ cond b (cond c (logged log (run m g r.target) (trace m g r.target)) (bad 16 (offset_at f r))) (good log)
      by true true e = let o = outside-is h (length f) r.target e in let (x, y) = forward m f g r.target (λ k l. same k (omega arith)) in ap₂ (logged log) x y
      by true false e = refl
      by false true e = refl
      by false false e = refl

  -- the rows of a log that has grown start behind the header too
  grown : (log log' : Events) (r : Node) → From h.extent.end (nodes_of log) → Reached lim f h log r log' → From h.extent.end (nodes_of log')
  unfolding detached_at
  grown log log' r s (known x y) = rw y s
  grown log log' r s (added t y) =
      let o = outside-is h (length f) r.target t.is-outside in
      let p = part-is h (length f) r.target (omega arith) in
      let es = trace (target lim f h log r) f r.target in
      let n : nodes_of (log ++ es) ≡ nodes_of log ++ nodes_of es = rows_on node_of log es in
      rw (y, n) (from_on _ (nodes_of log) (nodes_of es) s
      (from_less _ r.target (nodes_of es) o.0 (detached-from f (context lim h (length f)) _ _ _ _ r.target p.0 t.runs)))

  follow-same : (k i : ℕ) (o : Result Events) → ((log : Events) → o ≡ good log → From h.extent.end (nodes_of log)) → follow k lim f h i o ≡ follow k lim g h i o
  unfolding follow
  follow-same zero i o a = refl
  follow-same (suc k) i (bad n p) a = refl
  follow-same (suc k) i (good log) a = by (ltb i (length (nodes_of log))) refl
      (λ t. follow-same k (i + 1) (follow_row lim f h log r) (λ log' q. grown log log' r (a log refl) (reached lim f h log r q)))
    where
      r : Node
      r = node_at (nodes_of log) i

      by : (b : Bool) → ltb i (length (nodes_of log)) ≡ b →
          (ltb i (length (nodes_of log)) ≡ true → follow k lim f h (i + 1) (follow_row lim f h log r) ≡ follow k lim g h (i + 1) (follow_row lim f h log r))
          → cond b (follow k lim f h (i + 1) (follow_row lim f h log r)) (good log) ≡ cond b (follow k lim g h (i + 1) (follow_row lim g h log r)) (good log)
      by true t rest = rest t ∙ ap (follow k lim g h (i + 1)) (reach_same log r (from_at _ (nodes_of log) (a log refl) i (ltb-true _ _ t)))
      by false t rest = refl

  tree-rows : (o : Out Made) → run (tree_of lim (length f) h) f h.extent.start ≡ o → (log : Events) → logged [] o
      (trace (tree_of lim (length f) h) f h.extent.start) ≡ good log → From h.extent.end (nodes_of log)
  unfolding logged
  tree-rows (ok m p) e log q = subst (λ (es : Events). From h.extent.end (nodes_of es)) (own q)
      (from_less _ h.extent.start (nodes_of (trace (tree_of lim (length f) h) f h.extent.start)) after
      (tree-from f (context lim h (length f)) (h.extent.last + 1) h.extent.start (omega arith) e))
    where
      own : {x y : Events} → good x ≡ good y → x ≡ y
      own e = cc
  tree-rows (refused n p) e log q = absurd (no q)
    where
      no : {x : Events} {n p : ℕ} → bad n p ≡ good x → ⊥
      no e = let z : ◌≡◌ {A = ℕ} 0 1 = cc in omega arith

  pub agree : (p : ℕ) → read_tree lim f (ok h p) ≡ read_tree lim g (ok h p)
  unfolding read_tree
  agree p =
      let m = tree_of lim (length f) h in
      let (x, y) = forward m f g h.extent.start (λ k l. same k (omega arith)) in
      ap (reading h) (follow-same lim.nodes 0 (logged [] (run m f h.extent.start) (trace m f h.extent.start)) (tree-rows (run m f h.extent.start) refl)
      ∙ rw (← long) (ap₂ (λ o es. follow lim.nodes lim g h 0 (logged [] o es)) x y))
