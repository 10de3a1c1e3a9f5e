-- Where no node has reference 3, nothing is read behind the tree.
-- Assumes nothing.
use mathlib.Core.Path.{◌≡◌, refl, sym, ap, ◌∙◌}
use mathlib.Core.Bool.{Bool, true, false, cond, ◌||◌}
use mathlib.Core.List.{List, [], ◌∷◌, ◌++◌, append_assoc, append-nil, map}
use Prim.Native.Nat.{ℕ, zero, suc, ◌+◌, ◌<◌}
use native.Mathlib.Omega.{arith}
use lib.Dec.{eqb, ltb}
use lib.ListN.{length}
use borrow.Author.Tests.{ltb-true, eqb-false, ne_eqb}
use Rattle.machine.specs.Machine.{ok, run, trace}
use Rattle.cursor.specs.Rows.{Events}
use Rattle.cursor.specs.declared.Node.{Node}
use Rattle.machine.proofs.Laws.{rows_on}
use Rattle.header.specs.Header.{Header, header}
use Rattle.metadata.specs.declared.Limits.{Limits}
use Rattle.metadata.specs.declared.Made.{Made}
use Rattle.rows.specs.Rows.{node_at, node_of, nodes_of, items_of}
use Rattle.file.specs.Reading.{good, rows, logged, follow_row, follow, reading, read_tree, read_file}
use Rattle.targets.specs.Targets.{is_missing}
use Rattle.file.proofs.Follow.{target, tree_of, Reached, known, added, followed}
use Rattle.title_text.specs.Description.{shape}
use Rattle.title_text.specs.Title.{elsewhere}
use Rattle.title_text.proofs.Nodes.{AllStay}

-- ---- no reference 2 or 3

either : (a b c : Bool) → (a || b || c) ≡ false → (a ≡ false) × (b ≡ false) × (c ≡ false)
either true b c e = let z : true ≡ false = e in absurd (differ z)
  where
    differ : true ≡ false → ⊥
    differ z = let y : ◌≡◌ {A = ℕ} 0 1 = cc in omega arith
either false true c e = absurd (differ e)
  where
    differ : true ≡ false → ⊥
    differ z = let y : ◌≡◌ {A = ℕ} 0 1 = cc in omega arith
either false false c e = (refl, refl, e)

neither : (a b c : Bool) → a ≡ false → b ≡ false → c ≡ false → (a || b || c) ≡ false
neither a b c x y z = rw (x, y, z) refl

pub elsewhere-left : (a b : List Node) → elsewhere (a ++ b) ≡ false → elsewhere a ≡ false
unfolding elsewhere
elsewhere-left [] b e = refl
elsewhere-left (r ∷ a) b e =
    let w = either (eqb r.reference 2) (eqb r.reference 3) (elsewhere (a ++ b)) e in
    neither (eqb r.reference 2) (eqb r.reference 3) (elsewhere a) w.0 w.1 (elsewhere-left a b w.2)

elsewhere-at : (ns : List Node) (i : ℕ) → elsewhere ns ≡ false → i < length ns → eqb (node_at ns i).reference 3 ≡ false
unfolding elsewhere
elsewhere-at [] i e l = absurd (omega arith)
elsewhere-at (r ∷ ns) zero e l = (either (eqb r.reference 2) (eqb r.reference 3) (elsewhere ns) e).1
elsewhere-at (r ∷ ns) (suc i) e l = elsewhere-at ns i (either (eqb r.reference 2) (eqb r.reference 3) (elsewhere ns) e).2 (omega arith)

pub all_stay : (f : List ℕ) (ns : List Node) → elsewhere ns ≡ false → AllStay (map (shape f) ns)
unfolding elsewhere shape
all_stay f [] e = tt
all_stay f (r ∷ ns) e = let w = either (eqb r.reference 2) (eqb r.reference 3) (elsewhere ns) e in ((eqb-false _ _ w.0, eqb-false _ _ w.1), all_stay f ns w.2)

pub stay_elsewhere : (f : List ℕ) (ns : List Node) → AllStay (map (shape f) ns) → elsewhere ns ≡ false
unfolding elsewhere shape
stay_elsewhere f [] s = refl
stay_elsewhere f (r ∷ ns) s = neither (eqb r.reference 2) (eqb r.reference 3) (elsewhere ns) (ne_eqb _ _ s.0.0) (ne_eqb _ _ s.0.1) (stay_elsewhere f ns s.1)

-- ---- then nothing is followed

module _ (lim : Limits) (f : List ℕ) (h : Header) (log : Events) (here : elsewhere (nodes_of log) ≡ false) where
  reach_none : (i : ℕ) → i < length (nodes_of log) → follow_row lim f h log (node_at (nodes_of log) i) ≡ good log
  unfolding follow_row is_missing
  reach_none i l = rw (elsewhere-at (nodes_of log) i here l) refl

  pub follow-none : (k i : ℕ) → follow k lim f h i (good log) ≡ good log
  unfolding follow
  follow-none zero i = refl
  follow-none (suc k) i = by (ltb i (length (nodes_of log))) refl (λ l. ap (follow k lim f h (i + 1)) (reach_none i l) ∙ follow-none k (i + 1))
    where
      by : (b : Bool) → ltb i (length (nodes_of log)) ≡ b → (i < length (nodes_of log) → follow k lim f h (i + 1) (follow_row lim f h log (node_at (nodes_of log) i)) ≡ good log)
          → (cond b (follow k lim f h (i + 1) (follow_row lim f h log (node_at (nodes_of log) i))) (good log)) ≡ good log
      by true e r = r (ltb-true _ _ e)
      by false e r = refl

-- a log grows at its end
longer : (lim : Limits) (f : List ℕ) (h : Header) (first : Events) (k : ℕ) {log : Events} → follow k lim f h 0 (good first) ≡ good log → (es : Events) × (log ≡ first ++ es)
longer lim f h first k {log} e =
    let w = followed lim f h (λ _ l. (es : Events) × (l ≡ first ++ es)) step k 0 (good first) (λ l q. ([], sym (same q) ∙ sym (append-nil first))) e in
    w.1
  where
    same : {a b : Events} → good a ≡ good b → a ≡ b
    same x = cc

    step : (i : ℕ) (l l' : Events) → (es : Events) × (l ≡ first ++ es) → i < length (nodes_of l) → Reached lim f h l (node_at (nodes_of l) i) l' → (es : Events) × (l' ≡ first ++ es)
    step i l l' (es, q) m (known a b) = (es, b ∙ q)
    step i l l' (es, q) m (added a b) =
        let more : Events = trace (target lim f h l (node_at (nodes_of l) i)) f (node_at (nodes_of l) i).target in
        (es ++ more, b ∙ ap (λ v. v ++ more) q ∙ append_assoc first es more)

-- the log of an accepted file without references 2 and 3 is the tree's
pub log-is_tree : (lim : Limits) (f : List ℕ) (h : Header) (first : Events) (k : ℕ) {log : Events} → follow k lim f h 0 (good first) ≡ good
    log → elsewhere (nodes_of log) ≡ false → log ≡ first
log-is_tree lim f h first k {log} e here =
    let (es, q) = longer lim f h first k e in
    let r : nodes_of log ≡ nodes_of first ++ nodes_of es = ap nodes_of q ∙ rows_on node_of first es in
    let none : elsewhere (nodes_of first) ≡ false = elsewhere-left (nodes_of first) (nodes_of es) (sym (ap elsewhere r) ∙ here) in
    let z : good log ≡ good first = sym e ∙ follow-none lim f h first none k 0 in
    cc

-- a file whose header and tree are read, and whose tree has no reference 2 or 3
pub read_whole : (lim : Limits) (g : List ℕ) {h : Header} {q : ℕ} {m : Made} {p : ℕ} → run (header (length g)) g 0 ≡ ok h q → run
    (tree_of lim (length g) h) g h.extent.start ≡ ok m p
    → elsewhere (nodes_of (trace (tree_of lim (length g) h) g h.extent.start)) ≡ false
    → read_file lim g ≡ rows h (nodes_of (trace (tree_of lim (length g) h) g h.extent.start)) (items_of (trace (tree_of lim (length g) h) g h.extent.start))
unfolding read_file read_tree logged reading
read_whole lim g {h} a b here = rw (a, b, follow-none lim g h (trace (tree_of lim (length g) h) g h.extent.start) here lim.nodes 0) refl
