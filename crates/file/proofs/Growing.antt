-- The ways through following the rows: what each exit of the code comes to, over a log that grows.
-- Assumes nothing.
use mathlib.Core.Path.{◌≡◌, refl, sym, ap, ap₂, ◌∙◌, subst}
use mathlib.Core.Bool.{Bool, true, false, cond, not, ◌&&◌, ◌||◌}
use mathlib.Core.List.{List, [], ◌∷◌, ◌++◌}
use Prim.Native.Nat.{ℕ, zero, suc, ◌+◌, ◌*◌, ◌-◌, ◌≤◌, ◌<◌, min}
use native.Mathlib.Nat.{zero-add}
use native.Mathlib.Omega.{arith}
use borrow.Author.Tests.{lt-ltb, le-ltb, eq-eqb, ne_eqb}
use lib.Dec.{eqb, ltb}
use native.Mathlib.Decide.{dec_lt}
use lib.ListN.{length, length-append, take, drop}
use lib.Seq.{get_or-append_seam}
use Rattle.machine.specs.Machine.{Out, ok, refused, run, trace, exec, puts, times}
use Rattle.cursor.specs.Rows.{P, Events}
use Rattle.cursor.specs.declared.Cursor.{Cursor}
use Rattle.std.proofs.Common.{Ok, Err}
use Rattle.std.proofs.Common as std
use Rattle.refusals.specs.Reasons.{number_of}
use Rattle.refusals.specs.declared.Refusal.{Refusal}
use Rattle.refusals.specs.declared.Reason.TheVariants as reason
use Rattle.cursor.specs.declared.Node.{Node}
use Rattle.machine.proofs.Laws.{puts-on, rows_on}
use Rattle.cursor.proofs.Quiet.{still, exec-puts}
use Rattle.header.specs.Header.{Header}
use Rattle.rows.specs.Rows.{node_width, node_of, nodes_of, items_of, all_nodes, node_from, node_at, no_node, nodes_in, row_starting, Rising}
use Rattle.metadata.specs.Tables.{State, state, put}
use Rattle.metadata.specs.Told.{told, Fits, Gives}
use Rattle.metadata.specs.declared.Limits.{Limits}
use Rattle.metadata.specs.declared.Made.{Made}
use Rattle.file.specs.Reading.{Result, good, bad, made_by, logged, detached_at, follow_row, follow, context}
use Rattle.targets.specs.Targets.{starts_at, is_missing, offset_at, outside, part_end, first_taken}
use Rattle.node.specs.Node.{outside_tree}
use Rattle.tree.specs.Tree.{node, detached}
use Rattle.file.specs.Told.{Stands, said, left, Leaves}
use Rattle.targets.specs.Told.{Spanned, Spans}
use Rattle.targets.specs.declared.Span.{Span}
use Rattle.room.proofs.Sets.{sets-front}
use Rattle.file.proofs.Filled.{filled, puts-fills}
use Rattle.rows.proofs.Rows.{nodes-length, node_at_lem, in_front, nodes-back}
use Rattle.tree.proofs.Nodes.{one-node}
use Rattle.file.proofs.Follow.{target, Reached, known, added, reached}
use Rattle.tree.proofs.Ends.{detached-inside, detached-ends}
use Rattle.tree.proofs.Starts.{detached-row}
use Rattle.file.proofs.Parents.{row-front}
use Rattle.targets.proofs.Targets.{taken-over, taken_more}
use Rattle.file.proofs.Shown.{part-is}
use Rattle.file.proofs.TreeRows.{tree-few, attached, tree-still}
use Rattle.file.proofs.Rows.{node_in}

-- ---- what stands in the tables

module _ {lim : Limits} {size : ℕ} {σ : State} {log : Events} {tree : ℕ} {t u : List ℕ} {m : Made} (s : Stands lim size σ log tree t u m) where
  fills : filled log σ ≡ state t u m
  fills = sym (puts-fills log σ) ∙ s.fills

  pub node-count : m.nodes ≡ length (nodes_of log)
  node-count = sym (ap (λ (v : State). v.made.nodes) fills) ∙ ap (λ (v : Made). v.nodes + length (nodes_of log)) s.empty ∙ zero-add _

  pub item_count : m.items ≡ length (items_of log)
  item_count = sym (ap (λ (v : State). v.made.items) fills) ∙ ap (λ (v : Made). v.items + length (items_of log)) s.empty ∙ zero-add _

  pub made-is : made_by log ≡ m
  made-is = ap₂ (λ (a : ℕ) (b : ℕ). record { nodes = a; items = b }) (sym node-count) (sym item_count)

  -- the log's rows are those that the table's words are read as
  pub rows-stand : lim.nodes * node_width ≤ length t → nodes_in m.nodes t ≡ nodes_of log
  rows-stand room =
      let n = nodes-length (nodes_of log) in
      let c = node-count in let f = s.fits.0 in let l = s.long.0 in
      let e : t ≡ all_nodes (nodes_of log) ++ drop (length (all_nodes (nodes_of log))) σ.nodes =
      sym (ap (λ (v : State). v.nodes) fills) ∙ ap (λ (v : Made). (filled log (record { nodes = σ.nodes; items = σ.items; made = v })).nodes)
      s.empty ∙ sets-front σ.nodes (all_nodes (nodes_of log)) (omega arith) in
      ap₂ nodes_in c e ∙ nodes-back (nodes_of log) _

  -- nothing new
  pub leaves-same : (c : Cursor) → Leaves lim σ (Ok (m, c)) t u (good log)
  leaves-same c = record { answer = ap good (sym s.fills); fits = s.fits }

  -- one more node
  pub leaves-more : {r : std.Result (Made × Cursor) Refusal} {t' u' : List ℕ} (f : List ℕ) (at : ℕ) (n : P Made) → Gives lim r t' u' (exec put n f at (state t u m)) →
      Leaves lim σ r t' u' (logged log (run n f at) (trace n f at))
  unfolding logged
  leaves-more {r} {t'} {u'} f at n g =
      let e : puts put (log ++ trace n f at) σ ≡ puts put (trace n f at) (state t u m) = puts-on put log (trace n f at) σ ∙ ap (puts put (trace n f at)) s.fills in
      by r (run n f at) (trace n f at) (g.answer ∙ exec-puts put n f at (state t u m) ∙ ap (still (run n f at)) (sym e)) g.fits
    where
      same : {a b : Made × State} {p q : ℕ} → ok a p ≡ ok b q → a ≡ b
      same z = cc

      by : (r : std.Result (Made × Cursor) Refusal) (o : Out Made) (es : Events) → told r t' u' ≡ still o (puts put (log ++ es) σ) → Fits lim r → Leaves lim σ r t' u' (logged log o es)
      by (Ok (a, c)) (ok b p) es z fits = record { answer = ap (λ (y : Made × State). good y.1) (same z); fits = fits }
      by (Ok (a, c)) (refused n p) es z fits = let y : ◌≡◌ {A = ℕ} 0 1 = cc in absurd (omega arith)
      by (Err x) (ok b q) es z fits = let y : ◌≡◌ {A = ℕ} 0 1 = cc in absurd (omega arith)
      by (Err x) (refused k q) es z fits = let a : number_of x.0 ≡ k = cc in let b : x.1 ≡ q = cc in record { answer = ap₂ (λ (a : ℕ) (b : ℕ). bad a b) a b; fits = tt }

-- ---- what the calls that look at the table ask for

module _ {lim : Limits} {size : ℕ} {σ : State} {log : Events} {tree : ℕ} {t u : List ℕ} {m : Made} (s : Stands lim size σ log tree t u m)
    (room : lim.nodes * node_width ≤ length t) where
  pub stand_few : (tree ≤ m.nodes) × (m.nodes * node_width ≤ length t)
  stand_few = let n = node-count s in let f = tree-few (nodes_of log) in let e = s.first.tree_is in let g = s.fits.0 in (omega arith, omega arith)

  pub stand_rising : Rising (nodes_in tree t)
  stand_rising = subst Rising (sym (in_front t tree m.nodes stand_few.0 ∙ ap (take tree) (rows-stand s room))) s.first.rising

  pub stand_inside : (i : ℕ) → i < m.nodes → ((node_at (nodes_in m.nodes t) i).header ≤ (node_at (nodes_in m.nodes t) i).size) ×
      ((node_at (nodes_in m.nodes t) i).start + (node_at (nodes_in m.nodes t) i).size ≤ size)
  stand_inside i l = let n = node-count s in subst
      (λ v. ((node_at v i).header ≤ (node_at v i).size) × ((node_at v i).start + (node_at v i).size ≤ size)) (sym (rows-stand s room))
      (s.inside i (omega arith))

  pub stand_attached : (i : ℕ) → i < tree → (node_at (nodes_in m.nodes t) i).detached ≡ 0
  stand_attached i l = subst (λ v. (node_at v i).detached ≡ 0) (sym (rows-stand s room)) (attached (nodes_of log) i (let e = s.first.tree_is in omega arith))

pub part_in : (h : Header) (size p : ℕ) → h.extent.start ≤ size → {end : ℕ} → end ≡ part_end h size p → end ≤ size
part_in h size p l e = let w = (part-is h size p l).0 in omega arith

-- ---- one row

none-by : (ns : List Node) (p : ℕ) → starts_at ns p ≡ true → row_starting ns p < length ns
unfolding starts_at row_starting
none-by [] p e = let y : ◌≡◌ {A = ℕ} 0 1 = cc in absurd (omega arith)
none-by (r ∷ rs) p e = by (eqb r.start p) e (none-by rs p)
  where
    by : (b : Bool) → (b || starts_at rs p) ≡ true → (starts_at rs p ≡ true → row_starting rs p < length rs) → (cond b 0 (suc (row_starting rs p))) < suc (length rs)
    by true z rest = omega arith
    by false z rest = let w = rest z in omega arith

some-by : (ns : List Node) (p : ℕ) → starts_at ns p ≡ false → length ns ≤ row_starting ns p
unfolding starts_at row_starting
some-by [] p e = omega arith
some-by (r ∷ rs) p e = by (eqb r.start p) e (some-by rs p)
  where
    by : (b : Bool) → (b || starts_at rs p) ≡ false → (starts_at rs p ≡ false → length rs ≤ row_starting rs p) → suc (length rs) ≤ (cond b 0 (suc (row_starting rs p)))
    by true z rest = let y : ◌≡◌ {A = ℕ} 0 1 = cc in absurd (omega arith)
    by false z rest = let w = rest z in omega arith

starts_when : (ns : List Node) (p : ℕ) → row_starting ns p < length ns → starts_at ns p ≡ true
starts_when ns p l = by (starts_at ns p) refl
  where
    by : (b : Bool) → starts_at ns p ≡ b → b ≡ true
    by true e = refl
    by false e = let w = some-by ns p e in absurd (omega arith)

starts_not : (ns : List Node) (p : ℕ) → length ns ≤ row_starting ns p → starts_at ns p ≡ false
starts_not ns p l = by (starts_at ns p) refl
  where
    by : (b : Bool) → starts_at ns p ≡ b → b ≡ false
    by true e = let w = none-by ns p e in absurd (omega arith)
    by false e = refl

module _ (lim : Limits) (f : List ℕ) (h : Header) {σ : State} {log : Events} {tree : ℕ} {t u : List ℕ} {m : Made}
    (s : Stands lim (length f) σ log tree t u m) (room : lim.nodes * node_width ≤ length t) (i : ℕ) (l : i < m.nodes) {row : Node}
    (read : row ≡ node_from t (i * node_width)) where
  abbrev r : Node
  r = node_at (nodes_of log) i

  row_words : row ≡ r
  row_words = read ∙ sym (node_at_lem t m.nodes i l) ∙ ap (λ v. node_at v i) (rows-stand s room)

  reach_same : is_missing (nodes_of log) r ≡ false → (c : Cursor) → Leaves lim σ (Ok (m, c)) t u (follow_row lim f h log r)
  unfolding follow_row
  reach_same e c = rw e (leaves-same s c)

  -- no reference 3
  pub reach_other : ((row.reference ≡ 3) → ⊥) → (c : Cursor) → Leaves lim σ (Ok (m, c)) t u (follow_row lim f h log r)
  unfolding is_missing
  reach_other n c = let q : (r.reference ≡ 3) → ⊥ = λ z. n (ap (λ (x : Node). x.reference) row_words ∙ z) in reach_same
      (ap (λ b. b && not (starts_at (nodes_of log) r.target)) (ne_eqb _ _ q)) c

  to_is : row.target ≡ r.target
  to_is = ap (λ (x : Node). x.target) row_words

  -- a row starts there
  pub reach_known : {k : ℕ} → k ≡ row_starting (nodes_in m.nodes t) row.target → k < m.nodes → (c : Cursor) → Leaves lim σ (Ok (m, c)) t u (follow_row lim f h log r)
  unfolding is_missing
  reach_known {k} e j c =
      let y : k ≡ row_starting (nodes_of log) r.target = e ∙ ap₂ row_starting (rows-stand s room) to_is in
      let n = node-count s in
      reach_same (rw (starts_when (nodes_of log) r.target (omega arith)) (and-false (eqb r.reference 3))) c
    where
      and-false : (b : Bool) → (b && not true) ≡ false
      and-false true = refl
      and-false false = refl

  module _ (three : row.reference ≡ 3) {k : ℕ} (e : k ≡ row_starting (nodes_in m.nodes t) row.target) (none : m.nodes ≤ k) where
    is_lost : is_missing (nodes_of log) r ≡ true
    unfolding is_missing
    is_lost =
        let y : k ≡ row_starting (nodes_of log) r.target = e ∙ ap₂ row_starting (rows-stand s room) to_is in
        let n = node-count s in
        let q : r.reference ≡ 3 = sym (ap (λ (x : Node). x.reference) row_words) ∙ three in
        rw (eq-eqb _ _ q, starts_not (nodes_of log) r.target (omega arith)) refl

    -- no node may start there
    pub reach_nowhere : false ≡ outside h (length f) row.target → {p : ℕ} → p ≡ offset_at f (node_at (nodes_in m.nodes t) i) →
        Leaves lim σ (Err (record { 0 = reason.BadTarget; 1 = p })) t u (follow_row lim f h log r)
    unfolding follow_row
    reach_nowhere b {p} q =
        let o : outside h (length f) r.target ≡ false = sym (b ∙ ap (outside h (length f)) to_is) in
        let z : p ≡ offset_at f r = q ∙ ap (λ v. offset_at f (node_at v i)) (rows-stand s room) in
        rw (is_lost, o) (record { answer = ap (bad 16) z; fits = tt })

    -- a node is read there
    pub reach_node : true ≡ outside h (length f) row.target → {offset end taken : ℕ} → offset ≡ offset_at f
        (node_at (nodes_in m.nodes t) i) → end ≡ part_end h (length f) row.target → taken ≡ first_taken (nodes_in m.nodes t) row.target end
        → {w : std.Result (Made × Cursor) Refusal} {t' u' : List ℕ} → Gives lim w t' u'
        (exec put (times 1 (node 17 (context lim h (length f)) m.nodes (outside_tree end taken offset)) m) f row.target (state t u m)) →
        Leaves lim σ w t' u' (follow_row lim f h log r)
    unfolding follow_row detached_at detached
    reach_node b {offset} {end} {taken} q en ta {w} {t'} {u'} g =
        let o : outside h (length f) r.target ≡ true = sym (b ∙ ap (outside h (length f)) to_is) in
        let z : offset ≡ offset_at f r = q ∙ ap (λ v. offset_at f (node_at v i)) (rows-stand s room) in
        let en' : end ≡ part_end h (length f) r.target = en ∙ ap (part_end h (length f)) to_is in
        let ta' : taken ≡ first_taken (nodes_of log) r.target (part_end h (length f) r.target) = ta ∙ ap₂ (λ v p. first_taken v p end)
        (rows-stand s room) to_is ∙ ap (first_taken (nodes_of log) r.target) en' in
        let x = context lim h (length f) in
        let n : node 17 x m.nodes (outside_tree end taken offset) m ≡ node 17 x (made_by log).nodes
        (outside_tree (part_end h (length f) r.target) (first_taken (nodes_of log) r.target (part_end h (length f) r.target)) (offset_at f r))
        (made_by log) =
        ap (λ (v : Made). node 17 x v.nodes (outside_tree end taken offset) v) (sym (made-is s)) ∙ ap₂
        (λ (a : ℕ) (b : ℕ). node 17 x (made_by log).nodes (outside_tree a b offset) (made_by log)) en' ta' ∙ ap
        (λ c. node 17 x (made_by log).nodes
        (outside_tree (part_end h (length f) r.target) (first_taken (nodes_of log) r.target (part_end h (length f) r.target)) c)
        (made_by log)) z in
        rw (is_lost, o) (subst (λ (v : P Made). Leaves lim σ w t' u' (logged log (run v f r.target) (trace v f r.target))) n
        (subst (λ v. Leaves lim σ w t' u'
        (logged log (run (node 17 x m.nodes (outside_tree end taken offset) m) f v)
        (trace (node 17 x m.nodes (outside_tree end taken offset) m) f v))) to_is
        (leaves-more s f row.target _ (one-node (node 17 x m.nodes (outside_tree end taken offset)) m f row.target (state t u m) g))))

-- ---- all rows

pub bad-is : (lim : Limits) (f : List ℕ) (h : Header) (i k n p : ℕ) → follow k lim f h i (bad n p) ≡ bad n p
unfolding follow
bad-is lim f h i zero n p = refl
bad-is lim f h i (suc k) n p = refl

each : (C : Node → Type 0) (ns ms : List Node) → ((i : ℕ) → i < length ns → C (node_at ns i)) → ((i : ℕ) → i < length ms → C (node_at ms i)) →
    (i : ℕ) → i < length (ns ++ ms) → C (node_at (ns ++ ms) i)
each C [] ms a b i l = b i l
each C (r ∷ ns) ms a b zero l = a 0 (omega arith)
each C (r ∷ ns) ms a b (suc i) l = each C ns ms (λ j k. a (suc j) (omega arith)) b i (omega arith)

-- one more row, or none: the table's rows stand as before
more-stands : (lim : Limits) (f : List ℕ) (h : Header) {σ : State} {log log' : Events} {tree : ℕ} {t u t' u' : List ℕ} {m m' : Made}
    {r : Node} → h.extent.start ≤ length f → Stands lim (length f) σ log tree t u m
    → Reached lim f h log r log' → puts put log' σ ≡ state t' u' m' → (m'.nodes ≤ lim.nodes) × (m'.items ≤ lim.items) → length t' ≡ length
    t → length u' ≡ length u → Stands lim (length f) σ log' tree t' u' m'
unfolding detached_at
more-stands lim f h {σ = σ} {log = log} z s (known x y) e fits j k = rw y
    (record {
      empty = s.empty;
      fills = ap (λ v. puts put v σ) (sym y) ∙ e;
      fits = fits;
      long = (j ∙ s.long.0, k ∙ s.long.1);
      inside =
          s.inside;
      first = s.first;
    })
more-stands lim f h {σ = σ} {log = log} {log' = log'} {r = r} z s (added a y) e fits j k =
    let es = trace (target lim f h log r) f r.target in
    let n : nodes_of (log ++ es) ≡ nodes_of log ++ nodes_of es = rows_on node_of log es in
    let in_all = node_in es (length f) (length f) (omega arith) (detached-inside (context lim h (length f)) f r.target _ _ _ _ (part-is h (length f) r.target z).0) in
    record {
      empty = s.empty;
      fills = e;
      fits = fits;
      long = (j ∙ s.long.0, k ∙ s.long.1);
      inside = rw (y, n) (each (λ v. (v.header ≤ v.size) × (v.start + v.size ≤ length f)) (nodes_of log) (nodes_of es) s.inside (λ i l. let w = in_all i l in (w.0, w.1)));
      first = tree-still lim f h z s.first (added a y);
    }

pub same-state : {v w : State} → good v ≡ good w → v ≡ w
same-state e = cc

-- the rows of the longer log lie in the span with the one more row
more-spanned : (lim : Limits) (f : List ℕ) (h : Header) {log log' : Events} {tree : ℕ} {v v' : Span} {r : Node} → h.extent.start ≤ length f → Reached lim f h log r log'
    → Spanned tree (length f) (nodes_of log) v → (length (nodes_of log') ≤ length (nodes_of log) → v' ≡ v)
    → (length (nodes_of log) < length (nodes_of log') → Spans (node_at (nodes_of log') (length (nodes_of log))) v v') → Spanned tree (length f) (nodes_of log') v'
unfolding detached_at
more-spanned lim f h {tree = tree} {v} {v'} z (known x y) old same new =
    let e = ap (λ es. length (nodes_of es)) y in
    subst (λ es. Spanned tree (length f) (nodes_of es) v') (sym y) (subst (Spanned tree (length f) _) (sym (same (omega arith))) old)
more-spanned lim f h {log} {log'} {tree} {v} {v'} {r} z (added s y) old same new =
    let inside = (part-is h (length f) r.target z).0 in
    let w = detached-row f (context lim h (length f)) _ _ _ (made_by log) r.target inside s.runs in
    let q = detached-ends (context lim h (length f)) f r.target _ _ _ _ inside s.runs in
    let ns = nodes_of log in
    let n : nodes_of log' ≡ ns ++ (w.row ∷ []) = ap nodes_of y ∙ rows_on node_of log _ ∙ ap (λ v. ns ++ v) (w.rows_are ∙ ap (λ v. w.row ∷ v) (w.alone refl)) in
    let c = ap length n ∙ length-append ns (w.row ∷ []) in
    let last : node_at (ns ++ (w.row ∷ [])) (length ns) ≡ w.row = get_or-append_seam ns w.row [] no_node in
    let wide : Spans w.row v v' = subst (λ (p : Node). Spans p v v') (ap (λ v. node_at v (length ns)) n ∙ last) (new (omega arith)) in
    let at = w.start in let end = w.stop in let some : 0 < w.row.size = omega arith in let b = wide.beyond_is in
    subst (λ v. Spanned tree (length f) v v') (sym n) (record {
      rows = λ i a k. elim (dec_lt i (length ns)) [
        | yes m ↦ (let o = old.rows i a m in
            subst (λ (p : Node). (p.detached ≡ 1) × (0 < p.size) × (p.start + p.size ≤ v'.beyond.0)) (sym (row-front ns (w.row ∷ []) i m)) (o.0, o.1, omega arith))
        | no m ↦ (let j : length ns ≡ i = omega (arith, length-append ns (w.row ∷ [])) in
            subst (λ (p : Node). (p.detached ≡ 1) × (0 < p.size) × (p.start + p.size ≤ v'.beyond.0))
            (sym (ap (node_at (ns ++ (w.row ∷ []))) (sym j) ∙ last)) (w.detached-is, some, omega arith))
      ];
      first-is = wide.first-is ∙ ap (min w.row.start) old.first-is ∙ sym (taken_more ns w.row (length f) w.detached-is some);
    })

module _ (lim : Limits) (f : List ℕ) (h : Header) (tree : ℕ) (t₀ u₀ : List ℕ) (m₀ : Made) where
  -- with row i next, the rows m made, those of detached nodes in the span v, and the tables t and u: what is left comes to what the whole comes to
  pub record Following (i : ℕ) (t u : List ℕ) (m : Made) (v : Span) (σ : State) (log₀ : Events) : Type 0 where
    pub log : Events
    pub stands : Stands lim (length f) σ log tree t u m
    pub spanned : Spanned tree (length f) (nodes_of log) v
    pub same : follow lim.nodes lim f h 0 (good log₀) ≡ follow (lim.nodes - i) lim f h i (good log)

  abbrev pub Follows : ℕ → List ℕ → List ℕ → Made → Span → Type 0
  Follows i t u m v = (σ : State) (log₀ : Events) → Stands lim (length f) σ log₀ tree t₀ u₀ m₀ → Following i t u m v σ log₀

  pub follows_begun : m₀.nodes ≤ tree → {v : Span} → v.first.0 ≡ length f → Follows 0 t₀ u₀ m₀ v
  follows_begun l e σ log₀ s =
      let n = node-count s in let o = s.first.tree_is in
      record {
        log = log₀;
        stands = s;
        spanned = record {
          rows = λ i a k. absurd (omega arith);
          first-is = e ∙ sym (taken-over (nodes_of log₀) 0 (length f) (λ i k d z. let y = attached (nodes_of log₀) i (omega arith) in absurd (omega arith)));
        };
        same = ap (λ k. follow k lim f h 0 (good log₀)) (let e : lim.nodes ≡ lim.nodes - 0 = omega arith in e);
      }

  module _ {i : ℕ} {t u : List ℕ} {m : Made} {v : Span} (w : Follows i t u m v) where
    -- the rows that stand in the table lie in the span
    pub follows_spanned : lim.nodes * node_width ≤ length t → (σ : State) (log₀ : Events) → Stands lim (length f) σ log₀ tree t₀ u₀ m₀
        → Spanned tree (length f) (nodes_in m.nodes t) v
    follows_spanned room σ log₀ s = let x = w σ log₀ s in subst (λ ns. Spanned tree (length f) ns v) (sym (rows-stand x.stands room)) x.spanned

    -- a row is left: what it leads to
    turn : (σ : State) (log₀ : Events) (s : Stands lim (length f) σ log₀ tree t₀ u₀ m₀) → i < m.nodes
        → follow lim.nodes lim f h 0 (good log₀) ≡ follow (lim.nodes - (i + 1)) lim f h (i + 1) (follow_row lim f h (w σ log₀ s).log (node_at (nodes_of (w σ log₀ s).log) i))
    unfolding follow
    turn σ log₀ s l =
        let x = w σ log₀ s in let n = node-count x.stands in let q = x.stands.fits.0 in
        let k : lim.nodes - i ≡ suc (lim.nodes - (i + 1)) = omega arith in
        let b : ltb i (length (nodes_of x.log)) ≡ true = lt-ltb i (length (nodes_of x.log)) (omega arith) in
        x.same ∙ ap (λ v. follow v lim f h i (good x.log)) k ∙ rw b refl

    module _ (l : i < m.nodes) {r : std.Result (Made × Cursor) Refusal} {t' u' : List ℕ}
        (g : (σ : State) (log : Events) → Stands lim (length f) σ log tree t u m → Leaves lim σ r t' u'
        (follow_row lim f h log (node_at (nodes_of log) i))) where
      pub follows_no : {x : Refusal} → r ≡ Err x → (σ : State) (log₀ : Events) → Stands lim (length f) σ log₀ tree t₀ u₀ m₀ →
          Leaves lim σ (Err x) t' u' (follow lim.nodes lim f h 0 (good log₀))
      follows_no {x} e σ log₀ s =
          let y = w σ log₀ s in
          rw (turn σ log₀ s l) (by (follow_row lim f h y.log (node_at (nodes_of y.log) i)) (lim.nodes - (i + 1))
          (ap (λ v. said v t' u') (sym e) ∙ (g σ y.log y.stands).answer))
        where
          by : (o : Result Events) (k : ℕ) → bad (number_of x.0) x.1 ≡ left σ o → Leaves lim σ (Err x) t' u' (follow k lim f h (i + 1) o)
          by (good log) k z = let y : ◌≡◌ {A = ℕ} 0 1 = cc in absurd (omega arith)
          by (bad a b) k z = record { answer = z ∙ ap (left σ) (sym (bad-is lim f h (i + 1) k a b)); fits = tt }

      -- the log with what the row led to
      pub record Next (n : Made) (σ : State) (log₀ : Events) (s : Stands lim (length f) σ log₀ tree t₀ u₀ m₀) : Type 0 where
        pub log : Events
        pub stands : Stands lim (length f) σ log tree t' u' n
        pub came : Reached lim f h (w σ log₀ s).log (node_at (nodes_of (w σ log₀ s).log) i) log
        pub same : follow lim.nodes lim f h 0 (good log₀) ≡ follow (lim.nodes - (i + 1)) lim f h (i + 1) (good log)

      module _ (z : h.extent.start ≤ length f) {n : Made} {c : Cursor} (e : r ≡ Ok (n, c)) (j : length t' ≡ length t) (k : length u' ≡ length u) where
        pub follows_next : (σ : State) (log₀ : Events) (s : Stands lim (length f) σ log₀ tree t₀ u₀ m₀) → Next n σ log₀ s
        follows_next σ log₀ s =
            let x = w σ log₀ s in let a = g σ x.log x.stands in
            by (follow_row lim f h x.log (node_at (nodes_of x.log) i)) refl (ap (λ v. said v t' u') (sym e) ∙ a.answer) (subst (Fits lim) e a.fits)
          where
            by : (o : Result Events) → follow_row lim f h (w σ log₀ s).log (node_at (nodes_of (w σ log₀ s).log) i) ≡ o → good (state t' u' n) ≡ left σ o →
                (n.nodes ≤ lim.nodes) × (n.items ≤ lim.items) → Next n σ log₀ s
            by (good log) q y fits = record {
              log = log;
              stands = more-stands lim f h z (w σ log₀ s).stands (reached lim f h _ _ q) (same-state (sym y)) fits j k;
              came = reached lim f h _ _ q;
              same = turn σ log₀ s l ∙ ap (follow (lim.nodes - (i + 1)) lim f h (i + 1)) q;
            }
            by (bad a b) q y fits = let v : ◌≡◌ {A = ℕ} 0 1 = cc in absurd (omega arith)

        pub follows_on : lim.nodes * node_width ≤ length t' → {v' : Span} → (n.nodes ≤ m.nodes → v' ≡ v)
            → (m.nodes < n.nodes → Spans (node_at (nodes_in n.nodes t') m.nodes) v v') → Follows (i + 1) t' u' n v'
        follows_on room {v'} same new σ log₀ s =
            let x = w σ log₀ s in let y = follows_next σ log₀ s in let e₁ = node-count x.stands in
            let e₂ = node-count y.stands in
            record {
              log = y.log;
              stands = y.stands;
              spanned = more-spanned lim f h z y.came x.spanned (λ l₁. same (omega arith)) λ l₁.
                  subst (λ k. Spans (node_at (nodes_of y.log) k) v v') e₁ (subst (λ ns. Spans (node_at ns m.nodes) v v') (rows-stand y.stands room) (new (omega arith)));
              same = y.same;
            }

    pub follows_done : m.nodes ≤ i → (c : Cursor) → (σ : State) (log₀ : Events) → Stands lim (length f) σ log₀ tree t₀ u₀ m₀ → Leaves lim σ
        (Ok (m, c)) t u (follow lim.nodes lim f h 0 (good log₀))
    unfolding follow
    follows_done l c σ log₀ s =
        let x = w σ log₀ s in let n = node-count x.stands in
        rw x.same (by (lim.nodes - i) (le-ltb i (length (nodes_of x.log)) (omega arith)) (leaves-same x.stands c))
      where
        by : (k : ℕ) → ltb i (length (nodes_of (w σ log₀ s).log)) ≡ false → Leaves lim σ (Ok (m, c)) t u (good (w σ log₀ s).log) → Leaves lim σ
            (Ok (m, c)) t u (follow k lim f h i (good (w σ log₀ s).log))
        by zero b v = v
        by (suc k) b v = rw b v
