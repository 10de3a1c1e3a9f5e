-- A file under smaller limits is read step by step as under larger ones, up to the first row for which none is left. There it is refused, at the place that the
-- reading came to; under the larger limits it goes on from there, or is refused there.
-- Assumes nothing.
use mathlib.Core.Path.{◌≡◌, refl, sym, ap, ap₂, ◌∙◌, subst}
use mathlib.Core.Bool.{Bool, true, false, cond, ◌&&◌}
use mathlib.Core.Logic.{◌⊎◌, inl, inr}
use mathlib.Core.List.{List, [], ◌∷◌, ◌++◌, append-nil, append_assoc}
use Prim.Native.Nat.{ℕ, zero, suc, ◌+◌, ◌≤◌}
use native.Mathlib.Omega.{arith}
use lib.Dec.{ltb}
use lib.ListN.{length}
use borrow.Author.Tests.{le-ltb}
use Rattle.machine.specs.Machine.{Out, ok, refused, seen, passed, FirstAt, run, trace, rows_of}
use Rattle.cursor.specs.Refusals.{no_row_left}
use Rattle.cursor.specs.Rows.{node_row, item_row, plain, Events}
use Rattle.cursor.specs.declared.Node.{Node}
use Rattle.cursor.specs.declared.Item.{Item}
use Rattle.machine.proofs.Laws.{rows_on}
use Rattle.cursor.proofs.Uses.{passing, Only, NoRow, used}
use Rattle.cursor.proofs.Limited as limited
use Rattle.cursor.proofs.Limited.{Kind, item, Rows, count, Either, limited_either}
use Rattle.header.specs.Header.{Header, header}
use Rattle.header.proofs.Uses.{header-uses}
use Rattle.metadata.specs.declared.Limits.{Limits}
use Rattle.metadata.specs.declared.Made.{Made}
use Rattle.metadata.proofs.Limited.{room, Less}
use Rattle.rows.specs.Rows.{node_at, node_of, item_of, nodes_of, items_of}
use Rattle.file.specs.Reading.{Result, good, bad, rows, refusal, logged, follow_row, follow, reading, read_tree, read_file}
use Rattle.targets.specs.Targets.{is_missing, outside, offset_at}
use Rattle.file.specs.Steps.{reach_steps, follow_steps, tree_steps, steps}
use Rattle.file.proofs.Follow.{tree_of, target, Reached, known, added, reached, ReadAs, read_back, stops}
use Rattle.file_laws.proofs.Limited.{Fits, count-nodes, count-items, nodes-on, items-on, rows_in, tree-limited, target-limited, tree-fits, more-fits}

-- no row is left for what comes after these events
abbrev pub Full : Limits → Events → Type 0
Full lim es = (lim.nodes ≤ length (nodes_of es)) ⊎ (lim.items ≤ length (items_of es))

full-on : {lim : Limits} (es fs : Events) → Full lim fs → Full lim (es ++ fs)
full-on es fs (inl l) = let n = nodes-on es fs in inl (omega arith)
full-on es fs (inr l) = let n = items-on es fs in inr (omega arith)

-- Two results x and y, with their steps es and fs, over a log: they are the same; or x is 10, where y goes on.
record Ahead (lim : Limits) (log : Events) (x y : Result Events) (es fs : Events) : Type 0 where
  place : ℕ
  refuses : x ≡ bad no_row_left place
  rest : Events
  goes_on : fs ≡ es ++ rest
  next : FirstAt place rest
  some : (log' : Events) → y ≡ good log' → rest ≡ [] → ⊥
  none_left : Full lim (log ++ es)

abbrev OrFull : (lim : Limits) (log : Events) (x y : Result Events) (es fs : Events) → Type 0
OrFull lim log x y es fs = ((x ≡ y) × (es ≡ fs)) ⊎ Ahead lim log x y es fs

same_good : {a b : Events} → good a ≡ good b → a ≡ b
same_good e = cc

not_good : {A : Type 0} {n p : ℕ} {log : Events} → bad n p ≡ good log → A
not_good e = let z : ◌≡◌ {A = ℕ} 0 1 = cc in absurd (omega arith)

-- ---- the rows of an accepted file are those that its steps make

module _ (lim : Limits) (f : List ℕ) (h : Header) where
  -- what a row adds to the log is its steps
  reach_steps_lem : (log log' : Events) (r : Node) → follow_row lim f h log r ≡ good log' → log' ≡ log ++ reach_steps lim f h log r
  unfolding reach_steps
  reach_steps_lem log log' r e = by (reached lim f h log r e)
    where
      by : Reached lim f h log r log' → log' ≡ log ++ cond (is_missing (nodes_of log) r && outside h (length f) r.target) (trace (target lim f h log r) f r.target) []
      by (known x y) = rw x (y ∙ sym (append-nil log))
      by (added s y) = rw (s.is_lost, s.is-outside) y

  follow-steps : (k i : ℕ) (log : Events) {log' : Events} → follow k lim f h i (good log) ≡ good log' → log' ≡ log ++ follow_steps k lim f h i (good log)
  unfolding follow follow_steps
  follow-steps zero i log e = sym (same_good e) ∙ sym (append-nil log)
  follow-steps (suc k) i log {log'} e = by (ltb i (length (nodes_of log))) e (λ log₁ z. follow-steps k (i + 1) log₁ z)
    where
      r : Node
      r = node_at (nodes_of log) i

      next : (o : Result Events) → follow_row lim f h log r ≡ o → follow k lim f h (i + 1) o ≡ good log'
          → ((log₁ : Events) → follow k lim f h (i + 1) (good log₁) ≡ good log' → log' ≡ log₁ ++ follow_steps k lim f h (i + 1) (good log₁))
          → log' ≡ log ++ (reach_steps lim f h log r ++ follow_steps k lim f h (i + 1) o)
      next (bad n p) x z rest = absurd (stops lim f k (i + 1) h n p z)
      next (good log₁) x z rest = rest log₁ z ∙ ap (λ v. v ++ follow_steps k lim f h (i + 1) (good log₁)) (reach_steps_lem log log₁ r x) ∙ append_assoc log _ _

      by : (s : Bool) → (cond s (follow k lim f h (i + 1) (follow_row lim f h log r)) (good log)) ≡ good log'
          → ((log₁ : Events) → follow k lim f h (i + 1) (good log₁) ≡ good log' → log' ≡ log₁ ++ follow_steps k lim f h (i + 1) (good log₁))
          → log' ≡ log ++ cond s (reach_steps lim f h log r ++ follow_steps k lim f h (i + 1) (follow_row lim f h log r)) []
      by true z rest = next (follow_row lim f h log r) refl z rest
      by false z rest = sym (same_good z) ∙ sym (append-nil log)

no_rows : (es : Events) → Only (passing NoRow) es → (nodes_of es ≡ []) × (items_of es ≡ [])
unfolding rows_of
no_rows [] o = (refl, refl)
no_rows (seen κ p ∷ es) o = no_rows es o.1
no_rows (passed (node_row r) p n ∷ es) o = absurd o.0
no_rows (passed (item_row r) p n ∷ es) o = absurd o.0
no_rows (passed (plain x) p n ∷ es) o = no_rows es o.1

module _ (lim : Limits) (f : List ℕ) {h : Header} {ns : List Node} {is : List Item} where
  all-steps : (a : ReadAs lim f h ns is) → steps lim f ≡ trace (header (length f)) f 0 ++ a.log
  unfolding steps tree_steps logged
  all-steps a = rw (a.header_is, a.tree_is) (ap (λ v. trace (header (length f)) f 0 ++ v) (sym (follow-steps lim f h lim.nodes 0 _ a.follows)))

  pub steps-made : read_file lim f ≡ rows h ns is → (nodes_of (steps lim f) ≡ ns) × (items_of (steps lim f) ≡ is)
  steps-made e =
      let a = read_back lim f e in let hs = trace (header (length f)) f 0 in
      let w = no_rows hs (used f 0 (header-uses {S = passing NoRow} tt tt (length f))) in (
        ap nodes_of (all-steps a) ∙ rows_on node_of hs a.log ∙ ap (λ v. v ++ nodes_of a.log) w.0 ∙ a.nodes-are,
        ap items_of (all-steps a) ∙ rows_on item_of hs a.log ∙ ap (λ v. v ++ items_of a.log) w.1 ∙ a.items-are,
      )

-- ---- one run behind the log

logged-good : (log es : Events) (o : Out Made) {log' : Events} → logged log o es ≡ good log' → (m : Made) × (p : ℕ) × (o ≡ ok m p) × (log' ≡ log ++ es)
unfolding logged
logged-good log es (ok m p) e = (m, p, refl, sym (same_good e))
logged-good log es (refused n p) e = not_good e

logged-either : (lim : Limits) (log : Events) {c : Rows} → ((κ : Kind) → c κ ≡ rows_in log κ) → (o v : Out Made) (es fs : Events) → Either
    (room lim) c o v es fs → OrFull lim log (logged log o es) (logged log v fs) es fs
unfolding logged
logged-either lim log is o v es fs (inl w) = inl (ap₂ (logged log) w.0 w.1, w.1)
logged-either lim log {c} is o v es fs (inr w) = inr (record {
  place = w.place;
  refuses = ap (λ u. logged log u es) w.refuses;
  rest = w.rest;
  goes_on = w.goes_on;
  next = w.next;
  some = λ log' e. let g = logged-good log fs v e in w.some g.2;
  none_left = by w.kind w.none_left;
})
  where
    by : (κ : Kind) → room lim κ ≤ c κ + count es κ → Full lim (log ++ es)
    by limited.node l = let i = is limited.node in let n = nodes-on log es in let k = count-nodes es in inl (omega arith)
    by item l = let i = is item in let n = items-on log es in let k = count-items es in inr (omega arith)

no_row : (κ : Kind) → 0 ≡ rows_in [] κ
unfolding rows_of
no_row limited.node = refl
no_row item = refl

module _ {lim most : Limits} (less : Less lim most) (f : List ℕ) (h : Header) where
  reach_either : (log : Events) (r : Node) → Fits lim log → OrFull lim log (follow_row lim f h log r) (follow_row most f h log r) (reach_steps lim f h log r) (reach_steps most f h log r)
  unfolding follow_row reach_steps
  reach_either log r l =
      by (is_missing (nodes_of log) r) (outside h (length f) r.target) (logged-either lim log (λ κ. refl) _ _ _ _ (limited_either (target-limited less f h log r l) f r.target))
    where
      by : (a b : Bool) {x y : Result Events} {es fs : Events} → OrFull lim log x y es fs
          → OrFull lim log (cond a (cond b x (bad 16 (offset_at f r))) (good log)) (cond a (cond b y (bad 16 (offset_at f r))) (good log)) (cond (a && b) es []) (cond (a && b) fs [])
      by true true w = w
      by true false w = inl (refl, refl)
      by false b w = inl (refl, refl)

  -- ---- rows that are followed

  follow-bad : (to : Limits) (k i n p : ℕ) → (follow k to f h i (bad n p) ≡ bad n p) × (follow_steps k to f h i (bad n p) ≡ [])
  unfolding follow follow_steps
  follow-bad to zero i n p = (refl, refl)
  follow-bad to (suc k) i n p = (refl, refl)

  no_more : (to : Limits) (k i : ℕ) (log : Events) → length (nodes_of log) ≤ i → (follow k to f h i (good log) ≡ good log) × (follow_steps k to f h i (good log) ≡ [])
  unfolding follow follow_steps
  no_more to zero i log l = (refl, refl)
  no_more to (suc k) i log l = rw (le-ltb i (length (nodes_of log)) l) (refl, refl)

  -- results that are the same or ahead stay so when their rows are followed
  module _ (k k' i : ℕ) (log : Events) where
    stays_ahead : (x y : Result Events) {es fs : Events} → Ahead lim log x y es fs
        → Ahead lim log (follow k lim f h i x) (follow k' most f h i y) (es ++ follow_steps k lim f h i x) (fs ++ follow_steps k' most f h i y)
    stays_ahead x y {es} {fs} w =
        let z = follow-bad lim k i no_row_left w.place in
        let none : follow_steps k lim f h i x ≡ [] = ap (follow_steps k lim f h i) w.refuses ∙ z.1 in
        let same : es ++ follow_steps k lim f h i x ≡ es = ap (λ v. es ++ v) none ∙ append-nil es in
        record {
          place = w.place;
          refuses = ap (follow k lim f h i) w.refuses ∙ z.0;
          rest = w.rest ++ follow_steps k' most f h i y;
          goes_on = ap (λ v. v ++ follow_steps k' most f h i y) w.goes_on ∙ append_assoc es w.rest _ ∙ ap (λ v. v ++ (w.rest ++ follow_steps k' most f h i y)) (sym same);
          next = first_on y w.rest w.place w.next w.some;
          some = λ log' e. still y w.rest w.some log' e;
          none_left = subst (λ v. Full lim (log ++ v)) (sym same) w.none_left;
        }
      where
        first_on : (y : Result Events) (rest : Events) (p : ℕ) → FirstAt p rest → ((log' : Events) → y ≡ good log' → rest ≡ [] → ⊥) → FirstAt p
            (rest ++ follow_steps k' most f h i y)
        first_on (good log') [] p a s = absurd (s log' refl refl)
        first_on (bad n q) [] p a s = rw (follow-bad most k' i n q).1 tt
        first_on y (seen κ q ∷ es) p a s = a
        first_on y (passed v q n ∷ es) p a s = a

        still : (y : Result Events) (rest : Events) → ((log' : Events) → y ≡ good log' → rest ≡ [] → ⊥) → (log'' : Events) → follow k' most f h i y ≡
            good log'' → rest ++ follow_steps k' most f h i y ≡ [] → ⊥
        still (good log') [] s log'' e z = s log' refl refl
        still (bad n q) [] s log'' e z = not_good (sym (follow-bad most k' i n q).0 ∙ e)
        still y (v ∷ es) s log'' e z = let n : ◌≡◌ {A = ℕ} 0 1 = cc in absurd (omega arith)

    onward : (x y : Result Events) {es fs : Events} → ((log₁ : Events) → x ≡ good log₁ → log₁ ≡ log ++ es) → OrFull lim log x y es fs
        → ((log₁ : Events) → x ≡ good log₁ → OrFull lim log₁ (follow k lim f h i (good log₁)) (follow k' most f h i (good log₁))
        (follow_steps k lim f h i (good log₁)) (follow_steps k' most f h i (good log₁)))
        → OrFull lim log (follow k lim f h i x) (follow k' most f h i y) (es ++ follow_steps k lim f h i x) (fs ++ follow_steps k' most f h i y)
    onward x y g (inr w) rest = inr (stays_ahead x y w)
    onward (bad n p) y {es} {fs} g (inl w) rest =
        let a = follow-bad lim k i n p in let b = follow-bad most k' i n p in
        subst (λ v. OrFull lim log (follow k lim f h i (bad n p)) (follow k' most f h i v) (es ++ follow_steps k lim f h i (bad n p)) (fs ++ follow_steps k' most f h i v)) w.0
        (inl (a.0 ∙ sym b.0, ap₂ (λ (u v : Events). u ++ v) w.1 (a.1 ∙ sym b.1)))
    onward (good log₁) y {es} {fs} g (inl w) rest =
        subst (λ v. OrFull lim log (follow k lim f h i (good log₁)) (follow k' most f h i v) (es ++ follow_steps k lim f h i (good log₁)) (fs ++ follow_steps k' most f h i v)) w.0
        (subst (λ v. OrFull lim log (follow k lim f h i (good log₁)) (follow k' most f h i (good log₁)) (es ++ follow_steps k lim f h i (good log₁))
        (v ++ follow_steps k' most f h i (good log₁))) w.1
        (behind (rest log₁ refl)))
      where
        behind : {x y : Result Events} {gs hs : Events} → OrFull lim log₁ x y gs hs → OrFull lim log x y (es ++ gs) (es ++ hs)
        behind (inl v) = inl (v.0, ap (λ u. es ++ u) v.1)
        behind {gs = gs} (inr v) = inr (record {
          place = v.place;
          refuses = v.refuses;
          rest = v.rest;
          goes_on = ap (λ u. es ++ u) v.goes_on ∙ sym (append_assoc es gs v.rest);
          next = v.next;
          some = v.some;
          none_left = subst (Full lim) (ap (λ u. u ++ gs) (g log₁ refl) ∙ append_assoc log es gs) v.none_left;
        })

  follow-either : (k k' i : ℕ) (log : Events) → Fits lim log → lim.nodes ≤ i + k → lim.nodes ≤ i + k'
      → OrFull lim log (follow k lim f h i (good log)) (follow k' most f h i (good log)) (follow_steps k lim f h i (good log)) (follow_steps k' most f h i (good log))
  unfolding follow follow_steps
  follow-either zero k' i log l a b = let z = no_more most k' i log (let n = l.0 in omega arith) in inl (sym z.0, sym z.1)
  follow-either (suc k) zero i log l a b = let z = no_more lim (suc k) i log (let n = l.0 in omega arith) in inl (z.0, z.1)
  follow-either (suc k) (suc k') i log l a b =
      by (ltb i (length (nodes_of log)))
      (onward k k' (i + 1) log (follow_row lim f h log r) (follow_row most f h log r) (λ log₁ e. reach_steps_lem lim f h log log₁ r e) (reach_either log r l)
      (λ log₁ e. follow-either k k' (i + 1) log₁ (more-fits less f h log log₁ r l (reached lim f h log r e)) (omega arith) (omega arith)))
    where
      r : Node
      r = node_at (nodes_of log) i

      by : (s : Bool) {x y : Result Events} {es fs : Events} → OrFull lim log x y es fs → OrFull lim log (cond s x (good log)) (cond s y (good log)) (cond s es []) (cond s fs [])
      by true w = w
      by false w = inl (refl, refl)

  tree-either : let m = tree_of lim (length f) h in let o = tree_of most (length f) h in let at = h.extent.start in
      OrFull lim [] (follow lim.nodes lim f h 0 (logged [] (run m f at) (trace m f at))) (follow most.nodes most f h 0 (logged [] (run o f at) (trace o f at)))
      (trace m f at ++ follow_steps lim.nodes lim f h 0 (logged [] (run m f at) (trace m f at)))
      (trace o f at ++ follow_steps most.nodes most f h 0 (logged [] (run o f at) (trace o f at)))
  tree-either =
      let at = h.extent.start in let es = trace (tree_of lim (length f) h) f at in
      onward lim.nodes most.nodes 0 [] _ _ (λ log₁ e. (logged-good [] es _ e).3) (logged-either lim [] no_row _ _ _ _ (limited_either (tree-limited less f h) f at))
      (λ log₁ e. let g = logged-good [] es _ e in follow-either lim.nodes most.nodes 0 log₁
      (subst (Fits lim) (sym g.3) (tree-fits less f h g.2)) (omega arith) (let b = less.nodes in omega arith))

-- ---- the file

-- under `lim` refusal 10, at a place where the reading under `most` goes on
pub record OutOfRows (lim most : Limits) (f : List ℕ) : Type 0 where
  pub place : ℕ
  pub refuses : read_file lim f ≡ refusal no_row_left place
  pub rest : Events
  pub goes_on : steps most f ≡ steps lim f ++ rest
  pub next : FirstAt place rest
  pub none_left : Full lim (steps lim f)

pub to-either : {lim most : Limits} → Less lim most → (f : List ℕ) → ((read_file lim f ≡ read_file most f) × (steps lim f ≡ steps most f)) ⊎ OutOfRows lim most f
unfolding read_file read_tree reading steps tree_steps
to-either {lim} {most} less f = by (run (header (length f)) f 0) refl
  where
    hs : Events
    hs = trace (header (length f)) f 0

    one-file : (o : Out Header) → run (header (length f)) f 0 ≡ o → (read_tree lim f o ≡ read_tree most f o) ×
        (tree_steps lim f o ≡ tree_steps most f o) → (read_file lim f ≡ read_file most f) × (steps lim f ≡ steps most f)
    one-file o e w = rw e (w.0, ap (λ v. hs ++ v) w.1)

    ahead : (h : Header) (q : ℕ) → run (header (length f)) f 0 ≡ ok h q → {x y : Result Events} → read_tree lim f (ok h q) ≡ reading h x → Ahead
        lim [] x y (tree_steps lim f (ok h q)) (tree_steps most f (ok h q)) → OutOfRows lim most f
    ahead h q e is w = record {
      place = w.place;
      refuses = ap (read_tree lim f) e ∙ is ∙ ap (reading h) w.refuses;
      rest = w.rest;
      goes_on = rw e (ap (λ v. hs ++ v) w.goes_on ∙ sym (append_assoc hs _ w.rest));
      next = w.next;
      none_left = rw e (full-on hs _ w.none_left);
    }

    by : (o : Out Header) → run (header (length f)) f 0 ≡ o → ((read_file lim f ≡ read_file most f) × (steps lim f ≡ steps most f)) ⊎ OutOfRows lim most f
    by (refused n p) e = inl (one-file (refused n p) e (refl, refl))
    by (ok h q) e = elim (tree-either less f h) [
      | inl w ↦ inl (one-file (ok h q) e (ap (reading h) w.0, w.1))
      | inr w ↦ inr (ahead h q e refl w)
    ]
