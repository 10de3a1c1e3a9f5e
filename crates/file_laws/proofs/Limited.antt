-- A file under smaller limits: it is accepted just when it is accepted under larger ones with rows that fit, and then it has the same rows.
-- Assumes nothing.
use mathlib.Core.Path.{◌≡◌, refl, sym, ap, ap₂, ◌∙◌, subst}
use mathlib.Core.Bool.{Bool, true, false, cond}
use mathlib.Core.List.{List, [], ◌∷◌, ◌++◌, append-nil, append_assoc}
use Prim.Native.Nat.{ℕ, zero, suc, ◌+◌, ◌-◌, ◌≤◌, ◌<◌}
use native.Mathlib.Omega.{arith}
use borrow.Author.Tests.{ltb-true, ltb-false, lt-ltb, le-ltb}
use lib.Dec.{ltb}
use lib.ListN.{length, length-append}
use Rattle.machine.specs.Machine.{ok, seen, passed, run, trace, rows_of}
use Rattle.cursor.specs.Rows.{node_row, item_row, plain, P, Events}
use Rattle.cursor.specs.declared.Node.{Node}
use Rattle.cursor.specs.declared.Item.{Item}
use Rattle.machine.proofs.Laws.{rows_on}
use Rattle.cursor.proofs.Limited as limited
use Rattle.cursor.proofs.Limited.{Kind, item, Rows, count, makes-then, makes-row, Limited, same, limited_ends, limited_run, fitting-run, after, ends, at_place, places, checks, row-checks, passes, counts}
use Rattle.header.specs.Header.{Header}
use Rattle.metadata.specs.Metadata.{Context}
use Rattle.metadata.specs.declared.Limits.{Limits}
use Rattle.metadata.specs.declared.Made.{Made}
use Rattle.metadata.proofs.Limited.{room, Less, under}
use Rattle.node.specs.Node.{in_tree}
use Rattle.node.specs.declared.Bounds.{Bounds}
use Rattle.node.proofs.Limited.{front-limited}
use Rattle.tree.specs.Tree.{folder, node, tree, detached}
use Rattle.rows.specs.Rows.{node_of, item_of, nodes_of, items_of, node_at}
use Rattle.file.specs.Reading.{Result, good, bad, rows, made_by, logged, detached_at, follow_row, follow, context, reading, read_tree, read_file}
use Rattle.file.proofs.Follow.{tree_of, target, stepped, Reached, known, added, reached, followed, ReadAs, read_back, stops}

-- ---- a node

-- m counts the rows made, which are no more than the limits
abbrev Is : Limits → Made → Rows → Type 0
Is lim m c = (m.nodes ≡ c limited.node) × (m.items ≡ c item) × (c limited.node ≤ lim.nodes) × (c item ≤ lim.items)

module _ {lim most : Limits} (less : Less lim most) (x : Context) where
  folder-limited : (end : ℕ) {c : Rows} {m o : P Made} → Limited (room lim) (Is lim) c m o → Limited (room lim) (Is lim) c (folder end m) (folder end o)
  unfolding folder
  folder-limited end w = after w λ m d i. places λ q. checks _ _ _ (ends i)

  node-limited : (d parent : ℕ) (s : Bounds) (m : Made) (c : Rows) → Is lim m c → Limited (room lim) (Is lim) c
      (node d (under x lim) parent s m) (node d (under x most) parent s m)
  unfolding node
  node-limited zero parent s m c i = at_place λ p. same
  node-limited (suc d) parent s m c i =
      row-checks limited.node m.nodes most.nodes i.0 less.nodes (λ p. makes-then _ λ w. makes-row _ _ _ tt) λ left p.
      after (front-limited less x parent (16 - d) s m c (refl, omega arith, omega arith, omega arith)) λ w e j. passes _ _
      (folder-limited _ (counts (Is lim) w.row.contained _ (λ t g k. node-limited d m.nodes (in_tree 0 (p + w.row.size)) t g k)
      (omega arith, omega arith, omega arith, omega arith)))

-- ---- rows of a log

pub count-nodes : (es : Events) → count es limited.node ≡ length (nodes_of es)
unfolding rows_of
count-nodes [] = refl
count-nodes (seen κ p ∷ es) = count-nodes es
count-nodes (passed (node_row r) p n ∷ es) = let e = count-nodes es in omega arith
count-nodes (passed (item_row r) p n ∷ es) = count-nodes es
count-nodes (passed (plain x) p n ∷ es) = count-nodes es

pub count-items : (es : Events) → count es item ≡ length (items_of es)
unfolding rows_of
count-items [] = refl
count-items (seen κ p ∷ es) = count-items es
count-items (passed (node_row r) p n ∷ es) = count-items es
count-items (passed (item_row r) p n ∷ es) = let e = count-items es in omega arith
count-items (passed (plain x) p n ∷ es) = count-items es

pub nodes-on : (log es : Events) → length (nodes_of (log ++ es)) ≡ length (nodes_of log) + length (nodes_of es)
nodes-on log es = ap length (rows_on node_of log es) ∙ length-append (nodes_of log) (nodes_of es)

pub items-on : (log es : Events) → length (items_of (log ++ es)) ≡ length (items_of log) + length (items_of es)
items-on log es = ap length (rows_on item_of log es) ∙ length-append (items_of log) (items_of es)

abbrev pub Fits : Limits → Events → Type 0
Fits lim log = (length (nodes_of log) ≤ lim.nodes) × (length (items_of log) ≤ lim.items)

fits-before : {lim : Limits} (log es : Events) → Fits lim (log ++ es) → Fits lim log
fits-before log es h = let a = nodes-on log es in let b = items-on log es in (omega arith, omega arith)

abbrev pub rows_in : Events → Rows
rows_in log limited.node = length (nodes_of log)
rows_in log item = length (items_of log)

-- ---- the rows that are followed, under one limit and under another: an accepted step of the one is one of the other, where the log fits

same_good : {a b : Events} → good a ≡ good b → a ≡ b
same_good e = cc

not_good : {A : Type 0} {n p : ℕ} {log : Events} → bad n p ≡ good log → A
not_good e = let z : ◌≡◌ {A = ℕ} 0 1 = cc in absurd (omega arith)

-- what was followed is behind the log
grown : (lim : Limits) (f : List ℕ) (h : Header) (k i : ℕ) (log : Events) {log' : Events} → follow k lim f h i (good log) ≡ good log' → (es : Events) × (log' ≡ log ++ es)
grown lim f h k i log e =
    (followed lim f h (λ j l. (es : Events) × (l ≡ log ++ es)) (λ j l l' s t r. step l l' s r) k i (good log) (λ l q. ([], sym (same_good q) ∙ sym (append-nil log))) e).1
  where
    step : (l l' : Events) {r : Node} → ((es : Events) × (l ≡ log ++ es)) → Reached lim f h l r l' → (es : Events) × (l' ≡ log ++ es)
    step l l' s (known x y) = (s.0, y ∙ s.1)
    step l l' {r} s (added t y) = (s.0 ++ trace (target lim f h l r) f r.target, y ∙ ap (λ v. v ++ trace (target lim f h l r) f r.target) s.1 ∙ append_assoc log s.0 _)

module _ (from to lim : Limits) (f : List ℕ) (h : Header)
    (runs-too : (log : Events) (r : Node) (m : Made) (p : ℕ) → run (target from f h log r) f r.target ≡ ok m p → Fits lim (stepped from f h log r)
    → (run (target to f h log r) f r.target ≡ ok m p) × (trace (target to f h log r) f r.target ≡ trace (target from f h log r) f r.target)) where
  reach_as : (log log' : Events) (r : Node) → Reached from f h log r log' → Fits lim log' → follow_row to f h log r ≡ good log'
  unfolding follow_row logged
  reach_as log log' r (known x y) l = rw x (ap good (sym y))
  reach_as log log' r (added s y) l =
      let (a, b) = runs-too log r s.made s.after s.runs (subst (Fits lim) y l) in
      rw (s.is_lost, s.is-outside, a) (ap good (ap (λ v. log ++ v) b ∙ sym y))

  stays : (k i : ℕ) (log : Events) → length (nodes_of log) ≤ i → follow k to f h i (good log) ≡ good log
  unfolding follow
  stays zero i log l = refl
  stays (suc k) i log l = rw (le-ltb i (length (nodes_of log)) l)

  turn : (j i : ℕ) (log : Events) {log' : Events} → i < length (nodes_of log) → follow j to f h (i + 1)
      (follow_row to f h log (node_at (nodes_of log) i)) ≡ good log' → follow (suc j) to f h i (good log) ≡ good log'
  unfolding follow
  turn j i log t z = rw (lt-ltb i (length (nodes_of log)) t) z

  follow-as : (k k' i : ℕ) (log : Events) {log' : Events} → follow k from f h i (good log) ≡ good log' → Fits lim log' → length (nodes_of log')
      ≤ i + k → length (nodes_of log') ≤ i + k'
      → follow k' to f h i (good log) ≡ good log'
  unfolding follow
  follow-as zero k' i log e l a b = let z = same_good e in stays k' i log (subst (λ v. length (nodes_of v) ≤ i) (sym z) (omega arith)) ∙ ap good z
  follow-as (suc k) k' i log {log'} e l a b =
      let (es, g) = grown from f h (suc k) i log e in let n = nodes-on log es in
      let longer : length (nodes_of log) ≤ length (nodes_of log') = rw g (omega arith) in
      by k' (ltb i (length (nodes_of log))) refl longer b e (λ log₁ z j c. follow-as k j (i + 1) log₁ z l (omega arith) c)
    where
      next : (o : Result Events) → follow_row from f h log (node_at (nodes_of log) i) ≡ o → follow k from f h (i + 1) o ≡ good log' → (j : ℕ)
          → ((log₁ : Events) → follow k from f h (i + 1) (good log₁) ≡ good log' → follow j to f h (i + 1) (good log₁) ≡ good log')
          → follow j to f h (i + 1) (follow_row to f h log (node_at (nodes_of log) i)) ≡ good log'
      next (bad n p) x z j rest = absurd (stops from f k (i + 1) h n p z)
      next (good log₁) x z j rest =
          let (es, g) = grown from f h k (i + 1) log₁ z in
          let w = reach_as log log₁ (node_at (nodes_of log) i) (reached from f h log _ x) (fits-before log₁ es (subst (Fits lim) g l)) in
          ap (follow j to f h (i + 1)) w ∙ rest log₁ z

      by : (k' : ℕ) (s : Bool) → ltb i (length (nodes_of log)) ≡ s → length (nodes_of log) ≤ length (nodes_of log') → length (nodes_of log') ≤ i + k'
          → (cond s (follow k from f h (i + 1) (follow_row from f h log (node_at (nodes_of log) i))) (good log)) ≡ good log'
          → ((log₁ : Events) → follow k from f h (i + 1) (good log₁) ≡ good log' → (j : ℕ) → length (nodes_of log') ≤ i + 1 + j → follow j to f h (i + 1) (good log₁) ≡ good log')
          → follow k' to f h i (good log) ≡ good log'
      by zero true t g c z rest = let y = ltb-true i (length (nodes_of log)) t in absurd (omega arith)
      by (suc j) true t g c z rest = turn j i log (ltb-true i (length (nodes_of log)) t)
          (next (follow_row from f h log (node_at (nodes_of log) i)) refl z j (λ log₁ y. rest log₁ y j (omega arith)))
      by zero false t g c z rest = let y = same_good z in stays zero i log (ltb-false i (length (nodes_of log)) t) ∙ ap good y
      by (suc j) false t g c z rest = let y = same_good z in stays (suc j) i log (ltb-false i (length (nodes_of log)) t) ∙ ap good y

-- ---- the parts of a file under both limits

module _ {lim most : Limits} (less : Less lim most) (f : List ℕ) (h : Header) where
  abbrev none : Rows
  none κ = 0

  pub tree-limited : Limited (room lim) (Is lim) none (tree_of lim (length f) h) (tree_of most (length f) h)
  unfolding tree
  tree-limited = node-limited less (context most h (length f)) 16 0 (in_tree (h.extent.last + 1) (h.extent.last + 1))
      (record { nodes = 0; items = 0 }) none (refl, refl, omega arith, omega arith)

  pub target-limited : (log : Events) (r : Node) → Fits lim log → Limited (room lim) (Is lim) (rows_in log) (target lim f h log r) (target most f h log r)
  unfolding detached_at detached
  target-limited log r l = node-limited less (context most h (length f)) 17 _ _ (made_by log) (rows_in log) (refl, refl, l.0, l.1)

  -- ---- under smaller limits as under larger

  pub tree-fits : {m : Made} {p : ℕ} → run (tree_of lim (length f) h) f h.extent.start ≡ ok m p → Fits lim (trace (tree_of lim (length f) h) f h.extent.start)
  tree-fits e =
      let es = trace (tree_of lim (length f) h) f h.extent.start in
      let (d, q, z) = limited_ends tree-limited f h.extent.start e in
      let a = z limited.node in let b = z item in let x = count-nodes es in let y = count-items es in (omega arith, omega arith)

  pub more-fits : (log log' : Events) (r : Node) → Fits lim log → Reached lim f h log r log' → Fits lim log'
  more-fits log log' r l (known x y) = rw y l
  more-fits log log' r l (added s y) =
      let es = trace (target lim f h log r) f r.target in
      let (d, q, z) = limited_ends (target-limited log r l) f r.target s.runs in
      let a = z limited.node in let b = z item in let u = count-nodes es in let v = count-items es in
      let n = nodes-on log es in let i = items-on log es in
      rw y (omega arith, omega arith)

  wider : (log : Events) (r : Node) {m : Made} {p : ℕ} → run (target lim f h log r) f r.target ≡ ok m p → Fits lim (stepped lim f h log r)
      → (run (target most f h log r) f r.target ≡ ok m p) × (trace (target most f h log r) f r.target ≡ trace (target lim f h log r) f r.target)
  wider log r e l = limited_run (target-limited log r (fits-before log _ l)) f r.target e

  narrower : (log : Events) (r : Node) {m : Made} {p : ℕ} → run (target most f h log r) f r.target ≡ ok m p → Fits lim (stepped most f h log r)
      → (run (target lim f h log r) f r.target ≡ ok m p) × (trace (target lim f h log r) f r.target ≡ trace (target most f h log r) f r.target)
  narrower log r e l = fitting-run (target-limited log r (fits-before log _ l)) f r.target e (both log (trace (target most f h log r) f r.target) l)
    where
      both : (log es : Events) → Fits lim (log ++ es) → (κ : Kind) → rows_in log κ + count es κ ≤ room lim κ
      both log es l limited.node = let a = nodes-on log es in let b = count-nodes es in omega arith
      both log es l item = let a = items-on log es in let b = count-items es in omega arith

-- limits are not greater than themselves
pub no_less : (lim : Limits) → Less lim lim
no_less lim = record { nodes = omega arith; items = omega arith }

-- ---- the whole file

-- a file that reads so
reads_as : (lim : Limits) (f : List ℕ) {h : Header} {ns : List Node} {is : List Item} → ReadAs lim f h ns is → read_file lim f ≡ rows h ns is
unfolding read_file read_tree logged reading
reads_as lim f {h} a = rw (a.header_is, a.tree_is, a.follows) (ap₂ (rows h) a.nodes-are a.items-are)

module _ {lim most : Limits} (less : Less lim most) (f : List ℕ) {h : Header} {ns : List Node} {is : List Item} where
  pub to-wider : read_file lim f ≡ rows h ns is → (read_file most f ≡ rows h ns is) × (length ns ≤ lim.nodes) × (length is ≤ lim.items)
  to-wider e =
      let a = read_back lim f e in
      let (r, t) = limited_run (tree-limited less f h) f h.extent.start a.tree_is in
      let w = followed lim f h (λ i. Fits lim) (λ i log log' s l. more-fits less f h log log' _ s) lim.nodes 0 _
      (λ log q. subst (Fits lim) (same_good q) (tree-fits less f h a.tree_is)) a.follows in
      let l = w.1 in
      let n = ap length a.nodes-are in let i = ap length a.items-are in
      let x = follow-as lim most lim f h (λ log r m p. wider less f h log r) lim.nodes most.nodes 0 _ a.follows l (omega arith) (let b = less.nodes in omega arith) in (
        reads_as most f (record {
          next = a.next;
          header_is = a.header_is;
          made = a.made;
          after = a.after;
          tree_is = r;
          log = a.log;
          follows =
              rw t x;
          nodes-are = a.nodes-are;
          items-are = a.items-are;
        }),
        omega arith,
        omega arith,
      )

  pub to-narrower : read_file most f ≡ rows h ns is → length ns ≤ lim.nodes → length is ≤ lim.items → read_file lim f ≡ rows h ns is
  to-narrower e x y =
      let a = read_back most f e in
      let n = ap length a.nodes-are in let i = ap length a.items-are in
      let l : Fits lim a.log = (omega arith, omega arith) in
      let es = trace (tree_of most (length f) h) f h.extent.start in
      let (fs, g) = grown most f h most.nodes 0 es a.follows in
      let l₀ = fits-before es fs (subst (Fits lim) g l) in
      let (r, t) = fitting-run (tree-limited less f h) f h.extent.start a.tree_is (both es l₀) in
      let z = follow-as most lim lim f h (λ log r m p. narrower less f h log r) most.nodes lim.nodes 0 es a.follows l (let b = less.nodes in omega arith) (omega arith) in
      reads_as lim f (record {
        next = a.next;
        header_is = a.header_is;
        made = a.made;
        after = a.after;
        tree_is = r;
        log = a.log;
        follows = rw
            t z;
        nodes-are = a.nodes-are;
        items-are = a.items-are;
      })
    where
      both : (es : Events) → Fits lim es → (κ : Kind) → 0 + count es κ ≤ room lim κ
      both es l limited.node = let b = count-nodes es in omega arith
      both es l item = let b = count-items es in omega arith
