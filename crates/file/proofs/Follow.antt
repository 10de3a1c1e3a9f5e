-- An accepted file was read in parts: the header, the tree, then detached nodes one at a time. What holds of the tree's log, and of a log with one more node
-- behind it if it held before, holds of the whole.
-- Assumes nothing.
use mathlib.Core.Path.{◌≡◌, refl, sym, subst}
use mathlib.Core.Bool.{Bool, true, false, cond}
use mathlib.Core.Logic.{◌⊎◌, inl, inr}
use mathlib.Core.List.{List, [], ◌++◌}
use Prim.Native.Nat.{ℕ, zero, suc, ◌+◌, ◌≤◌, ◌<◌}
use native.Mathlib.Omega.{arith}
use lib.Dec.{ltb}
use lib.ListN.{length}
use borrow.Author.Tests.{ltb-true, ltb-false}
use Rattle.machine.specs.Machine.{Out, ok, refused, run, trace}
use Rattle.cursor.specs.Rows.{P, Events}
use Rattle.cursor.specs.declared.Node.{Node}
use Rattle.cursor.specs.declared.Item.{Item}
use Rattle.header.specs.Header.{Header, header}
use Rattle.metadata.specs.declared.Limits.{Limits}
use Rattle.metadata.specs.declared.Made.{Made}
use Rattle.tree.specs.Tree.{tree}
use Rattle.rows.specs.Rows.{nodes_of, items_of, node_at}
use Rattle.file.specs.Reading.{Result, good, bad, rows, refusal, logged, detached_at, follow_row, follow, context, log_from, reading, read_tree, read_file}
use Rattle.targets.specs.Targets.{is_missing, offset_at, outside}

no : {A B : Type 0} {n p : ℕ} {a : A} → bad n p ≡ good a → B
no e = let z : ◌≡◌ {A = ℕ} 0 1 = cc in absurd (omega arith)

pub never : {n p : ℕ} {h : Header} {ns : List Node} {is : List Item} {B : Type 0} → refusal n p ≡ rows h ns is → B
never e = let z : ◌≡◌ {A = ℕ} 0 1 = cc in absurd (omega arith)

-- ---- a row that was followed: nothing new, or one more node behind the log

module _ (lim : Limits) (f : List ℕ) (h : Header) where
  -- the node that row r leads to
  abbrev pub target : Events → Node → P Made
  target log r = detached_at lim h (length f) log r.target (offset_at f r)

  pub record Step (log : Events) (r : Node) : Type 0 where
    pub made : Made
    pub after : ℕ
    pub is_lost : is_missing (nodes_of log) r ≡ true
    pub is-outside : outside h (length f) r.target ≡ true
    pub runs : run (target log r) f r.target ≡ ok made after

  abbrev pub stepped : Events → Node → Events
  stepped log r = log ++ trace (target log r) f r.target

  logged-good : (log es : Events) (o : Out Made) {log' : Events} → logged log o es ≡ good log' → (m : Made) × (p : ℕ) × (o ≡ ok m p) × (log' ≡ log ++ es)
  unfolding logged
  logged-good log es (ok m p) {log'} e = (m, p, refl, sym (same e))
    where
      same : {a b : Events} → good a ≡ good b → a ≡ b
      same x = cc
  logged-good log es (refused n p) e = no e

  pub data Reached (log : Events) (r : Node) (log' : Events) : Type 0 where
    known : is_missing (nodes_of log) r ≡ false → log' ≡ log → Reached log r log'
    added : Step log r → log' ≡ stepped log r → Reached log r log'

  pub reached : (log : Events) (r : Node) {log' : Events} → follow_row lim f h log r ≡ good log' → Reached log r log'
  unfolding follow_row
  reached log r {log'} e = by (is_missing (nodes_of log) r) (outside h (length f) r.target) refl refl e
    where
      by : (b c : Bool) → is_missing (nodes_of log) r ≡ b → outside h (length f) r.target ≡ c
          → (cond b (cond c (logged log (run (target log r) f r.target) (trace (target log r) f r.target)) (bad 16 (offset_at f r))) (good log))
          ≡ good log' → Reached log r log'
      by true true x y z =
          let w = logged-good log (trace (target log r) f r.target) (run (target log r) f r.target) z in
          added (record { made = w.0; after = w.1; is_lost = x; is-outside = y; runs = w.2 }) w.3
      by true false x y z = no z
      by false true x y z = known x cc
      by false false x y z = known x cc

  -- ---- all rows

  -- I holds of the log when row i is next; so it does in the end, when no row is left or no turn
  pub followed : (I : ℕ → Events → Type 0)
      → ((i : ℕ) (log log' : Events) → I i log → i < length (nodes_of log) → Reached log (node_at (nodes_of log) i) log' → I (i + 1) log')
      → (k i : ℕ) (o : Result Events) {log' : Events} → ((log : Events) → o ≡ good log → I i log) → follow k lim f h i o ≡ good log'
      → (j : ℕ) × I j log' × ((length (nodes_of log') ≤ j) ⊎ (j ≡ i + k))
  unfolding follow
  followed I step zero i o {log'} base e = (i, base log' e, inr (omega arith))
  followed I step (suc k) i (bad n p) base e = no e
  followed I step (suc k) i (good log) {log'} base e =
      by (ltb i (length (nodes_of log))) refl
      (λ t. followed I step k (i + 1) (follow_row lim f h log (node_at (nodes_of log) i))
      (λ log₁ q. step i log log₁ (base log refl) (ltb-true _ _ t) (reached log _ q))) e
    where
      by : (b : Bool) → ltb i (length (nodes_of log)) ≡ b
          → (ltb i (length (nodes_of log)) ≡ true → follow k lim f h (i + 1) (follow_row lim f h log (node_at (nodes_of log) i)) ≡ good log' → (j : ℕ) × I j
          log' × ((length (nodes_of log') ≤ j) ⊎ (j ≡ i + 1 + k)))
          → (cond b (follow k lim f h (i + 1) (follow_row lim f h log (node_at (nodes_of log) i))) (good log)) ≡ good log'
          → (j : ℕ) × I j log' × ((length (nodes_of log') ≤ j) ⊎ (j ≡ i + suc k))
      by true t rest z = let w = rest t z in (w.0, w.1, elim w.2 [ inl l ↦ inl l | inr l ↦ inr (omega arith) ])
      by false t rest z = let q : log ≡ log' = cc in (i, subst (I i) q (base log refl), inl (subst (λ v. length (nodes_of v) ≤ i) q (ltb-false _ _ t)))

-- ---- a file that was read

-- the tree's program, where the header is h
abbrev pub tree_of : Limits → ℕ → Header → P Made
tree_of lim size h = tree (context lim h size) (h.extent.last + 1)

pub record ReadAs (lim : Limits) (f : List ℕ) (h : Header) (ns : List Node) (is : List Item) : Type 0 where
  pub next : ℕ
  pub header_is : run (header (length f)) f 0 ≡ ok h next
  pub made : Made
  pub after : ℕ
  pub tree_is : run (tree_of lim (length f) h) f h.extent.start ≡ ok made after
  pub log : Events
  pub follows : follow lim.nodes lim f h 0 (good (trace (tree_of lim (length f) h) f h.extent.start)) ≡ good log
  pub nodes-are : nodes_of log ≡ ns
  pub items-are : items_of log ≡ is

pub stops : (lim : Limits) (f : List ℕ) (k i : ℕ) (g : Header) (n p : ℕ) {log : Events} → follow k lim f g i (bad n p) ≡ good log → ⊥
unfolding follow
stops lim f zero i g n p e = no e
stops lim f (suc k) i g n p e = no e

module _ (lim : Limits) (f : List ℕ) {h : Header} {ns : List Node} {is : List Item} where
  of_log : (g : Header) (o : Result Events) → reading g o ≡ rows h ns is → (log : Events) × (o ≡ good log) × (g ≡ h) × (nodes_of log ≡ ns) × (items_of log ≡ is)
  unfolding reading
  of_log g (good log) e = (log, refl, cc, cc, cc)
  of_log g (bad n p) e = never e

  of_tree : (g : Header) (q : ℕ) → run (header (length f)) f 0 ≡ ok g q → (o : Out Made) → run (tree_of lim (length f) g) f g.extent.start ≡ o
      → reading g (follow lim.nodes lim f g 0 (logged [] o (trace (tree_of lim (length f) g) f g.extent.start))) ≡ rows h ns is → ReadAs lim f h ns is
  unfolding logged
  of_tree g q a (ok m p) b e =
      let w = of_log g _ e in
      subst (λ v. ReadAs lim f v ns is) w.2
      (record { next = q; header_is = a; made = m; after = p; tree_is = b; log = w.0; follows = w.1; nodes-are = w.3; items-are = w.4 })
  of_tree g q a (refused n p) b e = absurd (stops lim f lim.nodes 0 g n p (of_log g _ e).1)

  of_header_lem : (o : Out Header) → run (header (length f)) f 0 ≡ o → read_tree lim f o ≡ rows h ns is → ReadAs lim f h ns is
  unfolding read_tree
  of_header_lem (ok g q) a e = of_tree g q a (run (tree_of lim (length f) g) f g.extent.start) refl e
  of_header_lem (refused n p) a e = never e

  pub read_back : read_file lim f ≡ rows h ns is → ReadAs lim f h ns is
  unfolding read_file
  read_back e = of_header_lem (run (header (length f)) f 0) refl e

-- the log that its rows were taken off
pub log_is : {lim : Limits} {f : List ℕ} {h : Header} {ns : List Node} {is : List Item} (a : ReadAs lim f h ns is) → log_from lim f h ≡ good a.log
unfolding logged
log_is a = rw a.tree_is a.follows
