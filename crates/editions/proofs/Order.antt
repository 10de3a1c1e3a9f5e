-- The order of lines in the two editions: moving there and back returns the same lines. Lines are known here by their kind alone.
-- Assumes nothing.
use mathlib.Core.Path.{◌≡◌, refl, sym, ap, ap₂, ◌∙◌}
use mathlib.Core.Logic.{◌⊎◌, inl, inr}
use mathlib.Core.Bool.{true, false, cond}
use mathlib.Core.List.{List, [], ◌∷◌, ◌++◌, append-nil}
use Prim.{Unit, tt}
use Prim.Native.Nat.{ℕ, ◌+◌, ◌-◌, ◌≤◌, ◌<◌}
use native.Mathlib.Decide.{ℕ_discrete}
use native.Mathlib.Omega.{arith}
use borrow.Author.Tests.{eq-eqb, ne_eqb}
use Rattle.editions.specs.Sheets.{Lines, Kind, node, item, other, kind, picked, is_of, nodes_of, items_of, items_at, named, spread, reordered}
use Rattle.editions.specs.Reads.{run_of, past_run, walk}

-- ---- what the two editions are

-- node lines of the rows from n up to n'
abbrev pub Rows : ℕ → Lines → ℕ → Type 0
Rows n [] n' = n ≡ n'
Rows n (l ∷ ls) n' = (kind l ≡ node n) × Rows (n + 1) ls n'

-- item lines of nodes from `low` on and below `high`, which do not go back
abbrev pub Items : ℕ → ℕ → Lines → Type 0
Items low high [] = Unit {0}
Items low high (l ∷ ls) = (k : ℕ) × (kind l ≡ item k) × (low ≤ k) × (k < high) × Items k high ls

-- each node line with its items, after n node lines
abbrev pub Groups : ℕ → Lines → ℕ → Type 0
Groups n [] n' = n ≡ n'
Groups n (l ∷ ls) n' = ((kind l ≡ node n) × Groups (n + 1) ls n') ⊎ ((k : ℕ) × (kind l ≡ item k) × (k + 1 ≡ n) × Groups n ls n')

-- ---- one line

module _ (l : List ℕ) {k : ℕ} (ls : Lines) (e : kind l ≡ node k) where
  pub nodes-node : nodes_of (l ∷ ls) ≡ l ∷ nodes_of ls
  unfolding picked
  nodes-node = rw e

  pub items-node : items_of (l ∷ ls) ≡ items_of ls
  unfolding picked
  items-node = rw e

  at_node : (n : ℕ) → items_at n (l ∷ ls) ≡ items_at n ls
  unfolding picked
  at_node n = rw e

  spread-on : (all : Lines) → spread (l ∷ ls) all ≡ l ∷ items_at k all ++ spread ls all
  unfolding spread
  spread-on all = rw e

module _ (l : List ℕ) {k : ℕ} (ls : Lines) (e : kind l ≡ item k) where
  nodes-item : nodes_of (l ∷ ls) ≡ nodes_of ls
  unfolding picked
  nodes-item = rw e

  pub items-item : items_of (l ∷ ls) ≡ l ∷ items_of ls
  unfolding picked
  items-item = rw e

  at_same : items_at k (l ∷ ls) ≡ l ∷ items_at k ls
  unfolding picked
  at_same = rw e (rw (eq-eqb k k refl) refl)

  at_other : (n : ℕ) → (k ≡ n → ⊥) → items_at n (l ∷ ls) ≡ items_at n ls
  unfolding picked
  at_other n d = rw e (rw (ne_eqb k n d) refl)

-- ---- lists of node lines, of item lines

rows-nodes : (n : ℕ) (ns : Lines) (n' : ℕ) → Rows n ns n' → (ms : Lines) → nodes_of (ns ++ ms) ≡ ns ++ nodes_of ms
rows-nodes n [] n' r ms = refl
rows-nodes n (l ∷ ns) n' (e, r) ms = nodes-node l (ns ++ ms) e ∙ ap (λ (v : Lines). l ∷ v) (rows-nodes (n + 1) ns n' r ms)

rows-items : (n : ℕ) (ns : Lines) (n' : ℕ) → Rows n ns n' → (ms : Lines) → items_of (ns ++ ms) ≡ items_of ms
rows-items n [] n' r ms = refl
rows-items n (l ∷ ns) n' (e, r) ms = items-node l (ns ++ ms) e ∙ rows-items (n + 1) ns n' r ms

rows_at : (n : ℕ) (ns : Lines) (n' : ℕ) → Rows n ns n' → (ms : Lines) (i : ℕ) → items_at i (ns ++ ms) ≡ items_at i ms
rows_at n [] n' r ms i = refl
rows_at n (l ∷ ns) n' (e, r) ms i = at_node l (ns ++ ms) e i ∙ rows_at (n + 1) ns n' r ms i

pub items-nodes : (low high : ℕ) (ms : Lines) → Items low high ms → (rest : Lines) → nodes_of (ms ++ rest) ≡ nodes_of rest
items-nodes low high [] i rest = refl
items-nodes low high (l ∷ ms) (k, e, a, b, i) rest = nodes-item l (ms ++ rest) e ∙ items-nodes k high ms i rest

pub items-items : (low high : ℕ) (ms : Lines) → Items low high ms → (rest : Lines) → items_of (ms ++ rest) ≡ ms ++ items_of rest
items-items low high [] i rest = refl
items-items low high (l ∷ ms) (k, e, a, b, i) rest = items-item l (ms ++ rest) e ∙ ap (λ (v : Lines). l ∷ v) (items-items k high ms i rest)

pub none-nodes : nodes_of [] ≡ []
unfolding picked
none-nodes = refl

pub none-items : items_of [] ≡ []
unfolding picked
none-items = refl

none-at : (i : ℕ) → items_at i [] ≡ []
unfolding picked
none-at i = refl

none-spread : (all : Lines) → spread [] all ≡ []
unfolding spread
none-spread all = refl

-- a node before all of them has none
items-none : (low high : ℕ) (ms : Lines) → Items low high ms → (i : ℕ) → i < low → items_at i ms ≡ []
items-none low high [] m i l = none-at i
items-none low high (x ∷ ms) (k, e, a, b, m) i l = at_other x ms e i (λ d. omega arith) ∙ items-none k high ms m i (omega arith)

-- `spread` asks of all lines only for the items of each node
pub spread_same : (ns a b : Lines) → ((i : ℕ) → items_at i a ≡ items_at i b) → spread ns a ≡ spread ns b
unfolding spread
spread_same [] a b h = refl
spread_same (l ∷ ns) a b h = ap₂ (λ (v w : Lines). l ∷ v ++ w) (h (named (kind l))) (spread_same ns a b h)

-- an item line of a node before these rows changes nothing
spread-past : (n : ℕ) (ns : Lines) (n' : ℕ) → Rows n ns n' → (l : List ℕ) {k : ℕ} → kind l ≡ item k → k < n → (all : Lines) → spread ns (l ∷ all) ≡ spread ns all
spread-past n [] n' r l e b all = none-spread (l ∷ all) ∙ sym (none-spread all)
spread-past n (x ∷ ns) n' (f, r) l {k} e b all =
    spread-on x ns f (l ∷ all)
    ∙ ap₂ (λ (v w : Lines). x ∷ v ++ w) (at_other l all e n (λ d. omega arith)) (spread-past (n + 1) ns n' r l e (omega arith) all)
    ∙ sym (spread-on x ns f all)

-- the items of one node, as lines of their own
at_step : (i n : ℕ) → i < n → (l : List ℕ) (rest : Lines) → Items i n rest → (k : Kind) → kind l ≡ k → Items i n (cond (is_of i k) (l ∷ rest) rest)
at_step i n b l rest r (node k) e = r
at_step i n b l rest r (item k) e = elim (ℕ_discrete k i) [
  | yes d ↦ rw (eq-eqb k i d) (i, e ∙ ap item d, omega arith, b, r)
  | no d ↦ rw (ne_eqb k i d) r
]
at_step i n b l rest r other e = r

at_items : (i n : ℕ) → i < n → (all : Lines) → Items i n (items_at i all)
unfolding picked
at_items i n b [] = tt
at_items i n b (l ∷ all) = at_step i n b l (items_at i all) (at_items i n b all) (kind l) refl

-- ---- from the first edition to the second

-- the items of each row in turn
gather : ℕ → Lines → Lines → Lines
gather n [] all = []
gather n (l ∷ ns) all = items_at n all ++ gather (n + 1) ns all

spread-nodes : (n : ℕ) (ns : Lines) (n' : ℕ) → Rows n ns n' → (all : Lines) → nodes_of (spread ns all) ≡ ns
spread-nodes n [] n' r all = ap nodes_of (none-spread all) ∙ none-nodes
spread-nodes n (l ∷ ns) n' (e, r) all =
    ap nodes_of (spread-on l ns e all)
    ∙ nodes-node l (items_at n all ++ spread ns all) e
    ∙ ap (λ (v : Lines). l ∷ v) (items-nodes n (n + 1) (items_at n all) (at_items n (n + 1) (omega arith) all) (spread ns all) ∙ spread-nodes (n + 1) ns n' r all)

spread-items : (n : ℕ) (ns : Lines) (n' : ℕ) → Rows n ns n' → (all : Lines) → items_of (spread ns all) ≡ gather n ns all
unfolding gather
spread-items n [] n' r all = ap items_of (none-spread all) ∙ none-items
spread-items n (l ∷ ns) n' (e, r) all =
    ap items_of (spread-on l ns e all)
    ∙ items-node l (items_at n all ++ spread ns all) e
    ∙ items-items n (n + 1) (items_at n all) (at_items n (n + 1) (omega arith) all) (spread ns all)
    ∙ ap (λ (v : Lines). items_at n all ++ v) (spread-items (n + 1) ns n' r all)

gather_none : (n : ℕ) (ns : Lines) → gather n ns [] ≡ []
unfolding gather
gather_none n [] = refl
gather_none n (l ∷ ns) = rw none-at (gather_none (n + 1) ns)

gather_past : (n : ℕ) (ns : Lines) (l : List ℕ) {k : ℕ} → kind l ≡ item k → k < n → (ms : Lines) → gather n ns (l ∷ ms) ≡ gather n ns ms
unfolding gather
gather_past n [] l e b ms = refl
gather_past n (x ∷ ns) l {k} e b ms = ap₂ (λ (v w : Lines). v ++ w) (at_other l ms e n (λ d. omega arith)) (gather_past (n + 1) ns l e (omega arith) ms)

-- the first of them goes first
gather_first : (n : ℕ) (ns : Lines) (n' : ℕ) → Rows n ns n' → (l : List ℕ) (k : ℕ) → kind l ≡ item k → n ≤ k → k < n' → (ms : Lines) → Items
    k n' ms → gather n ns (l ∷ ms) ≡ l ∷ gather n ns ms
unfolding gather
gather_first n [] n' r l k e a b ms m = absurd (omega arith)
gather_first n (x ∷ ns) n' (f, r) l k e a b ms m = elim (ℕ_discrete k n) [
  | yes d ↦
      let e' : kind l ≡ item n = e ∙ ap item d in
      ap₂ (λ (v w : Lines). v ++ w) (at_same l ms e') (gather_past (n + 1) ns l e (omega arith) ms)
  | no d ↦
      let z : items_at n ms ≡ [] = items-none k n' ms m n (omega arith) in
      ap₂ (λ (v w : Lines). v ++ w) (at_other l ms e n d ∙ z) (gather_first (n + 1) ns n' r l k e (omega arith) b ms m)
      ∙ ap (λ (v : Lines). l ∷ v ++ gather (n + 1) ns ms) (sym z)
]

gather_all : (n : ℕ) (ns : Lines) (n' : ℕ) → Rows n ns n' → (low : ℕ) → n ≤ low → (ms : Lines) → Items low n' ms → gather n ns ms ≡ ms
gather_all n ns n' r low a [] m = gather_none n ns
gather_all n ns n' r low a (l ∷ ms) (k, e, b, d, m) = gather_first n ns n' r l k e (omega arith) d ms m ∙ ap (λ (v : Lines). l ∷ v) (gather_all n ns n' r k (omega arith) ms m)

-- item lines of the last node, and what follows them
pub groups-items : (i n' : ℕ) (ms rest : Lines) → (low : ℕ) → i ≤ low → Items low (i + 1) ms → Groups (i + 1) rest n' → Groups (i + 1) (ms ++ rest) n'
groups-items i n' [] rest low a m g = g
groups-items i n' (l ∷ ms) rest low a (k, e, b, d, m) g = inr (k, e, omega arith, groups-items i n' ms rest k (omega arith) m g)

spread-groups : (n : ℕ) (ns : Lines) (n' : ℕ) → Rows n ns n' → (all : Lines) → Groups n (spread ns all) n'
spread-groups n [] n' r all = rw none-spread r
spread-groups n (l ∷ ns) n' (e, r) all = rw (spread-on l ns e all)
    (inl (
      e,
      groups-items n n' (items_at n all) (spread ns all) n (omega arith) (at_items n (n + 1) (omega arith) all)
          (spread-groups (n + 1) ns n' r all),
    ))

module _ (ns ms : Lines) (n : ℕ) (r : Rows 0 ns n) (m : Items 0 n ms) where
  pub first-nodes : nodes_of (ns ++ ms) ≡ ns
  first-nodes = rows-nodes 0 ns n r ms ∙ ap (λ (v : Lines). ns ++ v) (ap nodes_of (sym (append-nil ms)) ∙ items-nodes 0 n ms m [] ∙ none-nodes) ∙ append-nil ns

  pub first-items : items_of (ns ++ ms) ≡ ms
  first-items = rows-items 0 ns n r ms ∙ ap items_of (sym (append-nil ms)) ∙ items-items 0 n ms m [] ∙ ap (λ (v : Lines). ms ++ v) none-items ∙ append-nil ms

  -- the second edition of it
  pub to-second : reordered false (ns ++ ms) ≡ spread ns ms
  unfolding reordered
  to-second = ap (λ (v : Lines). spread v (ns ++ ms)) first-nodes ∙ spread_same ns (ns ++ ms) ms (rows_at 0 ns n r ms)

  pub second-stands : Groups 0 (reordered false (ns ++ ms)) n
  second-stands = rw to-second (spread-groups 0 ns n r ms)

  pub second-nodes : nodes_of (reordered false (ns ++ ms)) ≡ ns
  second-nodes = ap nodes_of to-second ∙ spread-nodes 0 ns n r ms

  pub second-items : items_of (reordered false (ns ++ ms)) ≡ ms
  second-items = ap items_of to-second ∙ spread-items 0 ns n r ms ∙ gather_all 0 ns n r 0 (omega arith) ms m

  pub first_back : reordered true (reordered false (ns ++ ms)) ≡ ns ++ ms
  unfolding reordered
  first_back = ap₂ (λ (v w : Lines). v ++ w) second-nodes second-items

-- ---- from the second edition to the first

groups-rows : (n : ℕ) (ls : Lines) (n' : ℕ) → Groups n ls n' → Rows n (nodes_of ls) n'
groups-rows n [] n' g = rw none-nodes g
groups-rows n (l ∷ ls) n' (inl (e, g)) = rw (nodes-node l ls e) (e, groups-rows (n + 1) ls n' g)
groups-rows n (l ∷ ls) n' (inr (k, e, d, g)) = rw (nodes-item l ls e) (groups-rows n ls n' g)

groups-up : (n : ℕ) (ls : Lines) (n' : ℕ) → Groups n ls n' → n ≤ n'
groups-up n [] n' g = omega arith
groups-up n (l ∷ ls) n' (inl (e, g)) = let a = groups-up (n + 1) ls n' g in omega arith
groups-up n (l ∷ ls) n' (inr (k, e, d, g)) = groups-up n ls n' g

pub items-lower : (low low' high : ℕ) (ms : Lines) → low' ≤ low → Items low high ms → Items low' high ms
items-lower low low' high [] a m = tt
items-lower low low' high (l ∷ ms) a (k, e, b, d, m) = (k, e, omega arith, d, m)

group_items : (n : ℕ) (ls : Lines) (n' : ℕ) → Groups n ls n' → Items (n - 1) n' (items_of ls)
group_items n [] n' g = rw none-items tt
group_items n (l ∷ ls) n' (inl (e, g)) = rw (items-node l ls e) (items-lower (n + 1 - 1) (n - 1) n' (items_of ls) (omega arith) (group_items (n + 1) ls n' g))
group_items n (l ∷ ls) n' (inr (k, e, d, g)) =
    let u = groups-up n ls n' g in
    rw (items-item l ls e) (k, e, omega arith, omega arith, items-lower (n - 1) k n' (items_of ls) (omega arith) (group_items n ls n' g))

-- the items of a node, looked for among the items
at_among : (i : ℕ) (ls : Lines) (n n' : ℕ) → Groups n ls n' → items_at i (items_of ls) ≡ items_at i ls
at_among i [] n n' g = ap (items_at i) none-items
at_among i (l ∷ ls) n n' (inl (e, g)) = ap (items_at i) (items-node l ls e) ∙ at_among i ls (n + 1) n' g ∙ sym (at_node l ls e i)
at_among i (l ∷ ls) n n' (inr (k, e, d, g)) = ap (items_at i) (items-item l ls e) ∙ (elim (ℕ_discrete k i) [
  | yes q ↦ let e' : kind l ≡ item i = e ∙ ap item q in at_same l (items_of ls) e' ∙ ap (λ (v : Lines). l ∷ v) (at_among i ls n n' g) ∙ sym (at_same l ls e')
  | no q ↦ at_other l (items_of ls) e i q ∙ at_among i ls n n' g ∙ sym (at_other l ls e i q)
])

-- a node line among all lines changes nothing
spread-plain : (ns : Lines) (l : List ℕ) {k : ℕ} → kind l ≡ node k → (all : Lines) → spread ns (l ∷ all) ≡ spread ns all
spread-plain ns l e all = spread_same ns (l ∷ all) all (at_node l all e)

-- behind p + 1 node lines: the items of row p, and each later node line with its own
groups-spread : (p : ℕ) (ls : Lines) (n' : ℕ) → Groups (p + 1) ls n' → items_at p ls ++ spread (nodes_of ls) ls ≡ ls
groups-spread p [] n' g = ap₂ (λ (v w : Lines). v ++ w) (none-at p) (ap (λ (v : Lines). spread v []) none-nodes ∙ none-spread [])
groups-spread p (l ∷ ls) n' (inl (e, g)) =
    let z : items_at p ls ≡ [] = sym (at_among p ls (p + 1 + 1) n' g) ∙ items-none (p + 1 + 1 - 1) n' (items_of ls) (group_items (p + 1 + 1) ls n' g) p (omega arith) in
    ap₂ (λ (v w : Lines). v ++ w) (at_node l ls e p ∙ z) (
    ap (λ (v : Lines). spread v (l ∷ ls)) (nodes-node l ls e)
    ∙ spread-on l (nodes_of ls) e (l ∷ ls)
    ∙ ap₂ (λ (v w : Lines). l ∷ v ++ w) (at_node l ls e (p + 1)) (spread-plain (nodes_of ls) l e ls)
    ∙ ap (λ (v : Lines). l ∷ v) (groups-spread (p + 1) ls n' g)
    )
groups-spread p (l ∷ ls) n' (inr (k, e, d, g)) =
    let q : k ≡ p = omega arith in let e' : kind l ≡ item p = e ∙ ap item q in
    ap₂ (λ (v w : Lines). v ++ w) (at_same l ls e') (
    ap (λ (v : Lines). spread v (l ∷ ls)) (nodes-item l ls e)
    ∙ spread-past (p + 1) (nodes_of ls) n' (groups-rows (p + 1) ls n' g) l e (omega arith) ls
    )
    ∙ ap (λ (v : Lines). l ∷ v) (groups-spread p ls n' g)

groups-all : (ls : Lines) (n' : ℕ) → Groups 0 ls n' → spread (nodes_of ls) ls ≡ ls
groups-all [] n' g = ap (λ (v : Lines). spread v []) none-nodes ∙ none-spread []
groups-all (l ∷ ls) n' (inl (e, g)) =
    ap (λ (v : Lines). spread v (l ∷ ls)) (nodes-node l ls e)
    ∙ spread-on l (nodes_of ls) e (l ∷ ls)
    ∙ ap₂ (λ (v w : Lines). l ∷ v ++ w) (at_node l ls e 0) (spread-plain (nodes_of ls) l e ls)
    ∙ ap (λ (v : Lines). l ∷ v) (groups-spread 0 ls n' g)
groups-all (l ∷ ls) n' (inr (k, e, d, g)) = absurd (omega arith)

module _ (ls : Lines) (n : ℕ) (g : Groups 0 ls n) where
  pub first_rows : Rows 0 (nodes_of ls) n
  first_rows = groups-rows 0 ls n g

  pub first-low : Items 0 n (items_of ls)
  first-low = group_items 0 ls n g

  pub second_back : reordered false (reordered true ls) ≡ ls
  unfolding reordered
  second_back =
      to-second (nodes_of ls) (items_of ls) n first_rows first-low
      ∙ spread_same (nodes_of ls) (items_of ls) ls (λ i. at_among i ls 0 n g)
      ∙ groups-all ls n g

-- ---- two cursors: from the first edition to the second in one walk

is-of : (l : List ℕ) (k n : ℕ) → kind l ≡ item k → k ≡ n → is_of n (kind l) ≡ true
is-of l k n e d = rw e (eq-eqb k n d)

not-of : (l : List ℕ) (k n : ℕ) → kind l ≡ item k → (k ≡ n → ⊥) → is_of n (kind l) ≡ false
not-of l k n e d = rw e (ne_eqb k n d)

run-all : (n low high : ℕ) (ms : Lines) → n ≤ low → Items low high ms → items_at n ms ≡ run_of n ms
run-all n low high [] a m = none-at n
run-all n low high (l ∷ ms) a (k, e, b, d, m) = elim (ℕ_discrete k n) [
  | yes q ↦ let e' : kind l ≡ item n = e ∙ ap item q in at_same l ms e' ∙ rw (is-of l k n e q) (ap (λ (v : Lines). l ∷ v) (run-all n k high ms (omega arith) m))
  | no q ↦ at_other l ms e n q ∙ items-none k high ms m n (omega arith) ∙ rw (not-of l k n e q) refl
]

past-items : (n low high : ℕ) (ms : Lines) → n ≤ low → Items low high ms → Items (n + 1) high (past_run n ms)
past-items n low high [] a m = tt
past-items n low high (l ∷ ms) a (k, e, b, d, m) = elim (ℕ_discrete k n) [
  | yes q ↦ rw (is-of l k n e q) (past-items n k high ms (omega arith) m)
  | no q ↦ rw (not-of l k n e q) (k, e, omega arith, d, m)
]

past-at : (n low high : ℕ) (ms : Lines) → Items low high ms → (i : ℕ) → n < i → items_at i ms ≡ items_at i (past_run n ms)
past-at n low high [] m i b = refl
past-at n low high (l ∷ ms) (k, e, c, d, m) i b = elim (ℕ_discrete k n) [
  | yes q ↦ at_other l ms e i (λ z. omega arith) ∙ rw (is-of l k n e q) (past-at n k high ms m i b)
  | no q ↦ rw (not-of l k n e q) refl
]

spread-agree : (n : ℕ) (ns : Lines) (n' : ℕ) → Rows n ns n' → (a b : Lines) → ((i : ℕ) → n ≤ i → items_at i a ≡ items_at i b) → spread ns a ≡ spread ns b
spread-agree n [] n' r a b h = none-spread a ∙ sym (none-spread b)
spread-agree n (l ∷ ns) n' (e, r) a b h =
    spread-on l ns e a
    ∙ ap₂ (λ (v w : Lines). l ∷ v ++ w) (h n (omega arith)) (spread-agree (n + 1) ns n' r a b (λ i z. h i (omega arith)))
    ∙ sym (spread-on l ns e b)

pub walk-spreads : (n : ℕ) (ns : Lines) (n' : ℕ) → Rows n ns n' → (low : ℕ) → n ≤ low → (ms : Lines) → Items low n' ms → spread ns ms ≡ walk n ns ms
walk-spreads n [] n' r low a ms m = none-spread ms
walk-spreads n (l ∷ ns) n' (e, r) low a ms m =
    spread-on l ns e ms
    ∙ ap₂ (λ (v w : Lines). l ∷ v ++ w) (run-all n low n' ms a m) (
    spread-agree (n + 1) ns n' r ms (past_run n ms) (λ i z. past-at n low n' ms m i (omega arith))
    ∙ walk-spreads (n + 1) ns n' r (n + 1) (omega arith) (past_run n ms) (past-items n low n' ms a m)
    )
