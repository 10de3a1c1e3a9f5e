-- What a judged sheet's lines are: node lines and item lines (first edition), groups (second); and such lines are judged well.
-- Assumes nothing.
use mathlib.Core.Path.{◌≡◌, refl, sym, ap, ◌∙◌}
use mathlib.Core.Logic.{◌⊎◌, inl, inr}
use mathlib.Core.Bool.{Bool, true, false, cond, ◌&&◌, ◌||◌}
use mathlib.Core.List.{List, [], ◌∷◌, ◌++◌}
use Prim.{tt}
use Prim.Native.Nat.{ℕ, ◌+◌, ◌-◌, ◌≤◌, ◌<◌}
use native.Mathlib.Omega.{arith}
use lib.Dec.{eqb, leb, ltb}
use lib.ListN.{length}
use borrow.Author.Tests.{eq-eqb, eqb-true, leb-true, ltb-true, le-leb, lt-ltb}
use Rattle.cursor.specs.Refusals.{bad_sheet}
use Rattle.room.specs.Room.{Result, good, bad}
use Rattle.editions.specs.declared.State.{State}
use Rattle.editions.specs.Sheets.{Lines, Kind, node, item, other, kind, same, stands, after, judge, picked, items_of}
use Rattle.editions.proofs.Order.{Rows, Items, Groups, items-node, items-item}

-- ---- tests

pub both_true : (a b : Bool) → a && b ≡ true → (a ≡ true) × (b ≡ true)
both_true true b h = (refl, h)
both_true false b h = let z : ◌≡◌ {A = Bool} true false = sym h in absurd (no z)
  where
    no : true ≡ false → ⊥
    no e = let z : ◌≡◌ {A = ℕ} 0 1 = cc in omega arith

pub chosen : {A : Type 0} (t : Bool) (x : Result A) (n p : ℕ) {a : A} → cond t x (bad n p) ≡ good a → (t ≡ true) × (x ≡ good a)
chosen true x n p h = (refl, h)
chosen false x n p h = let z : ◌≡◌ {A = ℕ} 0 1 = cc in absurd (omega arith)

same-empty : (l : List ℕ) → same l [] ≡ true → l ≡ []
unfolding same
same-empty [] h = refl
same-empty (b ∷ l) h = let z : ◌≡◌ {A = ℕ} 0 1 = cc in absurd (omega arith)

-- what a line that stands says
node-stands : (e : Bool) (s : State) (k : ℕ) → stands e s (node k) ≡ true → k ≡ s.nodes
node-stands e s k h = eqb-true k s.nodes (both_true (eqb k s.nodes) (e || eqb s.items 0) h).0

node-early : (s : State) (k : ℕ) → stands false s (node k) ≡ true → s.items ≡ 0
node-early s k h = eqb-true s.items 0 (both_true (eqb k s.nodes) (eqb s.items 0) h).1

item-stands : (e : Bool) (s : State) (k : ℕ) → stands e s (item k) ≡ true → (s.least ≤ k) × (k < s.nodes)
item-stands e s k h = let t = both_true (leb s.least k) (ltb k s.nodes) h in (leb-true s.least k t.0, ltb-true k s.nodes t.1)

-- ---- the first edition

pub record First (s s' : State) (ps : Lines) : Type 0 where
  pub ns : Lines
  pub ms : Lines
  pub whole : ps ≡ (ns ++ ms) ++ [] ∷ []
  pub rows : Rows s.nodes ns s'.nodes
  pub low : Items s.least s'.nodes ms
  pub count : s'.items ≡ s.items + length ms
  pub early : (ns ≡ []) ⊎ (s.items ≡ 0)

module _ (s s' : State) (l : List ℕ) (rest : Lines) where
  first_on : (k : Kind) → kind l ≡ k → stands false s k ≡ true → First (after false s k) s' rest → First s s' (l ∷ rest)
  first_on (node k) e h r =
      let q : k ≡ s.nodes = node-stands false s k h in
      record {
        ns = l ∷ r.ns;
        ms = r.ms;
        whole = ap (λ (v : Lines). l ∷ v) r.whole;
        rows = (e ∙ ap node q, r.rows);
        low = r.low;
        count = r.count;
        early = inr (node-early s k h);
      }
  first_on (item k) e h r = elim r.early [
    | inl z ↦
        let (x, y) = item-stands false s k h in let q : s.nodes ≡ s'.nodes = rw z at r.rows in let c = r.count in
        record {
          ns = [];
          ms = l ∷ r.ms;
          whole = ap (λ (v : Lines). l ∷ v) (r.whole ∙ ap (λ (v : Lines). (v ++ r.ms) ++ [] ∷ []) z);
          rows = q;
          low = (k, e, x, omega arith, r.low);
          count = omega arith;
          early = inl refl;
        }
    | inr z ↦ absurd (omega arith)
  ]
  first_on other e h r = let z : ◌≡◌ {A = ℕ} 0 1 = cc in absurd (omega arith)

pub first-shape : (s s' : State) (n : ℕ) (ps : Lines) → judge false s n ps ≡ good s' → First s s' ps
unfolding judge
first-shape s s' n [] h = let z : ◌≡◌ {A = ℕ} 0 1 = cc in absurd (omega arith)
first-shape s s' n (l ∷ []) h =
    let (a, b) = chosen (same l []) (good s) bad_sheet n h in
    let q : s ≡ s' = cc in
    record {
      ns = [];
      ms = [];
      whole = ap (λ (v : List ℕ). v ∷ []) (same-empty l a);
      rows = ap (λ (v : State). v.nodes) q;
      low = tt;
      count = let z = ap (λ (v : State). v.items) q in omega arith;
      early = inl refl;
    }
first-shape s s' n (l ∷ m ∷ ls) h =
    let (a, b) = chosen (stands false s (kind l)) (judge false (after false s (kind l)) (n + 1) (m ∷ ls)) bad_sheet n h in
    first_on s s' l (m ∷ ls) (kind l) refl a (first-shape (after false s (kind l)) s' (n + 1) (m ∷ ls) b)

-- ---- the second edition

pub record Second (s s' : State) (ps : Lines) : Type 0 where
  pub body : Lines
  pub whole : ps ≡ body ++ [] ∷ []
  pub groups : Groups s.nodes body s'.nodes
  pub count : s'.items ≡ s.items + length (items_of body)

module _ (s s' : State) (l : List ℕ) (rest : Lines) (low : s.least ≡ s.nodes - 1) where
  second-on : (k : Kind) → kind l ≡ k → stands true s k ≡ true → Second (after true s k) s' rest → Second s s' (l ∷ rest)
  second-on (node k) e h r =
      let q : k ≡ s.nodes = node-stands true s k h in
      record {
        body = l ∷ r.body;
        whole = ap (λ (v : Lines). l ∷ v) r.whole;
        groups = inl (e ∙ ap node q, r.groups);
        count = r.count ∙ ap (λ (v : Lines). s.items + length v) (sym (items-node l r.body e));
      }
  second-on (item k) e h r =
      let (x, y) = item-stands true s k h in let c = r.count in let d = ap length (items-item l r.body e) in
      record {
        body = l ∷ r.body;
        whole = ap (λ (v : Lines). l ∷ v) r.whole;
        groups = inr (k, e, omega arith, r.groups);
        count = omega arith;
      }
  second-on other e h r = let z : ◌≡◌ {A = ℕ} 0 1 = cc in absurd (omega arith)

low-on : (s : State) (k : Kind) → s.least ≡ s.nodes - 1 → stands true s k ≡ true → (after true s k).least ≡ (after true s k).nodes - 1
low-on s (node k) low h = let q = node-stands true s k h in omega arith
low-on s (item k) low h = let (x, y) = item-stands true s k h in omega arith
low-on s other low h = low

none-items : items_of [] ≡ []
unfolding picked
none-items = refl

pub second-shape : (s s' : State) (n : ℕ) (ps : Lines) → s.least ≡ s.nodes - 1 → judge true s n ps ≡ good s' → Second s s' ps
unfolding judge
second-shape s s' n [] low h = let z : ◌≡◌ {A = ℕ} 0 1 = cc in absurd (omega arith)
second-shape s s' n (l ∷ []) low h =
    let (a, b) = chosen (same l []) (good s) bad_sheet n h in
    let q : s ≡ s' = cc in
    record {
      body = [];
      whole = ap (λ (v : List ℕ). v ∷ []) (same-empty l a);
      groups = ap (λ (v : State). v.nodes) q;
      count = let z = ap (λ (v : State). v.items) q in let y = ap length none-items in omega arith;
    }
second-shape s s' n (l ∷ m ∷ ls) low h =
    let (a, b) = chosen (stands true s (kind l)) (judge true (after true s (kind l)) (n + 1) (m ∷ ls)) bad_sheet n h in
    second-on s s' l (m ∷ ls) low (kind l) refl a (second-shape (after true s (kind l)) s' (n + 1) (m ∷ ls) (low-on s (kind l) low a) b)

-- ---- and back: such lines are judged well

pub record Fine (e : Bool) (s : State) (n : ℕ) (ps : Lines) (nodes items : ℕ) : Type 0 where
  pub end : State
  pub judges : judge e s n ps ≡ good end
  pub ends : end.nodes ≡ nodes
  pub has : end.items ≡ items

judge-on : (e : Bool) (s : State) (n : ℕ) (l : List ℕ) (ls : Lines) {k : Kind} → kind l ≡ k → stands e s k ≡ true → judge e s n
    (l ∷ ls ++ [] ∷ []) ≡ judge e (after e s k) (n + 1) (ls ++ [] ∷ [])
unfolding judge
judge-on e s n l [] q h = rw q (rw h refl)
judge-on e s n l (m ∷ ls) q h = rw q (rw h refl)

fine_end : (e : Bool) (s : State) (n : ℕ) → judge e s n ([] ∷ []) ≡ good s
unfolding judge same
fine_end e s n = refl

module _ (e : Bool) (s : State) (n : ℕ) (l : List ℕ) (ls : Lines) {k : Kind} {nodes items : ℕ} (q : kind l ≡ k) (h : stands e s k ≡ true)
    (f : Fine e (after e s k) (n + 1) (ls ++ [] ∷ []) nodes items) where
  fine_on : Fine e s n (l ∷ ls ++ [] ∷ []) nodes items
  fine_on = record { end = f.end; judges = judge-on e s n l ls q h ∙ f.judges; ends = f.ends; has = f.has }

fine_items : (s : State) (n : ℕ) (ms : Lines) → Items s.least s.nodes ms → Fine false s n (ms ++ [] ∷ []) s.nodes (s.items + length ms)
fine_items s n [] m = record { end = s; judges = fine_end false s n; ends = refl; has = omega arith }
fine_items s n (l ∷ ms) (k, e, a, b, m) =
    let f = fine_items (after false s (item k)) (n + 1) ms m in
    let g = fine_on false s n l ms e (simp (le-leb _ _ a, lt-ltb _ _ b)) f in
    let c = g.has in
    record { end = g.end; judges = g.judges; ends = g.ends; has = omega arith }

pub fine_first : (s : State) (n n' : ℕ) (ns ms : Lines) → s.items ≡ 0 → Rows s.nodes ns n' → Items s.least n' ms → Fine false s n ((ns ++ ms) ++ [] ∷ []) n' (length ms)
fine_first s n n' [] ms z r m =
    let f = fine_items s n ms (rw (sym r) at m) in let a = f.ends in let b = f.has in
    record { end = f.end; judges = f.judges; ends = omega arith; has = omega arith }
fine_first s n n' (l ∷ ns) ms z (e, r) m =
    fine_on false s n l (ns ++ ms) e (simp (eq-eqb s.nodes s.nodes refl, eq-eqb s.items 0 z)) (fine_first (after false s (node s.nodes)) (n + 1) n' ns ms z r m)

pub fine_second : (s : State) (n n' : ℕ) (ls : Lines) → s.least ≡ s.nodes - 1 → Groups s.nodes ls n' → Fine true s n (ls ++ [] ∷ []) n' (s.items + length (items_of ls))
fine_second s n n' [] low g = record { end = s; judges = fine_end true s n; ends = g; has = let y = ap length none-items in omega arith }
fine_second s n n' (l ∷ ls) low (inl (e, g)) =
    let t = after true s (node s.nodes) in
    let f = fine_on true s n l ls e (simp (eq-eqb s.nodes s.nodes refl)) (fine_second t (n + 1) n' ls (omega arith) g) in
    record { end = f.end; judges = f.judges; ends = f.ends; has = f.has ∙ ap (λ (v : Lines). s.items + length v) (sym (items-node l ls e)) }
fine_second s n n' (l ∷ ls) low (inr (k, e, d, g)) =
    let t = after true s (item k) in
    let f = fine_on true s n l ls e (simp (le-leb s.least k (omega arith), lt-ltb k s.nodes (omega arith))) (fine_second t (n + 1) n' ls (omega arith) g) in
    let a = f.has in let y = ap length (items-item l ls e) in
    record { end = f.end; judges = f.judges; ends = f.ends; has = omega arith }
