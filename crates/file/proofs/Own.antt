-- A node's own rows are a run of the item rows: since these stand in node order, as many for each node as its row counts. And what a question's code knows of the tables by that.
-- Assumes nothing.
use mathlib.Core.Path.{◌≡◌, refl, sym, ap, ap₂, subst, ◌∙◌}
use mathlib.Core.List.{List, [], ◌∷◌, ◌++◌, map}
use Prim.Native.Nat.{ℕ, zero, suc, ◌+◌, ◌*◌, ◌-◌, ◌≤◌, ◌<◌}
use native.Mathlib.Omega.{arith}
use native.Mathlib.Numerals.{add-one}
use lib.ListN.{length, get_or, take, drop, replicate, length-append, length-replicate}
use lib.Seq.{drop-drop, drop-cons, take-length}
use borrow.Author.Tests.{eq-eqb, ne_eqb}
use Rattle.cursor.specs.declared.Node.{Node}
use Rattle.cursor.specs.declared.Item.{Item}
use Rattle.rows.specs.Rows.{node_width, item_width, node_from, item_from, nodes_in, items_in, node_at, item_at, no_item, ItemIn, ItemsIn, ItemRows}
use Rattle.metadata.specs.declared.Limits.{Limits}
use Rattle.file.specs.Reading.{Reading, read_file}
use Rattle.file.specs.Own.{Numbered, items_of, numbered, those, is_own, own, first_row, part, Runs, Tables}
use Rattle.file.specs.declared.Summary.{Summary}
use Rattle.file.proofs.Order.{spread, in_row_order}
use Rattle.rows.proofs.Rows.{node_at_lem, item-at, nodes-in_length, items-in_length}
use Rattle.file.proofs.Rows.{Standing}

-- ---- first rows

pub first_next : (ns : List Node) (k : ℕ) → k < length ns → first_row ns (k + 1) ≡ first_row ns k + (node_at ns k).rows
unfolding first_row
first_next ns k l = ap (first_row ns) (add-one k) ∙ by ns k l
  where
    by : (ns : List Node) (k : ℕ) → k < length ns → first_row ns (suc k) ≡ first_row ns k + (node_at ns k).rows
    by [] k l = absurd (omega arith)
    by (r ∷ ns) zero l = omega arith
    by (r ∷ ns) (suc k) l = let z = by ns k (omega arith) in omega arith

first-most : (ns : List Node) (k : ℕ) → k ≤ length ns → first_row ns k ≤ first_row ns (length ns)
unfolding first_row
first-most ns zero l = omega arith
first-most [] (suc k) l = absurd (omega arith)
first-most (r ∷ ns) (suc k) l = let z = first-most ns k (omega arith) in omega arith

-- ---- one node's rows

-- the nodes of item rows
abbrev nodes_of : List Item → List ℕ
nodes_of is = map (λ (r : Item). r.node) is

-- all of them are at least k
abbrev From : ℕ → List ℕ → Type 0
From k [] = Unit {0}
From k (n ∷ ns) = (k ≤ n) × From k ns

from-run : (k c n : ℕ) (ns : List ℕ) → k ≤ n → From k ns → From k (replicate c n ++ ns)
from-run k zero n ns l h = h
from-run k (suc c) n ns l h = (l, from-run k c n ns l h)

from-spread : (k n : ℕ) (ns : List Node) → k ≤ n → From k (spread n ns)
from-spread k n [] l = tt
from-spread k n (r ∷ ns) l = from-run k r.rows n (spread (n + 1) ns) l (from-spread k (n + 1) ns (omega arith))

-- a row of the node, and one of another
own-here : (k : ℕ) (x : Numbered) (xs : List Numbered) → x.item.node ≡ k → those (is_own k) (x ∷ xs) ≡ x ∷ those (is_own k) xs
unfolding those
own-here k x xs e = simp (eq-eqb _ _ e)

own-past : (k : ℕ) (x : Numbered) (xs : List Numbered) → ((x.item.node ≡ k) → ⊥) → those (is_own k) (x ∷ xs) ≡ those (is_own k) xs
unfolding those
own-past k x xs e = simp (ne_eqb _ _ e)

-- rows of later nodes alone
own-none : (k i : ℕ) (is : List Item) → From (k + 1) (nodes_of is) → those (is_own k) (numbered i is) ≡ []
unfolding those numbered
own-none k i [] h = refl
own-none k i (r ∷ is) h = own-past k (record { row = i; item = r }) (numbered (i + 1) is) (λ e. let z = h.0 in omega arith) ∙ own-none k (i + 1) is h.1

-- c rows of node j, and then rows of later nodes
module _ (j : ℕ) (rest : List ℕ) where
  own-run : (c i : ℕ) (is : List Item) → nodes_of is ≡ replicate c j ++ rest → From (j + 1) rest → those (is_own j) (numbered i is) ≡ numbered i (take c is)
  unfolding numbered
  own-run zero i is e h = own-none j i is (rw e h)
  own-run (suc c) i [] e h = let z : ◌≡◌ {A = ℕ} 0 1 = cc in absurd (omega arith)
  own-run (suc c) i (r ∷ is) e h =
      let a : r.node ≡ j = cc in let b : nodes_of is ≡ replicate c j ++ rest = cc in
      own-here j (record { row = i; item = r }) (numbered (i + 1) is) a ∙ ap (λ v. record { row = i; item = r } ∷ v) (own-run c (i + 1) is b h)

  own-rest : (k c i : ℕ) (is : List Item) → nodes_of is ≡ replicate c j ++ rest → j < k → those (is_own k) (numbered i is) ≡ those (is_own k) (numbered (i + c) (drop c is))
  unfolding numbered
  own-rest k zero i is e l = let z : i + 0 ≡ i = omega arith in rw z
  own-rest k (suc c) i [] e l = let z : ◌≡◌ {A = ℕ} 0 1 = cc in absurd (omega arith)
  own-rest k (suc c) i (r ∷ is) e l =
      let a : r.node ≡ j = cc in let b : nodes_of is ≡ replicate c j ++ rest = cc in
      let z : i + 1 + c ≡ i + suc c = omega arith in
      own-past k (record { row = i; item = r }) (numbered (i + 1) is) (λ q. omega arith) ∙ own-rest k c (i + 1) is b l ∙ ap (λ (x : ℕ). those (is_own k) (numbered x (drop c is))) z

  run-rest : (c : ℕ) (is : List Item) → nodes_of is ≡ replicate c j ++ rest → nodes_of (drop c is) ≡ rest
  run-rest zero is e = e
  run-rest (suc c) [] e = let z : ◌≡◌ {A = ℕ} 0 1 = cc in absurd (omega arith)
  run-rest (suc c) (r ∷ is) e = let b : nodes_of is ≡ replicate c j ++ rest = cc in run-rest c is b

-- ---- every node's

-- of the nodes from row j on, whose rows are those from row i on
runs-from : (j i : ℕ) (ns : List Node) (is : List Item) → nodes_of is ≡ spread j ns → (k : ℕ) → k < length ns
    → those (is_own (j + k)) (numbered i is) ≡ numbered (i + first_row ns k) (take (node_at ns k).rows (drop (first_row ns k) is))
unfolding first_row
runs-from j i [] is e k l = absurd (omega arith)
runs-from j i (r ∷ ns) is e zero l =
    let a : j + 0 ≡ j = omega arith in let b : i + 0 ≡ i = omega arith in
    rw (a, b) (own-run j (spread (j + 1) ns) r.rows i is e (from-spread (j + 1) (j + 1) ns (omega arith)))
runs-from j i (r ∷ ns) is e (suc k) l =
    let a : j + suc k ≡ j + 1 + k = omega arith in
    let b : i + r.rows + first_row ns k ≡ i + (r.rows + first_row ns k) = omega arith in
    own-rest j (spread (j + 1) ns) (j + suc k) r.rows i is e (omega arith)
    ∙ ap (λ (x : ℕ). those (is_own x) (numbered (i + r.rows) (drop r.rows is))) a
    ∙ runs-from (j + 1) (i + r.rows) ns (drop r.rows is) (run-rest j (spread (j + 1) ns) r.rows is e) k (omega arith)
    ∙ ap₂ (λ (x : ℕ) (v : List Item). numbered x (take (node_at ns k).rows v)) b (drop-drop (first_row ns k) r.rows is)

spread-length : (j : ℕ) (ns : List Node) → length (spread j ns) ≡ first_row ns (length ns)
unfolding first_row
spread-length j [] = refl
spread-length j (r ∷ ns) = simp (length-append, length-replicate, spread-length (j + 1) ns)

map-length : (is : List Item) → length (nodes_of is) ≡ length is
map-length [] = refl
map-length (r ∷ is) = ap suc (map-length is)

pub runs : (ns : List Node) (is : List Item) → map (λ (r : Item). r.node) is ≡ spread 0 ns → Runs ns is
unfolding own
runs ns is e = record {
  run = λ k l.
      let z : (node_at ns k).rows ≡ first_row ns (k + 1) - first_row ns k = omega (arith, first_next ns k l) in
      let a : 0 + k ≡ k = omega arith in
      let b : 0 + first_row ns k ≡ first_row ns k = omega arith in
      rw (a, b, z) at (runs-from 0 0 ns is e k l);
  whole = sym (spread-length 0 ns) ∙ ap length (sym e) ∙ map-length is;
}

-- ---- rows without their numbers

pub items-numbered : (i : ℕ) (is : List Item) → items_of (numbered i is) ≡ is
unfolding numbered
items-numbered i [] = refl
items-numbered i (r ∷ is) = ap (λ v. r ∷ v) (items-numbered (i + 1) is)

-- ---- a part of the rows, row by row

-- the list from element i on
pub drop-next : {A : Type 0} (xs : List A) (i : ℕ) (d : A) → i < length xs → drop i xs ≡ get_or xs i d ∷ drop (i + 1) xs
drop-next xs i d l = drop-cons xs i d l ∙ ap (λ k. get_or xs i d ∷ drop k xs) (sym (add-one i))

pub part-next : (is : List Item) (i end : ℕ) → i < end → end ≤ length is → part is i end ≡ item_at is i ∷ part is (i + 1) end
part-next is i end l h =
    let e : end - i ≡ suc (end - (i + 1)) = omega arith in
    ap₂ (λ (k : ℕ) (v : List Item). take k v) e (drop-next is i no_item (omega arith))

pub part_none : (is : List Item) (i end : ℕ) → end ≤ i → part is i end ≡ []
part_none is i end l = let e : end - i ≡ 0 = omega arith in ap (λ (k : ℕ). take k (drop i is)) e

-- all rows are a part
pub part-all : (is : List Item) (m : ℕ) → length is ≡ m → part is 0 m ≡ is
part-all is m e = let z : m - 0 ≡ length is = omega arith in ap (λ (k : ℕ). take k is) z ∙ take-length is

-- ---- the tables of an accepted file

-- a row that was read lies in the file
pub row_in : {size n i : ℕ} (ws : List ℕ) → ItemRows size n ws → i < n → {r : Item} → r ≡ item_from ws (i * item_width) → ItemIn size r
row_in {i = i} ws h l e = rw e (h.1 i l)

pub item-rows : {f : List ℕ} {o : Reading} {s : Summary} {t u : List ℕ} → Standing f o s t u → ItemRows (length f) s.items u
item-rows {f} {o} {s} {t} {u} st = (
  st.item_room,
  λ i l. rw (item-at u s.items i l) at
      (subst (ItemsIn (length f)) (sym st.items-are) st.sound.items-inside i (omega (arith, items-in_length u s.items))),
)

pub tables : (lim : Limits) (f : List ℕ) {s : Summary} {t u : List ℕ} → Standing f (read_file lim f) s t u → Tables f t u s.nodes s.items
tables lim f st = record {
  node-room = st.node-room;
  item-rows = item-rows st;
  runs = rw (st.nodes-are, st.items-are) (runs _ _ (in_row_order lim f st.reads).items-follow);
}

-- ---- back over the node rows: each node's own rows end where those of the next begin

module _ {f ws vs : List ℕ} {n m : ℕ} (t : Tables f ws vs n m) where
  -- behind the last node's
  pub end-begin : m ≡ first_row (nodes_in n ws) n
  end-begin = sym (ap (first_row (nodes_in n ws)) (sym (nodes-in_length ws n)) ∙ t.runs.whole ∙ items-in_length vs m)

  -- node j, whose own rows end before row `end`
  module _ (i j : ℕ) (q : i ≡ j + 1) (l : j < n) {r : Node} (e : r ≡ node_from ws (j * node_width)) {end : ℕ} (a : end ≡ first_row (nodes_in n ws) i) where
    in_list : j < length (nodes_in n ws)
    in_list = omega (arith, nodes-in_length ws n)

    rows_are : end ≡ first_row (nodes_in n ws) j + r.rows
    rows_are = a ∙ ap (first_row (nodes_in n ws)) q ∙ first_next (nodes_in n ws) j in_list ∙ ap (λ (x : Node). first_row (nodes_in n ws) j + x.rows) (node_at_lem ws n j l ∙ sym e)

    pub rows_in_lem : r.rows ≤ end
    rows_in_lem = omega (arith, rows_are)

    pub end-in : end ≤ m
    end-in =
        let s = nodes-in_length ws n in
        omega (arith, first-most (nodes_in n ws) i (omega arith), t.runs.whole, items-in_length vs m)

    pub end-next : end - r.rows ≡ first_row (nodes_in n ws) j
    end-next = omega (arith, rows_are)

    pub own-are : own (items_in m vs) j ≡ numbered (end - r.rows) (part (items_in m vs) (end - r.rows) end)
    own-are = t.runs.run j in_list ∙ ap₂ (λ (x y : ℕ). numbered x (part (items_in m vs) x y)) (sym end-next) (sym (a ∙ ap (first_row (nodes_in n ws)) q))
