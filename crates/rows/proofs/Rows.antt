-- Rows that stand in a table are read back as they are.
-- Assumes nothing.
use mathlib.Core.Path.{◌≡◌, refl, sym, ap, ap₂, ◌∙◌}
use mathlib.Core.Logic.{inl, inr}
use mathlib.Core.List.{List, [], ◌∷◌, ◌++◌, append_assoc}
use Prim.Native.Nat.{ℕ, zero, suc, ◌+◌, ◌*◌, ◌≤◌, ◌<◌}
use native.Mathlib.Omega.{arith}
use lib.ListN.{length, get_or, take, length-append}
use Rattle.cursor.specs.declared.Node.{Node}
use Rattle.cursor.specs.declared.Item.{Item}
use Rattle.rows.specs.Rows.{node_width, item_width, node_words, item_words, all_rows, all_nodes, all_items, node_from, item_from, rows_from, nodes_in, items_in, no_node, no_item, node_at, item_at, ItemIn}

-- ---- row i of the words, whatever their width

module _ {A : Type 0} (width : ℕ) (row : List ℕ → ℕ → A) (ws : List ℕ) where
  row_at : (d : A) (i n j : ℕ) → j < n → get_or (rows_from width row i n ws) j d ≡ row ws ((i + j) * width)
  unfolding rows_from
  row_at d i zero j l = absurd (omega arith)
  row_at d i (suc n) zero l = let e : i + 0 ≡ i = omega arith in rw e
  row_at d i (suc n) (suc j) l = let e : i + 1 + j ≡ i + suc j = omega arith in row_at d (i + 1) n j (omega arith) ∙ ap (λ k. row ws (k * width)) e

  rows-length : (i n : ℕ) → length (rows_from width row i n ws) ≡ n
  unfolding rows_from
  rows-length i zero = refl
  rows-length i (suc n) = ap suc (rows-length (i + 1) n)

  rows-front : (i k n : ℕ) → k ≤ n → rows_from width row i k ws ≡ take k (rows_from width row i n ws)
  unfolding rows_from
  rows-front i zero n l = refl
  rows-front i (suc k) zero l = absurd (omega arith)
  rows-front i (suc k) (suc n) l = ap (λ v. row ws (i * width) ∷ v) (rows-front (i + 1) k n (omega arith))

module _ (ws : List ℕ) where
  -- row i of the first n rows is the one whose words begin at row i
  pub node_at_lem : (n i : ℕ) → i < n → node_at (nodes_in n ws) i ≡ node_from ws (i * node_width)
  unfolding nodes_in
  node_at_lem n i l = let e : 0 + i ≡ i = omega arith in row_at node_width node_from ws no_node 0 n i l ∙ ap (λ k. node_from ws (k * node_width)) e

  pub item-at : (n i : ℕ) → i < n → item_at (items_in n ws) i ≡ item_from ws (i * item_width)
  unfolding items_in
  item-at n i l = let e : 0 + i ≡ i = omega arith in row_at item_width item_from ws no_item 0 n i l ∙ ap (λ k. item_from ws (k * item_width)) e

  pub nodes-in_length : (n : ℕ) → length (nodes_in n ws) ≡ n
  unfolding nodes_in
  nodes-in_length n = rows-length node_width node_from ws 0 n

  pub items-in_length : (n : ℕ) → length (items_in n ws) ≡ n
  unfolding items_in
  items-in_length n = rows-length item_width item_from ws 0 n

  -- the first k of n rows
  pub in_front : (k n : ℕ) → k ≤ n → nodes_in k ws ≡ take k (nodes_in n ws)
  unfolding nodes_in
  in_front k n l = rows-front node_width node_from ws 0 k n l

  -- the row that was read is row i
  pub row_is : (count i : ℕ) → i < count → {r : Node} → r ≡ node_from ws (i * node_width) → node_at (nodes_in count ws) i ≡ r
  row_is count i l is = node_at_lem count i l ∙ sym is

-- ---- rows that stand in words are read back

-- a row is read back where its words stand, and the rows after it from the next place on
record ReadBack {A : Type 0} (width : ℕ) (row : List ℕ → ℕ → A) (words : A → List ℕ) : Type 0 where
  this : (r : A) (ws : List ℕ) → row (words r ++ ws) 0 ≡ r
  later : (r : A) (ws : List ℕ) (k : ℕ) → row (words r ++ ws) (width + k) ≡ row ws k

module _ {A : Type 0} {width : ℕ} {row : List ℕ → ℕ → A} {words : A → List ℕ} (back : ReadBack width row words) where
  rows-shift : (r : A) (ws : List ℕ) (i n : ℕ) → rows_from width row (suc i) n (words r ++ ws) ≡ rows_from width row i n ws
  unfolding rows_from
  rows-shift r ws i zero = refl
  rows-shift r ws i (suc n) =
      let a : suc i * width ≡ width + i * width = omega arith in
      let b : suc i + 1 ≡ suc (i + 1) = omega arith in
      ap₂ (λ (x : A) (v : List A). x ∷ v) (ap (row (words r ++ ws)) a ∙ back.later r ws (i * width))
      (ap (λ k. rows_from width row k n (words r ++ ws)) b ∙ rows-shift r ws (i + 1) n)

  rows_back : (rs : List A) (rest : List ℕ) → rows_from width row 0 (length rs) (all_rows words rs ++ rest) ≡ rs
  unfolding rows_from
  rows_back [] rest = refl
  rows_back (r ∷ rs) rest =
      let z : 0 * width ≡ 0 = omega arith in
      ap₂ (λ (x : A) (v : List A). x ∷ v) (ap₂ row (append_assoc (words r) (all_rows words rs) rest) z ∙ back.this r (all_rows words rs ++ rest))
      (ap (rows_from width row 1 (length rs)) (append_assoc (words r) (all_rows words rs) rest) ∙ rows-shift r (all_rows words rs ++ rest) 0 (length rs) ∙ rows_back rs rest)

-- a word behind other words
behind : (xs ws : List ℕ) (k : ℕ) {n : ℕ} → n ≡ length xs + k → get_or (xs ++ ws) n 0 ≡ get_or ws k 0
behind xs ws k e = ap (λ n. get_or (xs ++ ws) n 0) e ∙ by xs
  where
    by : (xs : List ℕ) → get_or (xs ++ ws) (length xs + k) 0 ≡ get_or ws k 0
    by [] = ap (λ n. get_or ws n 0) (omega arith)
    by (x ∷ xs) = let s : suc (length xs) + k ≡ suc (length xs + k) = omega arith in ap (λ n. get_or (x ∷ xs ++ ws) n 0) s ∙ by xs

node-back : ReadBack node_width node_from node_words
node-back = record {
  this = λ r ws. refl;
  later = λ r ws k.
      let w : (j : ℕ) → get_or (node_words r ++ ws) (node_width + k + j) 0 ≡ get_or ws (k + j) 0 = λ j. behind (node_words r) ws (k + j) {n = node_width + k + j} (omega arith) in
      let v : get_or (node_words r ++ ws) (node_width + k) 0 ≡ get_or ws k 0 = behind (node_words r) ws k {n = node_width + k} (omega arith) in
      simp (v, w);
}

item_back : ReadBack item_width item_from item_words
item_back = record {
  this = λ r ws. refl;
  later = λ r ws k.
      let w : (j : ℕ) → get_or (item_words r ++ ws) (item_width + k + j) 0 ≡ get_or ws (k + j) 0 = λ j. behind (item_words r) ws (k + j) {n = item_width + k + j} (omega arith) in
      let v : get_or (item_words r ++ ws) (item_width + k) 0 ≡ get_or ws k 0 = behind (item_words r) ws k {n = item_width + k} (omega arith) in
      simp (v, w);
}

pub nodes-back : (ns : List Node) (rest : List ℕ) → nodes_in (length ns) (all_nodes ns ++ rest) ≡ ns
unfolding nodes_in
nodes-back = rows_back node-back

pub items_back : (is : List Item) (rest : List ℕ) → items_in (length is) (all_items is ++ rest) ≡ is
unfolding items_in
items_back = rows_back item_back

-- ---- the words of rows

words-length : {A : Type 0} (width : ℕ) (words : A → List ℕ) → ((r : A) → length (words r) ≡ width) → (rs : List A) → length (all_rows words rs) ≡ length rs * width
words-length width words e [] = omega arith
words-length width words e (r ∷ rs) =
    let z : suc (length rs) * width ≡ width + length rs * width = omega arith in
    length-append (words r) (all_rows words rs) ∙ ap₂ (λ a b. a + b) (e r) (words-length width words e rs) ∙ sym z

pub nodes-length : (ns : List Node) → length (all_nodes ns) ≡ length ns * node_width
nodes-length = words-length node_width node_words (λ r. refl)

pub items-length : (is : List Item) → length (all_items is) ≡ length is * item_width
items-length = words-length item_width item_words (λ r. refl)

-- ---- rows that lie in a file

-- a custom name lies in the file
pub name_in : {size : ℕ} (r : Item) → ItemIn size r → r.kind ≡ 1 → r.field + r.name_length ≤ size
name_in r (a, inl e) k = absurd (omega arith)
name_in r (a, inr l) k = l
