-- `all`, `those` and the rows of a table, one row at a time.
-- Assumes nothing.
use mathlib.Core.Path.{◌≡◌, sym, ap, ◌∙◌}
use mathlib.Core.Bool.{Bool, true, false, cond, ◌&&◌}
use mathlib.Core.List.{List, ◌∷◌}
use Prim.Native.Nat.{ℕ, ◌+◌, ◌*◌, ◌≤◌, ◌<◌}
use native.Mathlib.Omega.{arith}
use lib.ListN.{length, get_or, drop, drop_of_length-le}
use Rattle.cursor.specs.declared.Node.{Node}
use Rattle.cursor.specs.declared.Item.{Item}
use Rattle.rows.specs.Rows.{node_width, item_width, node_from, item_from, nodes_in, items_in, item_at, no_node, no_item}
use Rattle.rows.proofs.Rows.{node_at_lem, item-at, nodes-in_length, items-in_length}
use Rattle.file.specs.Own.{those, part}
use Rattle.file.proofs.Own.{drop-next, part-next, part_none}
use Rattle.description.specs.Row.{is_field}
use Rattle.mobile.specs.Mobile.{all}
use Rattle.mobile.specs.Told.{NextRow}

-- ---- every one: what is left from i on is the whole

module _ {A : Type 0} (p : A → Bool) (xs : List A) (i : ℕ) {whole : Bool} (h : whole ≡ all p (drop i xs)) where
  module _ (d : A) (l : i < length xs) {x : A} (e : get_or xs i d ≡ x) where
    one_more_lem : whole ≡ (p x && all p (drop (i + 1) xs))
    unfolding all
    one_more_lem = h ∙ ap (all p) (drop-next xs i d l) ∙ ap (λ y. p y && all p (drop (i + 1) xs)) e

    all-no : p x ≡ false → false ≡ whole
    all-no t = sym (one_more_lem ∙ ap (λ b. b && all p (drop (i + 1) xs)) t)

    all-on : p x ≡ true → whole ≡ all p (drop (i + 1) xs)
    all-on t = one_more_lem ∙ ap (λ b. b && all p (drop (i + 1) xs)) t

  all_yes : length xs ≤ i → true ≡ whole
  unfolding all
  all_yes l = sym (h ∙ ap (all p) (drop_of_length-le xs {i = i} l))

-- the same over the rows of a table
module _ (p : Node → Bool) (ws : List ℕ) (n i : ℕ) {whole : Bool} (h : whole ≡ all p (drop i (nodes_in n ws))) where
  module _ (l : i < n) {r : Node} (e : r ≡ node_from ws (i * node_width)) where
    pub nodes-no : p r ≡ false → false ≡ whole
    nodes-no = all-no p _ i h no_node (omega (arith, nodes-in_length ws n)) (node_at_lem ws n i l ∙ sym e)

    pub nodes-on : p r ≡ true → whole ≡ all p (drop (i + 1) (nodes_in n ws))
    nodes-on = all-on p _ i h no_node (omega (arith, nodes-in_length ws n)) (node_at_lem ws n i l ∙ sym e)

  pub nodes-yes : n ≤ i → true ≡ whole
  nodes-yes l = all_yes p _ i h (omega (arith, nodes-in_length ws n))

module _ (p : Item → Bool) (ws : List ℕ) (n i : ℕ) {whole : Bool} (h : whole ≡ all p (drop i (items_in n ws))) where
  module _ (l : i < n) {r : Item} (e : r ≡ item_from ws (i * item_width)) where
    pub items-no : p r ≡ false → false ≡ whole
    items-no = all-no p _ i h no_item (omega (arith, items-in_length ws n)) (item-at ws n i l ∙ sym e)

    pub items-on : p r ≡ true → whole ≡ all p (drop (i + 1) (items_in n ws))
    items-on = all-on p _ i h no_item (omega (arith, items-in_length ws n)) (item-at ws n i l ∙ sym e)

  pub items-yes : n ≤ i → true ≡ whole
  items-yes l = all_yes p _ i h (omega (arith, items-in_length ws n))

-- ---- the next row of a field

module _ (ws : List ℕ) (n field from end i : ℕ)
    (h : those (is_field field) (part (items_in n ws) from end) ≡ those (is_field field) (part (items_in n ws) i end)) (low : from ≤ i)
    (fits : end ≤ n) where
  module _ (l : i < end) {r : Item} (e : r ≡ item_from ws (i * item_width)) {b : Bool} (t : b ≡ is_field field r) where
    -- the row that is looked at, and the rest
    step : those (is_field field) (part (items_in n ws) from end)
        ≡ cond b (item_at (items_in n ws) i ∷ those (is_field field) (part (items_in n ws) (i + 1) end)) (those (is_field field) (part (items_in n ws) (i + 1) end))
    unfolding those
    step = h ∙ ap (those (is_field field)) (part-next (items_in n ws) i end l (omega (arith, items-in_length ws n)))
        ∙ ap (λ x. cond x (item_at (items_in n ws) i ∷ those (is_field field) (part (items_in n ws) (i + 1) end)) (those (is_field field) (part (items_in n ws) (i + 1) end)))
        (ap (is_field field) (item-at ws n i (omega arith) ∙ sym e) ∙ sym t)

    pub next_here : b ≡ true → NextRow field (items_in n ws) from end i
    next_here k = record { low = low; high = omega arith; here = λ _. step ∙ simp k; none = λ z. absurd (omega arith) }

    pub next-on : b ≡ false → those (is_field field) (part (items_in n ws) from end) ≡ those (is_field field) (part (items_in n ws) (i + 1) end)
    next-on k = step ∙ simp k

  pub next-none : from ≤ end → end ≤ i → NextRow field (items_in n ws) from end end
  unfolding those
  next-none b l = record {
    low = b;
    high = omega arith;
    here = λ k. absurd (omega arith);
    none = λ _. h ∙ ap (those (is_field field)) (part_none (items_in n ws) i end l);
  }
