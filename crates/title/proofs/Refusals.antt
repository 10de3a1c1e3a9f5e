-- What the rows refuse, as the code finds it.
-- Assumes nothing.
use mathlib.Core.Path.{◌≡◌, refl, sym, ap, ◌∙◌}
use mathlib.Core.Bool.{Bool, true, false, cond, not, ◌||◌}
use mathlib.Core.List.{List}
use Prim.Native.Nat.{ℕ, ◌+◌, ◌-◌, ◌*◌, ◌%◌, ◌≤◌, ◌<◌}
use native.Mathlib.Omega.{arith}
use lib.Dec.{eqb}
use lib.ListN.{length}
use borrow.Author.Tests.{eq-eqb, ne_eqb, le-leb, lt-leb}
use Rattle.cursor.specs.declared.Node.{Node}
use Rattle.cursor.specs.declared.Item.{Item}
use Rattle.rows.specs.Rows.{node_width, item_width, node_from, nodes_from, nodes_in, item_from, items_in, rows_from}
use Rattle.file.specs.Hidden.{is_hidden}
use Rattle.rows.proofs.Rows.{item-at, items-in_length}
use Rattle.title_text.specs.Title.{elsewhere, is_no_title}
use Rattle.room.specs.Room.{good, bad}
use Rattle.title.specs.Refusals.{allowed}
use Rattle.title_nodes.proofs.Rows.{nodes-on}

-- ---- reference 2 or 3

-- the rows before row i have neither
pub record Looking (ws : List ℕ) (count i : ℕ) : Type 0 where
  pub within : i ≤ count
  pub same : elsewhere (nodes_in count ws) ≡ elsewhere (nodes_from i (count - i) ws)

pub looking_start : (ws : List ℕ) (count : ℕ) → Looking ws count 0
unfolding nodes_in
looking_start ws count = record { within = omega arith; same = ap (λ n. elsewhere (nodes_from 0 n ws)) (let e : count ≡ count - 0 = omega arith in e) }

module _ {ws : List ℕ} {count i : ℕ} (w : Looking ws count i) where
  module _ (l : i < count) {r : Node} (er : r ≡ node_from ws (i * node_width)) where
    turn : elsewhere (nodes_in count ws) ≡ (eqb r.reference 2 || eqb r.reference 3 || elsewhere (nodes_from (i + 1) (count - (i + 1)) ws))
    unfolding elsewhere
    turn = rw er (w.same ∙ ap elsewhere (nodes-on ws count i l))

    pub looking_two : r.reference ≡ 2 → true ≡ elsewhere (nodes_in count ws)
    looking_two e = sym (turn ∙ rw (eq-eqb _ 2 e) refl)

    module _ (a : r.reference ≡ 2 → ⊥) where
      pub looking_three : r.reference ≡ 3 → true ≡ elsewhere (nodes_in count ws)
      looking_three e = sym (turn ∙ rw (ne_eqb _ 2 a, eq-eqb _ 3 e) refl)

      pub looking_on : (r.reference ≡ 3 → ⊥) → Looking ws count (i + 1)
      looking_on b = record { within = omega arith; same = turn ∙ rw (ne_eqb _ 2 a, ne_eqb _ 3 b) refl }

  pub looking_end : count ≤ i → false ≡ elsewhere (nodes_in count ws)
  unfolding elsewhere rows_from
  looking_end l = let e : count - i ≡ 0 = omega arith in sym (w.same ∙ rw e refl)

-- ---- the four ways out

module _ (ts us : List ℕ) (count total row : ℕ) where
  rows-there : length (items_in total us) ≡ total
  rows-there = items-in_length us total

  pub refuses_row : total ≤ row → bad 18 0 ≡ allowed row (nodes_in count ts) (items_in total us)
  unfolding allowed
  refuses_row l = rw (rows-there, le-leb total row l) refl

  module _ (l : row < total) where
    by_tests : allowed row (nodes_in count ts) (items_in total us) ≡ cond (elsewhere (nodes_in count ts)) (bad 36 0) (cond (is_no_title (item_from us (row * item_width))) (bad 37 0) (good tt))
    unfolding allowed
    by_tests = rw (rows-there, lt-leb total row l, item-at us total row l) refl

    module _ {a b : Bool} (p : a ≡ elsewhere (nodes_in count ts)) (q : b ≡ is_no_title (item_from us (row * item_width))) where
      pub refuses_reference : a ≡ true → bad 36 0 ≡ allowed row (nodes_in count ts) (items_in total us)
      refuses_reference e = sym (by_tests ∙ rw (sym p ∙ e) refl)

      pub refuses_content : a ≡ false → b ≡ true → bad 37 0 ≡ allowed row (nodes_in count ts) (items_in total us)
      refuses_content e h = sym (by_tests ∙ rw (sym p ∙ e, sym q ∙ h) refl)

      pub refuses_none : a ≡ false → b ≡ false → good tt ≡ allowed row (nodes_in count ts) (items_in total us)
      refuses_none e h = sym (by_tests ∙ rw (sym p ∙ e, sym q ∙ h) refl)

-- ---- a content that is no title

module _ {q r : Item} (e : r ≡ q) where
  pub hidden : r.format % 2 ≡ 1 → true ≡ is_no_title q
  unfolding is_no_title is_hidden
  hidden h = rw (← e, eq-eqb (r.format % 2) 1 h) refl

  pub unhidden : (r.format % 2 ≡ 1 → ⊥) → not (eqb r.version 0) ≡ is_no_title q
  unfolding is_no_title is_hidden
  unhidden h = rw (← e, ne_eqb (r.format % 2) 1 h) refl
