-- What a child is, from its own item rows; and the children one by one.
-- Assumes nothing.
use mathlib.Core.Path.{◌≡◌, refl, sym, ap, ap₂, ◌∙◌}
use mathlib.Core.Bool.{Bool, true, false, cond, ◌&&◌}
use mathlib.Core.List.{List, ◌∷◌}
use Prim.Native.Nat.{ℕ, ◌+◌, ◌*◌, ◌-◌, ◌≤◌, ◌<◌}
use native.Mathlib.Omega.{arith}
use native.Mathlib.Decide.{dec_lt}
use lib.Dec.{ltb}
use lib.ListN.{length, get_or, drop, drop_of_length-le}
use borrow.Author.Tests.{eq-eqb, ne_eqb, lt-ltb, le-ltb}
use Rattle.machine.specs.Machine.{ok, refused, run}
use Rattle.cursor.specs.Rows.{meta_frame}
use Rattle.cursor.specs.Leaves.{number}
use Rattle.cursor.specs.declared.Node.{Node}
use Rattle.cursor.specs.declared.Item.{Item}
use Rattle.rows.specs.Rows.{node_width, item_width, node_from, item_from, nodes_in, items_in, item_at, no_node}
use Rattle.file.specs.Own.{items_of, own, first_row, part, Tables}
use Rattle.rows.proofs.Rows.{item-at, nodes-in_length}
use Rattle.file.proofs.Own.{items-numbered, drop-next, own-are}
use Rattle.description.specs.Row.{is_binary}
use Rattle.mobile.specs.Mobile.{role_of_type, role_of_number, role_of_row, role_of_rows, role_of}
use Rattle.mobile.specs.Pass.{child, no_children, children_from, children}
use Rattle.mobile.specs.Told.{NextRow}
use Rattle.mobile.specs.declared.Role.{Role}
use Rattle.mobile.specs.declared.Role.TheVariants as role
use Rattle.mobile.specs.declared.Children.{Children}

-- ---- one row of field 3

either_other : (b : Bool) → cond b role.Other role.Other ≡ role.Other
either_other true = refl
either_other false = refl

and_no : (b : Bool) → (b && false) ≡ false
and_no true = refl
and_no false = refl

module _ (f : List ℕ) (r : Item) where
  pub row_other : {b : Bool} → b ≡ is_binary r → b ≡ false → role.Other ≡ role_of_row f r
  unfolding role_of_row
  row_other h e = let x : is_binary r ≡ false = sym h ∙ e in simp x

  pub row-empty : r.size ≡ 0 → role.Other ≡ role_of_row f r
  unfolding role_of_row
  row-empty e = let x : ltb 0 r.size ≡ false = le-ltb 0 r.size (omega arith) in simp (x, and_no)

  pub row_first : ((get_or f r.place 0 ≡ 0) → ⊥) → role.Other ≡ role_of_row f r
  unfolding role_of_row
  row_first e = simp (ne_eqb _ _ e, and_no)

  pub row_cut : {k p : ℕ} → run (number meta_frame 3 (r.place + r.size)) f (r.place + 1) ≡ refused k p → role.Other ≡ role_of_row f r
  unfolding role_of_row role_of_number
  row_cut e = simp (e, either_other)

  module _ {v q : ℕ} (e : run (number meta_frame 3 (r.place + r.size)) f (r.place + 1) ≡ ok v q) where
    pub row-left : ((q ≡ r.place + r.size) → ⊥) → role.Other ≡ role_of_row f r
    unfolding role_of_row role_of_number
    row-left k = simp (e, ne_eqb _ _ k, either_other)

    pub row_type : {b : Bool} → b ≡ is_binary r → b ≡ true → ((r.size ≡ 0) → ⊥) → get_or f r.place 0 ≡ 0 → q ≡ r.place + r.size →
        {x : Role} → x ≡ role_of_type v → x ≡ role_of_row f r
    unfolding role_of_row role_of_number
    row_type h t s z k g =
        let b : is_binary r ≡ true = sym h ∙ t in
        let w : ltb 0 r.size ≡ true = lt-ltb 0 r.size (omega arith) in
        g ∙ sym (simp (b, w, eq-eqb _ _ z, e, eq-eqb _ _ k))

-- ---- the rows of field 3

module _ (f ws : List ℕ) (n : ℕ) {at end i : ℕ} (a : NextRow 3 (items_in n ws) at end i) where
  pub role_none : end ≤ i → role.Other ≡ role_of f (part (items_in n ws) at end)
  unfolding role_of role_of_rows
  role_none l = sym (ap (role_of_rows f) (a.none l))

  module _ {j : ℕ} (l : i < end) (b : NextRow 3 (items_in n ws) (i + 1) end j) where
    pub role_two : j < end → role.Other ≡ role_of f (part (items_in n ws) at end)
    unfolding role_of role_of_rows
    role_two k = sym (ap (role_of_rows f) (a.here l ∙ ap (λ v. item_at (items_in n ws) i ∷ v) (b.here k)))

    pub role_one : end ≤ j → i < n → {r : Item} → r ≡ item_from ws (i * item_width) → {x : Role} → x ≡ role_of_row f r → x ≡ role_of f (part (items_in n ws) at end)
    unfolding role_of role_of_rows
    role_one k h e g = g ∙ sym (ap (role_of_rows f) (a.here l ∙ ap (λ v. item_at (items_in n ws) i ∷ v) (b.none k)) ∙ ap (role_of_row f) (item-at ws n i h ∙ sym e))

-- ---- the children, one by one

-- where there are no more nodes
left-none : (f : List ℕ) (is : List Item) (k i : ℕ) (ns : List Node) → length ns ≤ i → children_from f is k (drop i ns) ≡ no_children
unfolding children_from
left-none f is k i ns l = ap (children_from f is k) (drop_of_length-le ns {i = i} l)

module _ {f ws vs : List ℕ} {n m : ℕ} (t : Tables f ws vs n m) where
  -- what the nodes from row i on are
  abbrev pub left : ℕ → Children
  left i = children_from f (items_in m vs) i (drop i (nodes_in n ws))

  pub children-begin : no_children ≡ left n
  children-begin = sym (left-none f (items_in m vs) n n (nodes_in n ws) (omega (arith, nodes-in_length ws n)))

  pub children-end : (i : ℕ) → i ≤ 1 → (1 ≤ n → 1 ≤ i) → {c : Children} → c ≡ left i → c ≡ children f (nodes_in n ws) (items_in m vs)
  unfolding children
  children-end i l h e = elim (dec_lt 0 n) [
    | yes z ↦ (let k = h z in let x : i ≡ 1 = omega arith in e ∙ ap left x)
    | no z ↦ (
        let s = nodes-in_length ws n in
        e ∙ left-none f (items_in m vs) i i (nodes_in n ws) (omega arith) ∙ sym (left-none f (items_in m vs) 1 1 (nodes_in n ws) (omega arith))
        )
  ]

  -- node j, whose own rows end before row `end`
  module _ (i j : ℕ) (q : i ≡ j + 1) (l : j < n) {r : Node} (e : r ≡ node_from ws (j * node_width)) {end : ℕ} (a : end ≡ first_row (nodes_in n ws) i) where
    pub child-next : {x : Role} → x ≡ role_of f (part (items_in m vs) (end - r.rows) end) → {c d : Children} → c ≡ left i → d ≡ child x j c → d ≡ left j
    unfolding children_from
    child-next {x} g {c} {d} h k =
        let rows_are : items_of (own (items_in m vs) j) ≡ part (items_in m vs) (end - r.rows) end = ap items_of (own-are t i j q l e a) ∙ items-numbered _ _ in
        k ∙ ap₂ (λ (y : Role) (z : Children). child y j z) (g ∙ ap (role_of f) (sym rows_are)) (h ∙ ap left q)
        ∙ sym (ap (children_from f (items_in m vs) j) (drop-next (nodes_in n ws) j no_node (omega (arith, nodes-in_length ws n))))
