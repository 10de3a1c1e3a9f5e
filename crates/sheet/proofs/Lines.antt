-- The definitions of the sheet, step by step as the code takes them.
-- Assumes nothing.
use mathlib.Core.Path.{◌≡◌, refl, sym, ap, ap₂, ◌∙◌}
use mathlib.Core.Bool.{Bool, true, false}
use mathlib.Core.List.{List, [], ◌∷◌, ◌++◌, append_assoc}
use Prim.Native.Nat.{ℕ, zero, suc, ◌+◌, ◌*◌, ◌-◌, ◌%◌, ◌≤◌, ◌<◌, min}
use native.Mathlib.Omega.{arith}
use lib.ListN.{length, take, drop}
use borrow.Author.Tests.{eq-eqb, ne_eqb}
use Rattle.cursor.specs.declared.Node.{Node}
use Rattle.cursor.specs.declared.Item.{Item}
use Rattle.rows.specs.Rows.{node_width, item_width, node_from, item_from, nodes_from, items_from, nodes_in, items_in, rows_from}
use Rattle.rows.proofs.Rows.{nodes-in_length, items-in_length}
use Rattle.file.specs.Hidden.{is_hidden}
use Rattle.text.specs.Text.{escaped_part, unicode_text, tabbed, number}
use Rattle.sheet.specs.Sheet.{head_fields, first_line, node_line, label, text_of, item_line, visible_line, node_lines, item_lines, lines_of, first_line2, group_lines, lines2_of, lines_in}

-- ---- lines, as the bytes that are put one after the other

pub node-is : (i : ℕ) (r : Node)
    → (0x4E ∷ []) ++ number i ++ number r.parent ++ number r.depth ++ number r.reference ++ number r.target ++ number r.extent ++ (0x0A ∷ []) ≡ node_line i r
unfolding node_line
node-is i r = refl

item-one : (f : List ℕ) (r : Item)
    → (0x4D ∷ []) ++ number r.node ++ label f r ++ number r.version ++ number r.format ++ (0x09 ∷ []) ++ text_of f r ++ (0x0A ∷ []) ≡ item_line f r
unfolding item_line tabbed
item-one f r = simp append_assoc

-- the row is read anew for each field
pub item-is : (f : List ℕ) (r : Item) {a b c d e : Item} → a ≡ r → b ≡ r → c ≡ r → d ≡ r → e ≡ r
    → (0x4D ∷ []) ++ number a.node ++ label f b ++ number c.version ++ number d.format ++ (0x09 ∷ []) ++ text_of f e ++ (0x0A ∷ []) ≡ item_line f r
item-is f r ha hb hc hd he = rw (ha, hb, hc, hd, he) (item-one f r)

pub text-unicode : (f : List ℕ) (r : Item) → r.format ≡ 2 → unicode_text f r.place r.size ≡ text_of f r
unfolding text_of
text-unicode f r e = simp (eq-eqb r.format 2 e)

pub text-plain : (f : List ℕ) (r : Item) → (r.format ≡ 2 → ⊥) → escaped_part f r.place r.size ≡ text_of f r
unfolding text_of
text-plain f r n = simp (ne_eqb r.format 2 n)

-- the sheet of rows that stand in tables, in either edition
module _ (v n m : ℕ) (f ws us : List ℕ) where
  abbrev ns : List Node
  ns = nodes_in n ws

  abbrev is : List Item
  is = items_in m us

  pub put_first : {second : Bool} → second ≡ false
      → (0x58 ∷ 0x4D ∷ 0x46 ∷ 0x09 ∷ []) ++ head_fields v (length f) n m ++ node_lines 0 ns ++ item_lines f (items_from 0 (m - 0) us) ≡ lines_in second v f ns is
  unfolding lines_of first_line tabbed items_in
  put_first e = let z : m - 0 ≡ m = omega arith in rw (e, z, nodes-in_length ws n, items-in_length us m)

  pub put_second : {second : Bool} → second ≡ true → (0x58 ∷ 0x4D ∷ 0x46 ∷ 0x32 ∷ 0x09 ∷ []) ++ head_fields v (length f) n m ++ group_lines f 0 ns is ≡ lines_in second v f ns is
  unfolding lines2_of first_line2 tabbed
  put_second e = rw (e, nodes-in_length ws n, items-in_length us m)

-- ---- rows

module _ (ws : List ℕ) (count : ℕ) where
  pub nodes-on : (i : ℕ) → i < count → {r : Node} → r ≡ node_from ws (i * node_width) → node_lines i (nodes_from i (count - i) ws) ≡ node_line i r
      ++ node_lines (i + 1) (nodes_from (i + 1) (count - (i + 1)) ws)
  unfolding rows_from node_lines
  nodes-on i l e = let n : count - i ≡ suc (count - (i + 1)) = omega arith in rw (n, e)

  pub nodes-end : (i : ℕ) → count ≤ i → node_lines i (nodes_from i (count - i) ws) ≡ []
  unfolding rows_from node_lines
  nodes-end i l = let e : count - i ≡ 0 = omega arith in rw e

  pub nodes-start : node_lines 0 (nodes_in count ws) ≡ node_lines 0 (nodes_from 0 (count - 0) ws)
  unfolding nodes_in
  nodes-start = let e : count - 0 ≡ count = omega arith in rw e

  module _ (f : List ℕ) where
    pub items-on : (i : ℕ) → i < count → item_lines f (items_from i (count - i) ws) ≡ visible_line f (item_from ws (i * item_width)) ++ item_lines f
        (items_from (i + 1) (count - (i + 1)) ws)
    unfolding rows_from item_lines
    items-on i l = let e : count - i ≡ suc (count - (i + 1)) = omega arith in rw e

    pub items-end : (i : ℕ) → count ≤ i → item_lines f (items_from i (count - i) ws) ≡ []
    unfolding rows_from item_lines
    items-end i l = let e : count - i ≡ 0 = omega arith in rw e

module _ (f : List ℕ) (r : Item) where
  pub label-custom : r.kind ≡ 1 → (0x09 ∷ []) ++ (0x43 ∷ []) ++ (0x09 ∷ []) ++ escaped_part f r.field r.name_length ≡ label f r
  unfolding label tabbed
  label-custom e = simp (eq-eqb r.kind 1 e)

  pub label-standard : (r.kind ≡ 1 → ⊥) → (0x09 ∷ []) ++ (0x53 ∷ []) ++ number r.field ≡ label f r
  unfolding label tabbed
  label-standard n = simp (ne_eqb r.kind 1 n)

  pub line-hidden : {x : Item} → x ≡ r → x.format % 2 ≡ 1 → [] ≡ visible_line f r
  unfolding visible_line is_hidden
  line-hidden h e = simp (eq-eqb (r.format % 2) 1 (rw h at e))

  pub line-shown : {x : Item} → x ≡ r → (x.format % 2 ≡ 1 → ⊥) → item_line f r ≡ visible_line f r
  unfolding visible_line is_hidden
  line-shown h n = simp (ne_eqb (r.format % 2) 1 (rw h at n))

-- ---- the second edition

-- of rows from i on, the first c, and those behind them
take-rows : (us : List ℕ) (c i n m : ℕ) → m ≡ min c n → take c (items_from i n us) ≡ items_from i m us
unfolding rows_from
take-rows us zero i n m e = let z : 0 ≡ m = omega arith in ap (λ k. items_from i k us) z
take-rows us (suc c) i zero m e = let z : 0 ≡ m = omega arith in ap (λ k. items_from i k us) z
take-rows us (suc c) i (suc n) m e =
    let z : suc (m - 1) ≡ m = omega arith in
    ap (λ v. item_from us (i * item_width) ∷ v) (take-rows us c (i + 1) n (m - 1) (omega arith)) ∙ ap (λ k. items_from i k us) z

drop-rows : (us : List ℕ) (c i n m : ℕ) → m ≡ min c n → drop c (items_from i n us) ≡ items_from (i + m) (n - m) us
unfolding rows_from
drop-rows us zero i n m e =
    let x : i ≡ i + m = omega arith in let y : n ≡ n - m = omega arith in
    ap₂ (λ j k. items_from j k us) x y
drop-rows us (suc c) i zero m e =
    let y : 0 ≡ 0 - m = omega arith in
    ap (λ k. items_from (i + m) k us) y
drop-rows us (suc c) i (suc n) m e =
    let x : i + 1 + (m - 1) ≡ i + m = omega arith in let y : n - (m - 1) ≡ suc n - m = omega arith in
    drop-rows us c (i + 1) n (m - 1) (omega arith) ∙ ap₂ (λ j k. items_from j k us) x y

module _ (f ws us : List ℕ) (rows contents : ℕ) where
  abbrev groups : (i first : ℕ) → List ℕ
  groups i first = group_lines f i (nodes_from i (rows - i) ws) (items_from first (contents - first) us)

  pub groups-start : groups 0 0 ≡ group_lines f 0 (nodes_in rows ws) (items_in contents us)
  unfolding nodes_in items_in
  groups-start = let x : rows - 0 ≡ rows = omega arith in let y : contents - 0 ≡ contents = omega arith in rw (x, y) refl

  pub groups-end : (i first : ℕ) → rows ≤ i → groups i first ≡ []
  unfolding rows_from group_lines
  groups-end i first l = let e : rows - i ≡ 0 = omega arith in rw e refl

  pub groups-on : (i first end : ℕ) → i < rows → first ≤ contents → {r : Node} → r ≡ node_from ws (i * node_width) → end ≡ first + min r.rows (contents - first)
      → groups i first ≡ node_line i r ++ (item_lines f (items_from first (end - first) us) ++ groups (i + 1) end)
  unfolding rows_from group_lines
  groups-on i first end l h {r} e w =
      let n : rows - i ≡ suc (rows - (i + 1)) = omega arith in
      let m : end - first ≡ min r.rows (contents - first) = omega arith in
      let x : first + (end - first) ≡ end = omega arith in
      let y : contents - first - (end - first) ≡ contents - end = omega arith in
      ap (λ k. group_lines f i (nodes_from i k ws) (items_from first (contents - first) us)) n
      ∙ ap (λ (v : Node). group_lines f i (v ∷ nodes_from (i + 1) (rows - (i + 1)) ws) (items_from first (contents - first) us)) (sym e)
      ∙ rw (take-rows us r.rows first (contents - first) (end - first) m, drop-rows us r.rows first (contents - first) (end - first) m, x, y, append_assoc)
