-- How many bytes a line has at least, by the sizes of its row's name and data.
-- Assumes nothing.
use mathlib.Core.Path.{◌≡◌, refl, sym, ap}
use mathlib.Core.Bool.{Bool, true, false, cond, ◌&&◌}
use mathlib.Core.List.{List, []}
use Prim.Native.Nat.{ℕ, zero, suc, ◌+◌, ◌*◌, ◌-◌, ◌/◌, ◌%◌, ◌≤◌, ◌<◌}
use native.Mathlib.Omega.{arith}
use lib.Dec.{ltb, leb, eqb}
use lib.ListN.{length, length-append}
use borrow.Author.Tests.{eq-eqb, ne_eqb, eqb-true, eqb-false, lt-ltb, le-ltb, lt-leb, le-leb}
use Rattle.cursor.specs.declared.Item.{Item}
use Rattle.rows.specs.Rows.{item_width, item_from, items_from, rows_from, ItemIn}
use Rattle.file.specs.Hidden.{is_hidden}
use Rattle.rows.proofs.Rows.{name_in}
use Rattle.utf16.proofs.Walk.{Bytes}
use Rattle.text.specs.Text.{tabbed}
use Rattle.text.proofs.Least.{escaped-least, unicode-least}
use Rattle.sheet.specs.Sheet.{label, text_of, item_line, visible_line, item_lines}
use Rattle.sheet.specs.Inside.{least_text, least_line, least_lines}
use Rattle.sheet.proofs.Lines.{text-unicode, text-plain, label-custom}

-- what the lines of the rows from `from` to `end` have at least
abbrev pub least : (items : List ℕ) (from end : ℕ) → ℕ
least items from end = least_lines (items_from from (end - from) items)

-- ---- the bytes of a line

module _ (f : List ℕ) (h : Bytes f) (r : Item) (in_file : ItemIn (length f) r) where
  -- a line has more bytes than its label and its text, by two at least
  over : length (label f r) + length (text_of f r) + 2 ≤ length (item_line f r)
  unfolding item_line tabbed
  over = simp length-append (omega arith)

  name-least : r.kind ≡ 1 → r.name_length ≤ length (item_line f r)
  unfolding tabbed
  name-least e =
      let x = escaped-least f r.field r.name_length (name_in r in_file e) in
      let y = ap length (label-custom f r e) in let z = over in
      omega arith

  line-by : (p : Bool) → eqb r.format 2 ≡ p → cond p (r.size / 2) r.size ≤ length (item_line f r)
  line-by true e =
      let x = unicode-least f h r.place r.size in_file.0 in
      let y = ap length (text-unicode f r (eqb-true r.format 2 e)) in
      let z = over in
      omega arith
  line-by false e =
      let x = escaped-least f r.place r.size in_file.0 in
      let y = ap length (text-plain f r (eqb-false r.format 2 e)) in
      let z = over in
      omega arith

  text-least : least_text r ≤ length (item_line f r)
  unfolding least_text
  text-least = line-by (eqb r.format 2) refl

  named_by : (p q : Bool) → eqb r.kind 1 ≡ p → cond (p && q) r.name_length (least_text r) ≤ length (item_line f r)
  named_by true true e = name-least (eqb-true r.kind 1 e)
  named_by true false e = text-least
  named_by false q e = text-least

  visible-by : (p : Bool)
      → cond p 0 (cond (eqb r.kind 1 && ltb r.size r.name_length) r.name_length (least_text r)) ≤ length (cond p [] (item_line f r))
  visible-by true = omega arith
  visible-by false = named_by (eqb r.kind 1) (ltb r.size r.name_length) refl

  pub line-least : least_line r ≤ length (visible_line f r)
  unfolding least_line visible_line
  line-least = visible-by (is_hidden r)

-- ---- rows

module _ (us : List ℕ) where
  pub least_on : (i end : ℕ) → i < end → least_lines (items_from i (end - i) us) ≡ least_line (item_from us (i * item_width)) + least_lines
      (items_from (i + 1) (end - (i + 1)) us)
  unfolding rows_from least_lines
  least_on i end l = let e : end - i ≡ suc (end - (i + 1)) = omega arith in rw e

  pub least-end : (i end : ℕ) → end ≤ i → least_lines (items_from i (end - i) us) ≡ 0
  unfolding rows_from least_lines
  least-end i end l = let e : end - i ≡ 0 = omega arith in rw e

  pub lines-least : (f : List ℕ) → Bytes f → (i n : ℕ) → ((j : ℕ) → j < i + n → ItemIn (length f) (item_from us (j * item_width)))
      → least_lines (items_from i n us) ≤ length (item_lines f (items_from i n us))
  unfolding rows_from least_lines item_lines
  lines-least f h i zero p = omega arith
  lines-least f h i (suc n) p =
      let x = line-least f h (item_from us (i * item_width)) (p i (omega arith)) in
      let y = lines-least f h (i + 1) n (λ j l. p j (omega arith)) in
      let z = length-append (visible_line f (item_from us (i * item_width))) (item_lines f (items_from (i + 1) n us)) in
      omega arith

pub over-room : (need size : ℕ) → size < need → false ≡ leb need size
over-room need size l = sym (lt-leb need size l)

pub in_room : (need size : ℕ) → need ≤ size → true ≡ leb need size
in_room need size l = sym (le-leb need size l)

-- ---- the count that the code makes

pub least-hidden : (r : Item) → r.format % 2 ≡ 1 → 0 ≡ least_line r
unfolding least_line is_hidden
least-hidden r e = simp (eq-eqb (r.format % 2) 1 e)

pub least-name : (r : Item) → (r.format % 2 ≡ 1 → ⊥) → r.kind ≡ 1 → r.size < r.name_length → r.name_length ≡ least_line r
unfolding least_line is_hidden
least-name r n e l = simp (ne_eqb (r.format % 2) 1 n, eq-eqb r.kind 1 e, lt-ltb r.size r.name_length l)

module _ (r : Item) (n : r.format % 2 ≡ 1 → ⊥) where
  pub least-standard : (r.kind ≡ 1 → ⊥) → least_text r ≡ least_line r
  unfolding least_line is_hidden
  least-standard m = simp (ne_eqb (r.format % 2) 1 n, ne_eqb r.kind 1 m)

  pub least-custom : r.kind ≡ 1 → r.name_length ≤ r.size → least_text r ≡ least_line r
  unfolding least_line is_hidden
  least-custom e l = simp (ne_eqb (r.format % 2) 1 n, eq-eqb r.kind 1 e, le-ltb r.size r.name_length l)

pub least-unicode : (r : Item) → r.format ≡ 2 → r.size / 2 ≡ least_text r
unfolding least_text
least-unicode r e = simp (eq-eqb r.format 2 e)

pub least-plain : (r : Item) → (r.format ≡ 2 → ⊥) → r.size ≡ least_text r
unfolding least_text
least-plain r m = simp (ne_eqb r.format 2 m)
