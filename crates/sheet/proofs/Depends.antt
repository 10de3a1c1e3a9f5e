-- The sheet depends on few bytes of the file: those of the visible rows' data and of the custom names.
-- Assumes nothing.
use mathlib.Core.Path.{◌≡◌, refl, ap, ap₂}
use mathlib.Core.Bool.{Bool, true, false, cond}
use mathlib.Core.List.{List, [], ◌∷◌, ◌++◌}
use Prim.Native.Nat.{ℕ, zero, suc, ◌+◌, ◌%◌, ◌<◌}
use native.Mathlib.Omega.{arith}
use lib.Dec.{eqb}
use lib.ListN.{length, take, drop}
use borrow.Author.Tests.{eqb-true, eqb-false}
use Rattle.cursor.specs.declared.Node.{Node}
use Rattle.cursor.specs.declared.Item.{Item}
use Rattle.machine.proofs.Agree.{Agree}
use Rattle.cursor.proofs.Agree.{part_same}
use Rattle.header.specs.Header.{Header}
use Rattle.rows.specs.Rows.{item_at}
use Rattle.file.specs.Hidden.{is_hidden}
use Rattle.utf16.specs.Unicode.{bytes_all}
use Rattle.text.specs.Text.{escaped, escaped_part, unicode_text, tabbed, number}
use Rattle.sheet.specs.Sheet.{label, text_of, item_line, visible_line, item_lines, lines_of, sheet_of, group_lines, lines2_of}

-- the files agree on a row's data where its format is even, and on its custom name
abbrev pub Shown : List ℕ → List ℕ → Item → Type 0
Shown f g r = (r.format % 2 ≡ 0 → Agree f g r.place r.size) × (r.kind ≡ 1 → Agree f g r.field r.name_length)

module _ (f g : List ℕ) (same : length f ≡ length g) (r : Item) (h : Shown f g r) where
  label-by : (b : Bool) → eqb r.kind 1 ≡ b
      → cond b (tabbed (0x43 ∷ tabbed (escaped_part f r.field r.name_length))) (tabbed (0x53 ∷ number r.field)) ≡ cond b
      (tabbed (0x43 ∷ tabbed (escaped_part g r.field r.name_length))) (tabbed (0x53 ∷ number r.field))
  unfolding escaped_part
  label-by true e = ap (λ (t : List ℕ). tabbed (0x43 ∷ tabbed t)) (ap (bytes_all escaped) (part_same f g same r.field r.name_length (h.1 (eqb-true r.kind 1 e))))
  label-by false e = refl

  label_same : label f r ≡ label g r
  unfolding label
  label_same = label-by (eqb r.kind 1) refl

  pub text_same : r.format % 2 ≡ 0 → text_of f r ≡ text_of g r
  unfolding text_of unicode_text escaped_part
  text_same e = rw (part_same f g same r.place r.size (h.0 e))

  pub line_same : r.format % 2 ≡ 0 → item_line f r ≡ item_line g r
  unfolding item_line
  line_same e =
      ap₂ (λ (l : List ℕ) (t : List ℕ). 0x4D ∷ number r.node ++ l ++ number r.version ++ number r.format ++ tabbed t ++ 0x0A ∷ []) label_same (text_same e)

  line-by : (b : Bool) → eqb (r.format % 2) 1 ≡ b → cond b [] (item_line f r) ≡ cond b [] (item_line g r)
  line-by true e = refl
  line-by false e = let n = eqb-false (r.format % 2) 1 e in line_same (omega arith)

  pub visible-same : visible_line f r ≡ visible_line g r
  unfolding visible_line is_hidden
  visible-same = line-by (eqb (r.format % 2) 1) refl

items-same : (f g : List ℕ) → length f ≡ length g → (is : List Item) → ((i : ℕ) → i < length is → Shown f g (item_at is i)) → item_lines f is ≡ item_lines g is
unfolding item_lines
items-same f g e [] h = refl
items-same f g e (r ∷ is) h = ap₂ (λ (a : List ℕ) (b : List ℕ). a ++ b) (visible-same f g e r (h 0 (omega arith))) (items-same f g e is (λ i l. h (suc i) (omega arith)))

-- files of equal length that agree so on every row have the same sheet
pub sheet_same : (f g : List ℕ) (h : Header) (ns : List Node) (is : List Item) → length f ≡ length g →
    ((i : ℕ) → i < length is → Shown f g (item_at is i)) → sheet_of f h ns is ≡ sheet_of g h ns is
unfolding sheet_of lines_of
sheet_same f g h ns is e s = rw (e, items-same f g e is s)

-- ---- the second edition, which shows the same rows in another order

module _ (f g : List ℕ) (e : length f ≡ length g) where
  abbrev AllShown : List Item → Type 0
  AllShown is = (i : ℕ) → i < length is → Shown f g (item_at is i)

  taken-shown : (c : ℕ) (is : List Item) → AllShown is → AllShown (take c is)
  taken-shown zero is h i l = absurd (omega arith)
  taken-shown (suc c) [] h i l = absurd (omega arith)
  taken-shown (suc c) (r ∷ is) h zero l = h 0 (omega arith)
  taken-shown (suc c) (r ∷ is) h (suc i) l = taken-shown c is (λ j m. h (suc j) (omega arith)) i (omega arith)

  dropped-shown : (c : ℕ) (is : List Item) → AllShown is → AllShown (drop c is)
  dropped-shown zero is h = h
  dropped-shown (suc c) [] h = h
  dropped-shown (suc c) (r ∷ is) h = dropped-shown c is (λ j m. h (suc j) (omega arith))

  groups-same : (k : ℕ) (ns : List Node) (is : List Item) → AllShown is → group_lines f k ns is ≡ group_lines g k ns is
  unfolding group_lines
  groups-same k [] is h = refl
  groups-same k (r ∷ ns) is h = rw (items-same f g e (take r.rows is) (taken-shown r.rows is h), groups-same (k + 1) ns (drop r.rows is) (dropped-shown r.rows is h))

  pub sheet2_same : (version : ℕ) (ns : List Node) (is : List Item) → AllShown is → lines2_of version f ns is ≡ lines2_of version g ns is
  unfolding lines2_of
  sheet2_same version ns is h = rw (e, groups-same 0 ns is h)
