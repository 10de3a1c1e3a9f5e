-- The contents that can be corrected, and the file with another one, as the code comes to them.
-- Assumes nothing.
use mathlib.Core.Path.{◌≡◌, refl, sym, ap, ◌∙◌}
use mathlib.Core.Bool.{Bool, true, false}
use mathlib.Core.List.{List, [], ◌∷◌, ◌++◌, append_assoc}
use Prim.Native.Nat.{ℕ, ◌*◌, ◌-◌, ◌≤◌, ◌<◌}
use native.Mathlib.Omega.{arith}
use lib.ListN.{length, length-append, take, replicate}
use lib.Seq.{take-append_seam}
use borrow.Author.Tests.{eq-eqb, ne_eqb, le-leb, lt-leb}
use Rattle.std.proofs.Common as std
use Rattle.std.proofs.Common.{Ok, Err}
use Rattle.refusals.specs.Reasons.{number_of}
use Rattle.refusals.specs.declared.Refusal.{Refusal}
use Rattle.cursor.specs.declared.Item.{Item}
use Rattle.metadata.specs.Tables.{full_nodes, full_items, limits}
use Rattle.rows.specs.Rows.{item_width, nodes_in, item_from, items_in, rows_from}
use Rattle.io.specs.Counts.{IsPrefixLen}
use Rattle.io.proofs.Counting.{prefix_len_of_le}
use Rattle.room.specs.Room.{Result, good, bad, padded, fitting, counted, kept}
use Rattle.refusals.specs.Told.{told}
use Rattle.room.specs.Decimal.{decimal}
use Rattle.file.specs.Reading.{read_of, read_file}
use Rattle.file.specs.Asking.{ask}
use Rattle.file.specs.declared.Summary.{Summary}
use Rattle.file.proofs.Rows.{Standing}
use Rattle.text.specs.Text.{tabbed}
use Rattle.sheet.specs.Sheet.{item_line}
use Rattle.title_text.specs.Title.{elsewhere, is_no_title, correct_title}
use Rattle.utf16.specs.Unicode.{to_utf16}
use Rattle.lines.specs.Answer.{plainly, refused_by, fitted, printed, reads}
use Rattle.titles.specs.Titles.{title_line, title_lines, titles, titles_answer, title_format, typed, typed_answer, corrected_answer, retitled_answer}
use Rattle.lines.proofs.Ending.{printed-good, printed-bad}
use Rattle.lines.proofs.Reading.{Lined, full, known, refused, accepted, count-is, row_is}

-- ---- a line

module _ (f : List ℕ) (k : ℕ) (r : Item) {b : Bool} (e : b ≡ is_no_title r) where
  pub line-none : b ≡ true → [] ≡ title_line f k r
  unfolding title_line
  line-none t = simp (sym e ∙ t)

  pub line-is : b ≡ false → decimal k ++ (0x09 ∷ []) ++ item_line f r ≡ title_line f k r
  unfolding title_line tabbed
  line-is t = simp (append_assoc, sym e ∙ t)

pub titles-lined : (f : List ℕ) → Lined (title_line f) (title_lines f)
unfolding title_lines
titles-lined f = record { none = λ k. refl; next = λ k r rs. refl }

pub titles-start : (f ws : List ℕ) (count : ℕ) → title_lines f 0 (items_in count ws) ≡ title_lines f 0 (rows_from item_width item_from 0 (count - 0) ws)
unfolding items_in
titles-start f ws count = let e : count - 0 ≡ count = omega arith in rw e

-- ---- the list

module _ (f : List ℕ) {n i : ℕ} (en : full_nodes ≡ n) (ei : full_items ≡ i) where
  module _ (room : ℕ) where
    module _ {s : Summary} {t u : List ℕ} (st : Standing f (read_file (limits n i) f) s t u) {b : Bool} (e : b ≡ elsewhere (nodes_in s.nodes t)) where
      refers : {c : Bool} → b ≡ c → elsewhere st.ns ≡ c
      refers k = ap elsewhere (sym st.nodes-are) ∙ sym e ∙ k

      pub titles-none : b ≡ true → refused_by room [] 36 0 ≡ titles_answer room f
      unfolding titles_answer titles
      titles-none k = printed-bad plainly _ _ (known f en ei st (titles f) ∙ rw (refers k))

      pub titles-good : b ≡ false → fitted room [] (plainly (title_lines f 0 (items_in s.items u))) ≡ titles_answer room f
      unfolding titles_answer titles
      titles-good k = rw st.items-are (printed-good plainly _ _ (known f en ei st (titles f) ∙ rw (refers k)))

    pub corrected-as : (row : ℕ) (bytes : List ℕ) → printed room [] plainly (ask (read_file (limits n i) f) (correct_title row bytes room f)) ≡ corrected_answer room row bytes f
    unfolding corrected_answer
    corrected-as row bytes = ap (printed room [] plainly) (full f en ei (correct_title row bytes room f))

  -- ---- an item row

  module _ (row : ℕ) where
    pub format-refused : {r : std.Result Summary Refusal} → told r ≡ read_of (read_file (limits n i) f) → {k : Refusal} → r ≡ Err k → 1 ≡ title_format row (reads f)
    unfolding title_format
    format-refused e k = rw (refused f en ei e k)

    module _ {s : Summary} {t u : List ℕ} (st : Standing f (read_file (limits n i) f) s t u) where
      pub format-past : s.items ≤ row → 1 ≡ title_format row (reads f)
      unfolding title_format
      format-past l = let c = count-is st in rw (accepted f en ei st, le-leb (length st.is) row (omega arith))

      module _ (l : row < s.items) {b : Bool} (e : b ≡ is_no_title (item_from u (row * item_width))) where
        pub format-none : b ≡ true → 1 ≡ title_format row (reads f)
        unfolding title_format
        format-none k = let c = count-is st in rw (accepted f en ei st, lt-leb (length st.is) row (omega arith), row_is st row l, sym e ∙ k)

        pub format-is : b ≡ false → {x : Item} → x ≡ item_from u (row * item_width) → x.format ≡ title_format row (reads f)
        unfolding title_format
        format-is k h = let c = count-is st in rw (h, accepted f en ei st, lt-leb (length st.is) row (omega arith), row_is st row l, sym e ∙ k)

-- ---- the file with a title

good-is : (size m : ℕ) (buf : List ℕ) (x : Result (List ℕ)) → good m ≡ counted x → buf ≡ kept size x → IsPrefixLen m buf × (x ≡ good (take m buf))
unfolding counted kept padded
good-is size m buf (good s) e k =
    let z : m ≡ length s = cc in let l = ap length k in
    let q = length-append s (replicate (size - length s) 0) in
    (prefix_len_of_le m buf (omega arith), ap good (sym (rw z (ap (take (length s)) k ∙ take-append_seam s (replicate (size - length s) 0)))))
good-is size m buf (bad n q) e k = let z : ◌≡◌ {A = ℕ} 0 1 = cc in absurd (omega arith)

bad-is : (m p : ℕ) (x : Result (List ℕ)) → bad m p ≡ counted x → x ≡ bad m p
unfolding counted
bad-is m p (good s) e = let z : ◌≡◌ {A = ℕ} 0 1 = cc in absurd (omega arith)
bad-is m p (bad a b) e = let x : m ≡ a = cc in let y : p ≡ b = cc in rw (x, y)

module _ (room row : ℕ) (title f : List ℕ) {format : ℕ} (e : format ≡ title_format row (reads f)) where
  pub plain-is : (format ≡ 2 → ⊥) → corrected_answer room row title f ≡ retitled_answer room row title f
  unfolding retitled_answer typed typed_answer
  plain-is n = rw (← e, ne_eqb format 2 n)

  module _ (k : format ≡ 2) {size : ℕ} (z : 65536 ≡ size) where
    units-are : {x : Result (List ℕ)} → fitting size (to_utf16 title) ≡ x → typed_answer room row x f ≡ retitled_answer room row title f
    unfolding retitled_answer typed
    units-are x = rw (← e, eq-eqb format 2 k, z, x)

    pub units-bad : {w : std.Result ℕ Refusal} → told w ≡ counted (fitting size (to_utf16 title)) → {r : Refusal} → w ≡ Err r → refused_by room [] (number_of r.0) r.1 ≡ retitled_answer room row title f
    unfolding typed_answer
    units-bad h {r} g = units-are (bad-is (number_of r.0) r.1 (fitting size (to_utf16 title)) (sym (ap told g) ∙ h))

    pub units-good : {w : std.Result ℕ Refusal} → told w ≡ counted (fitting size (to_utf16 title)) → {m : ℕ} → w ≡ Ok m → (buf : List ℕ) → buf ≡
        kept size (fitting size (to_utf16 title)) → corrected_answer room row (take m buf) f ≡ retitled_answer room row title f
    unfolding typed_answer
    units-good h {m} g buf v = units-are (good-is size m buf (fitting size (to_utf16 title)) (sym (ap told g) ∙ h) v).1

pub units-counted : (size : ℕ) (title : List ℕ) {w : std.Result ℕ Refusal} → told w ≡ counted (fitting size (to_utf16 title)) → {m : ℕ} → w ≡
    Ok m → (buf : List ℕ) → buf ≡ kept size (fitting size (to_utf16 title)) → IsPrefixLen m buf
units-counted size title h {m} g buf v = (good-is size m buf (fitting size (to_utf16 title)) (sym (ap told g) ∙ h) v).0
