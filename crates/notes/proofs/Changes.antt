-- The text of an item row, and what a correction changed, as the code comes to them.
-- Assumes nothing.
use mathlib.Core.Path.{◌≡◌, refl, sym, ◌∙◌}
use mathlib.Core.Bool.{Bool, true, false}
use mathlib.Core.List.{List, [], ◌∷◌, ◌++◌}
use Prim.Native.Nat.{ℕ, ◌*◌, ◌≤◌, ◌<◌}
use native.Mathlib.Omega.{arith}
use lib.ListN.{length, take}
use lib.Seq.{take-append_seam}
use borrow.Author.Tests.{le-leb, lt-leb}
use Rattle.std.proofs.Common as std
use Rattle.std.proofs.Common.{Ok, Err}
use Rattle.refusals.specs.declared.Refusal.{Refusal}
use Rattle.cursor.specs.declared.Item.{Item}
use Rattle.metadata.specs.Tables.{full_nodes, full_items, limits}
use Rattle.rows.specs.Rows.{item_width, item_from}
use Rattle.refusals.specs.Told.{told}
use Rattle.room.specs.Counts.{Counts}
use Rattle.room.proofs.Counting.{wrote-front, wrote-past}
use Rattle.file.specs.Reading.{read_of, read_file}
use Rattle.file.specs.declared.Summary.{Summary}
use Rattle.file.proofs.Rows.{Standing}
use Rattle.text.specs.Text.{tabbed, number}
use Rattle.sheet.specs.Sheet.{text_of}
use Rattle.title_text.specs.Title.{is_no_title}
use Rattle.lines.specs.Answer.{reads}
use Rattle.lines.proofs.Reading.{refused, accepted, count-is, row_is}
use Rattle.notes.specs.Safe.{safe_text}
use Rattle.notes.specs.Changes.{row_text, shown_text, title_field, changes_text}

-- ---- the text of an item row

module _ (f : List ℕ) {n i : ℕ} (en : full_nodes ≡ n) (ei : full_items ≡ i) (row : ℕ) where
  pub text-refused : {r : std.Result Summary Refusal} → told r ≡ read_of (read_file (limits n i) f) → {k : Refusal} → r ≡ Err k → [] ≡ row_text row f (reads f)
  unfolding row_text
  text-refused e k = rw (refused f en ei e k)

  module _ {s : Summary} {t u : List ℕ} (st : Standing f (read_file (limits n i) f) s t u) where
    pub text-past : s.items ≤ row → [] ≡ row_text row f (reads f)
    unfolding row_text
    text-past l = let c = count-is st in rw (accepted f en ei st, le-leb (length st.is) row (omega arith))

    module _ (l : row < s.items) {b : Bool} (e : b ≡ is_no_title (item_from u (row * item_width))) where
      pub text-none : b ≡ true → [] ≡ row_text row f (reads f)
      unfolding row_text
      text-none k = let c = count-is st in rw (accepted f en ei st, lt-leb (length st.is) row (omega arith), row_is st row l, sym e ∙ k)

      pub text-is : b ≡ false → {x : Item} → x ≡ item_from u (row * item_width) → text_of f x ≡ row_text row f (reads f)
      unfolding row_text
      text-is k h = let c = count-is st in rw (h, accepted f en ei st, lt-leb (length st.is) row (omega arith), row_is st row l, sym e ∙ k)

-- ---- its field

module _ (row : ℕ) (f : List ℕ) {o o' : List ℕ} {n : ℕ} (p : Counts o o' 0 (row_text row f (reads f)) n) (z : 196608 ≡ length o) where
  pub field-none : 196608 < n → 0x09 ∷ [] ≡ title_field row f
  unfolding title_field shown_text tabbed
  field-none l = let w = wrote-past p (omega arith) in rw (lt-leb (length (row_text row f (reads f))) 196608 (omega arith))

  pub field_is : n ≤ 196608 → (0x09 ∷ []) ++ safe_text 200 (take n o') ≡ title_field row f
  unfolding title_field shown_text tabbed
  field_is l =
      let w = wrote-front p (omega arith) (omega arith) in
      let m : length (row_text row f (reads f)) ≤ 196608 = omega (arith, w.1) in
      rw (w.2, w.0, take-append_seam (row_text row f (reads f)), le-leb (length (row_text row f (reads f))) 196608 m)

-- ---- what was changed

pub changes-are : (row : ℕ) (old new : List ℕ) → (0x74 ∷ 0x69 ∷ 0x74 ∷ 0x6C ∷ 0x65 ∷ []) ++ title_field row old ++ title_field row new
    ++ (0x0A ∷ 0x6C ∷ 0x65 ∷ 0x6E ∷ 0x67 ∷ 0x74 ∷ 0x68 ∷ []) ++ number (length old) ++ number (length new) ++ (0x0A ∷ []) ≡ changes_text row old new
unfolding changes_text
changes-are row old new = refl
