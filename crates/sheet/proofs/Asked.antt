-- The ways through the questions: what each exit of the code comes to, answer, tables and sheet.
-- Assumes nothing.
use mathlib.Core.Path.{◌≡◌, refl, ap, ap₂, ◌∙◌}
use mathlib.Core.Bool.{Bool, true, false}
use mathlib.Core.List.{List, ◌++◌}
use Prim.Native.Nat.{ℕ, ◌-◌, ◌≤◌, ◌<◌}
use lib.ListN.{length, replicate, take}
use borrow.Author.Tests.{le-leb, lt-leb}
use Rattle.std.proofs.Common.{Err}
use Rattle.std.proofs.Common as std
use Rattle.refusals.specs.Reasons.{number_of}
use Rattle.refusals.specs.declared.Refusal.{Refusal}
use Rattle.cursor.specs.declared.Node.{Node}
use Rattle.cursor.specs.declared.Item.{Item}
use Rattle.header.specs.Header.{Header}
use Rattle.file.specs.Reading.{Reading, read_of, node_table, item_table}
use Rattle.rows.specs.Rows.{nodes_in, items_in}
use Rattle.room.specs.Room.{Result, good, bad}
use Rattle.file.specs.Asking.{ask, kept_nodes, kept_items}
use Rattle.file.specs.declared.Summary.{Summary}
use Rattle.file.proofs.Rows.{Standing}
use Rattle.file.proofs.Exits as exits
use Rattle.sheet.specs.Sheet.{sheet_of, lines_in, fitting, write, write2, write_in, counted, kept}
use Rattle.refusals.specs.Told.{told}
use Rattle.room.specs.Counts.{too_many}
use Rattle.room.proofs.Counting.{wrote-all}
use Rattle.sheet.specs.Inside.{Fills}
use Rattle.sheet.proofs.Filling.{fills-as, fills-over}

-- the lines that the code puts are the sheet, in either edition
sheet_is : (second : Bool) {f : List ℕ} {o : Reading} {s : Summary} {t u : List ℕ} (st : Standing f o s t u)
    → lines_in second s.version f (nodes_in s.nodes t) (items_in s.items u) ≡ lines_in second st.h.version f st.ns st.is
sheet_is second {f} {s = s} st =
    ap₂ (λ (ns : List Node) (is : List Item). lines_in second s.version f ns is) st.nodes-are st.items-are ∙ ap
    (λ (x : Summary). lines_in second x.version f st.ns st.is) st.summed

-- what either question asks, in one
pub question-is : (second : Bool) (room : ℕ) (f : List ℕ) (h : Header) (ns : List Node) (is : List Item) → write_in second room f h ns is ≡
    fitting room (good (lines_in second h.version f ns is))
unfolding write write2 sheet_of
question-is true room f h ns is = refl
question-is false room f h ns is = refl

fitting-good : (room : ℕ) (w : List ℕ) → length w ≤ room → fitting room (good w) ≡ good w
unfolding fitting
fitting-good room w l = simp (le-leb (length w) room l)

fitting-bad : (room : ℕ) (w : List ℕ) → room < length w → fitting room (good w) ≡ bad 22 0
unfolding fitting
fitting-bad room w l = simp (lt-leb (length w) room l)

module _ (second : Bool) (file : List ℕ) (nsize isize : ℕ) (lent : List ℕ) where
  abbrev room : ℕ
  room = length lent

  -- what the call says of its answer, and of the tables and the buffer that it leaves
  abbrev pub Says : Reading → Result ℕ → List ℕ → List ℕ → List ℕ → Type 0
  Says o a t u sheet = let x = ask o (write_in second room file) in (a ≡ counted x) × ((t ≡ kept_nodes nsize o x) × ((u ≡ kept_items isize o x) × (sheet ≡ kept room x)))

  -- by what the question answers
  says-by : (o : Reading) (a : Result ℕ) {x : Result (List ℕ)} {t u sheet : List ℕ} → exits.Says nsize isize o (write_in second room file) x t
      u → a ≡ counted x → sheet ≡ kept room x → Says o a t u sheet
  says-by o a w e z = (e ∙ ap counted w.0, (w.1, (w.2, z ∙ ap (kept room) w.0)))

  module _ (o : Reading) {t u : List ℕ} (tn : t ≡ node_table nsize o) (tu : u ≡ item_table isize o) where
    pub asked-refused : {r : std.Result Summary Refusal} → told r ≡ read_of o → {x : Refusal} → r ≡ Err x → {sheet : List ℕ} → sheet ≡ replicate room
        0 → Says o (bad (number_of x.0) x.1) t u sheet
    unfolding counted kept
    asked-refused e k z = says-by o (bad _ _) (exits.says-unread nsize isize o (write_in second room file) e k tn tu) refl z

    module _ {s : Summary} (st : Standing file o s t u) {sheet' : List ℕ} {r : ℕ}
        (p : Fills lent sheet' 0 (lines_in second s.version file (nodes_in s.nodes t) (items_in s.items u)) r) where
      puts : Fills lent sheet' 0 (lines_in second st.h.version file st.ns st.is) r
      puts = fills-as (sheet_is second st) p

      pub asked-good : r ≤ room → room < too_many → {sheet'' : List ℕ} → sheet'' ≡ take r sheet' ++ replicate (length sheet' - r) 0 → Says o (good r) t u sheet''
      unfolding counted kept
      asked-good e m c =
          let w = wrote-all (puts.fits e) e m c in
          let x = question-is second room file st.h st.ns st.is ∙ fitting-good room _ w.0 in
          says-by o (good r) (exits.says-answer nsize isize o (write_in second room file) st.reads x tn tu) (ap good w.1) w.2

      pub asked-full : room < r → {t' u' sheet'' : List ℕ} → t' ≡ replicate nsize 0 → u' ≡ replicate isize 0 → sheet'' ≡ replicate room 0 → Says o (bad 22 0) t' u' sheet''
      unfolding counted kept
      asked-full e zt zu zs =
          let x = question-is second room file st.h st.ns st.is ∙ fitting-bad room _ (fills-over puts e) in
          says-by o (bad 22 0) (exits.says-refused nsize isize o (write_in second room file) st.reads x zt zu) refl zs

-- zeros of a length that was kept
pub zeros : {n m : ℕ} {t : List ℕ} → t ≡ replicate m 0 → m ≡ n → t ≡ replicate n 0
zeros e l = e ∙ ap (λ n. replicate n 0) l
