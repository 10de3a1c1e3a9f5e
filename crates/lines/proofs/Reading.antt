-- What a file reads as with full tables, as the code comes to it; and the lines of rows that stand in a table.
-- Assumes nothing.
use mathlib.Core.Path.{◌≡◌, refl, sym, ap, ◌∙◌}
use mathlib.Core.List.{List, [], ◌∷◌, ◌++◌}
use Prim.Native.Nat.{ℕ, suc, ◌+◌, ◌*◌, ◌-◌, ◌≤◌, ◌<◌}
use native.Mathlib.Omega.{arith}
use lib.ListN.{length}
use Rattle.std.proofs.Common as std
use Rattle.std.proofs.Common.{Ok, Err}
use Rattle.refusals.specs.Reasons.{number_of}
use Rattle.refusals.specs.declared.Refusal.{Refusal}
use Rattle.cursor.specs.declared.Node.{Node}
use Rattle.cursor.specs.declared.Item.{Item}
use Rattle.header.specs.Header.{Header}
use Rattle.metadata.specs.Tables.{full_nodes, full_items, limits}
use Rattle.rows.specs.Rows.{item_width, item_from, item_at, rows_from}
use Rattle.room.specs.Room.{Result, good, bad}
use Rattle.refusals.specs.Told.{told}
use Rattle.file.specs.Reading.{Reading, rows, refusal, read_of, read_file}
use Rattle.file.specs.Asking.{ask}
use Rattle.file.specs.declared.Summary.{Summary}
use Rattle.file.proofs.Rows.{Standing, ask-refused, ask-is}
use Rattle.rows.proofs.Rows.{item-at, items-in_length}
use Rattle.lines.specs.Answer.{Answer, refused_by, fitted, printed, reads}
use Rattle.lines.proofs.Ending.{printed-good, printed-bad}

-- ---- the lines of rows that stand in a table, one row after the other

pub record Lined {A : Type 0} (line : ℕ → A → List ℕ) (lines : ℕ → List A → List ℕ) : Type 0 where
  pub none : (k : ℕ) → lines k [] ≡ []
  pub next : (k : ℕ) (r : A) (rs : List A) → lines k (r ∷ rs) ≡ line k r ++ lines (k + 1) rs

module _ {A : Type 0} {line : ℕ → A → List ℕ} {lines : ℕ → List A → List ℕ} (by : Lined line lines) (width : ℕ) (row : List ℕ → ℕ → A) (ws : List ℕ) (count : ℕ) where
  pub lines-on : (i : ℕ) → i < count → lines i (rows_from width row i (count - i) ws) ≡ line i (row ws (i * width)) ++ lines (i + 1)
      (rows_from width row (i + 1) (count - (i + 1)) ws)
  unfolding rows_from
  lines-on i l = let e : count - i ≡ suc (count - (i + 1)) = omega arith in rw e (by.next i (row ws (i * width)) (rows_from width row (i + 1) (count - (i + 1)) ws))

  pub lines_end : (i : ℕ) → count ≤ i → lines i (rows_from width row i (count - i) ws) ≡ []
  unfolding rows_from
  lines_end i l = let e : count - i ≡ 0 = omega arith in rw e (by.none i)

-- ---- with full tables

-- a question that is answered was asked of a file's rows
pub asked-rows : {A : Type 0} (o : Reading) (q : Header → List Node → List Item → Result A) {a : A} → ask o q ≡ good a → (h : Header) ×
    (ns : List Node) × (is : List Item) × (o ≡ rows h ns is) × (q h ns is ≡ good a)
unfolding ask
asked-rows (rows h ns is) q e = (h, ns, is, refl, e)
asked-rows (refusal n p) q e = let z : ◌≡◌ {A = ℕ} 0 1 = cc in absurd (omega arith)

refusal_is : (o : Reading) {m p : ℕ} → ask {A = ℕ} o (λ h ns is. good 0) ≡ bad m p → o ≡ refusal m p
unfolding ask
refusal_is (rows h ns is) e = let z : ◌≡◌ {A = ℕ} 0 1 = cc in absurd (omega arith)
refusal_is (refusal k q) {m} {p} e = let a : k ≡ m = cc in let b : q ≡ p = cc in rw (a, b)

module _ (f : List ℕ) {n i : ℕ} (en : full_nodes ≡ n) (ei : full_items ≡ i) where
  pub read_as : read_file (limits n i) f ≡ reads f
  unfolding reads
  read_as = rw (← en, ← ei)

  pub full : {A : Type 0} (q : Header → List Node → List Item → Result A) → ask (read_file (limits n i) f) q ≡ ask (reads f) q
  full q = ap (λ (o : Reading). ask o q) read_as

  -- the file is refused
  pub unread : {r : std.Result Summary Refusal} → told r ≡ read_of (read_file (limits n i) f) → {k : Refusal} → r ≡ Err k → {A : Type 0}
      (q : Header → List Node → List Item → Result A) → ask (reads f) q ≡ bad (number_of k.0) k.1
  unread e k q = sym (full q) ∙ ask-refused (read_file (limits n i) f) e k q

  pub unread-printed : {r : std.Result Summary Refusal} → told r ≡ read_of (read_file (limits n i) f) → {k : Refusal} → r ≡ Err k → {A : Type 0}
      (q : Header → List Node → List Item → Result A) (shows : A → Answer) (room : ℕ) (tail : List ℕ) → refused_by room tail (number_of k.0) k.1 ≡ printed room tail shows (ask (reads f) q)
  unread-printed e k q shows room tail = printed-bad shows room tail (unread e k q)

  -- its rows stand in the tables
  pub known : {s : Summary} {t u : List ℕ} (st : Standing f (read_file (limits n i) f) s t u) {A : Type 0}
      (q : Header → List Node → List Item → Result A) → ask (reads f) q ≡ q st.h st.ns st.is
  known st q = sym (full q) ∙ ask-is st.reads q

  pub refused : {r : std.Result Summary Refusal} → told r ≡ read_of (read_file (limits n i) f) → {k : Refusal} → r ≡ Err k → reads f ≡ refusal (number_of k.0) k.1
  refused e k = sym read_as ∙ refusal_is (read_file (limits n i) f) (ask-refused (read_file (limits n i) f) e k (λ h ns is. good 0))

  -- what is printed of a call that asks the question
  module _ {A : Type 0} (q : Header → List Node → List Item → Result A) (shows : A → Answer) (room : ℕ) (tail : List ℕ) {o : Result A}
      (e : o ≡ ask (read_file (limits n i) f) q) where
    pub asked-bad : {m p : ℕ} → o ≡ bad m p → refused_by room tail m p ≡ printed room tail shows (ask (reads f) q)
    asked-bad k = printed-bad shows room tail (sym (full q) ∙ sym e ∙ k)

    pub asked-good : {a : A} → o ≡ good a → fitted room tail (shows a) ≡ printed room tail shows (ask (reads f) q)
    asked-good k = printed-good shows room tail (sym (full q) ∙ sym e ∙ k)

  pub accepted : {s : Summary} {t u : List ℕ} (st : Standing f (read_file (limits n i) f) s t u) → reads f ≡ rows st.h st.ns st.is
  accepted st = sym read_as ∙ st.reads

module _ {f : List ℕ} {o : Reading} {s : Summary} {t u : List ℕ} (st : Standing f o s t u) where
  pub count-is : length st.is ≡ s.items
  count-is = ap length (sym st.items-are) ∙ items-in_length u s.items

  pub row_is : (row : ℕ) → row < s.items → item_at st.is row ≡ item_from u (row * item_width)
  row_is row l = ap (λ (v : List Item). item_at v row) (sym st.items-are) ∙ item-at u s.items row l
