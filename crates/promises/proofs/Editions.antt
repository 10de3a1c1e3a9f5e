-- What is promised of the two editions of the sheet.
-- Assumes nothing.
use mathlib.Core.Path.{◌≡◌, refl, sym, ap, ◌∙◌, subst}
use mathlib.Core.Bool.{Bool, true, false, not}
use mathlib.Core.List.{List, [], ◌∷◌}
use Prim.Native.Nat.{ℕ, ◌-◌, ◌≤◌}
use native.Mathlib.Omega.{arith}
use lib.ListN.{length, replicate, drop}
use lib.Seq.{take-append_seam}
use borrow.Author.Tests.{le-leb}
use Rattle.cursor.specs.Refusals.{bad_sheet}
use Rattle.cursor.specs.declared.Node.{Node}
use Rattle.cursor.specs.declared.Item.{Item}
use Rattle.header.specs.Header.{Header}
use Rattle.metadata.specs.Tables.{limits}
use Rattle.file.specs.Reading.{Reading, rows, refusal}
use Rattle.file.specs.Asking.{Result, good, bad, ask}
use Rattle.room.specs.Room as room
use Rattle.cursor.proofs.Listed.{fitted}
use Rattle.sheet.specs.Sheet.{lines_in, write_in, refusals}
use Rattle.sheet.proofs.Asked.{question-is}
use Rattle.editions.specs.Sheets.{is_second, move}
use Rattle.editions.proofs.Back.{moves, moved-well}
use Rattle.editions.proofs.Listed.{move_at}
use Rattle.editions.proofs.File.{file-well, moved-as_written}
use Rattle.promises.specs.Promises.{move_sheet, Sizes, size, reads, rows_into_room, size_value, saying, leaves, Outcome, outcome, new_file, wrote, OverAndBack, writes, SheetsMove}

-- ---- over and back

fits : (n : ℕ) (r : Result (List ℕ)) {t : List ℕ} → r ≡ good t → length t ≤ n → room.fitting n r ≡ good t
unfolding room.fitting
fits n r {t} e l = rw e (simp (le-leb (length t) n l))

moved_out : (s t f : List ℕ) (n : ℕ) → move s ≡ good t → length t ≤ n → outcome (move_sheet s) (n ∷ []) f ≡ wrote n t
unfolding outcome leaves
moved_out s t f n e l = rw (fits n (move s) e l) refl

-- what was answered
answered-good : (n k : ℕ) (r : Result (List ℕ)) → saying size_value (room.fitting n r) ≡ 0 ∷ 0 ∷ k ∷ [] → (t : List ℕ) × (r ≡ good t)
unfolding room.fitting
answered-good n k (good t) e = (t, refl)
answered-good n k (bad m p) e = let z : ◌≡◌ {A = ℕ} 0 1 = cc (ap length e) in absurd (omega arith)

refused-so : (n p : ℕ) (r : Result (List ℕ)) → saying size_value (room.fitting n r) ≡ bad_sheet ∷ p ∷ [] → r ≡ bad bad_sheet p
unfolding room.fitting
refused-so n p (good t) e =
    fitted (λ v. saying size_value v ≡ bad_sheet ∷ p ∷ [] → good t ≡ bad bad_sheet p) n t
    (λ z. let y : ◌≡◌ {A = ℕ} 0 31 = cc in absurd (omega arith))
    (λ z. let y : ◌≡◌ {A = ℕ} 22 31 = cc in absurd (omega arith))
    e
refused-so n p (bad m q) e = let x : m ≡ bad_sheet = cc in let y : q ≡ p = cc in rw (x, y) refl

pub over-and_back : OverAndBack
unfolding outcome leaves
over-and_back = (
  λ second s w. let (t, there, o, back) = moves second s w in record
      { moved = t; edition = o; over = λ n f l. moved_out s t f n there l; back = λ n f l. moved_out t s f n back l },
  λ s f ls n e. let (t, h) = answered-good (size ls 0) n (move s) e in (is_second s, moved-well s t h),
  λ s f ls p e. move_at s (refused-so (size ls 0) p (move s) e),
)

-- ---- of every file

module _ (second : Bool) (ls : Sizes) (f : List ℕ) where
  abbrev left : Result (List ℕ) → Outcome
  left r = leaves (rows_into_room (write_in second) refusals) ls f r

  new_is : (t : List ℕ) → new_file (left (good t)) ≡ t
  unfolding leaves room.padded
  new_is t = take-append_seam t (replicate (size ls 2 - length t) 0)

  -- where either edition was written, the file was accepted, and the bytes are its lines
  written : (o : Reading) (n : ℕ) → (left (ask o (write_in second (size ls 2) f))).answer ≡ 0 ∷ 0 ∷ n ∷ []
      → (h : Header) × (ns : List Node) × (is : List Item) × (o ≡ rows h ns is) × (new_file (left (ask o (write_in second (size ls 2) f))) ≡ lines_in second h.version f ns is)
  unfolding ask leaves
  written (rows h ns is) n e =
      let t = lines_in second h.version f ns is in
      let w = subst (λ r. (left r).answer ≡ 0 ∷ 0 ∷ n ∷ [] → new_file (left r) ≡ t) (sym (question-is second (size ls 2) f h ns is))
      (fitted (λ r. (left r).answer ≡ 0 ∷ 0 ∷ n ∷ [] → new_file (left r) ≡ t) (size ls 2) t (λ a. new_is t)
      (λ a. let z : ◌≡◌ {A = ℕ} 0 1 = cc (ap length a) in absurd (omega arith))) in
      (h, ns, is, refl, w e)
  written (refusal m p) n e = let z : ◌≡◌ {A = ℕ} 0 1 = cc (ap length e) in absurd (omega arith)

out_of : (second : Bool) (ls : Sizes) (f : List ℕ) → outcome (writes second) ls f ≡ left second ls f (ask (reads ls f) (write_in second (size ls 2) f))
unfolding outcome
out_of false ls f = refl
out_of true ls f = refl

-- what the mover leaves of one edition's lines is what the writer of the other leaves of the file
abbrev behind_tables : Outcome → Outcome
behind_tables o = record { answer = o.answer; holds = drop 2 o.holds }

same_left : (second : Bool) (ls : Sizes) (f : List ℕ) {h : Header} {ns : List Node} {is : List Item} → reads ls f ≡ rows h ns is → (s : List ℕ) (m : ℕ)
    → room.fitting m (move s) ≡ write_in second m f h ns is
    → let ls' : Sizes = size ls 0 ∷ size ls 1 ∷ m ∷ [] in outcome (move_sheet s) (m ∷ []) f ≡ behind_tables (left second ls' f (ask (reads ls' f) (write_in second m f)))
unfolding outcome leaves reads ask
same_left second ls f e s m k = rw (e, k) refl

pub sheets_move : SheetsMove
unfolding reads
sheets_move second ls f bytes n e =
    let (h, ns, is, r, t) = written second ls f (reads ls f) n (rw (out_of second ls f) at e) in
    let s : new_file (outcome (writes second) ls f) ≡ lines_in second h.version f ns is = ap new_file (out_of second ls f) ∙ t in
    let lim = limits (size ls 0) (size ls 1) in
    rw s (
      file-well lim f bytes r second,
      λ m. same_left (not second) ls f r (lines_in second h.version f ns is) m (moved-as_written lim f bytes r second m) ∙ ap behind_tables
          (sym (out_of (not second) (size ls 0 ∷ size ls 1 ∷ m ∷ []) f)),
    )
