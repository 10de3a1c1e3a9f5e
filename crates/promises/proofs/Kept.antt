-- The promises are kept. Demand 1: a refusal is one of the question's, and clears what is lent. Demand 2: each call leaves its question's outcome, and tables only
-- limit what a file reads as. Demand 3: what each question reads of the file besides the rows agrees, so that it answers alike.
-- Assumes nothing.
use mathlib.Core.Path.{◌≡◌, refl, sym, ap, ◌∙◌, subst}
use mathlib.Core.Bool.{Bool, true, false, cond, not, ◌&&◌, ◌||◌}
use mathlib.Core.Logic.{◌⊎◌, inl, inr}
use mathlib.Core.List.{List, [], ◌∷◌, ◌++◌, map}
use Prim.Native.Nat.{ℕ, ◌+◌, ◌%◌, ◌≤◌, ◌<◌, ◌-◌, ◌^◌}
use native.Mathlib.Nat.{sub-zero}
use native.Mathlib.Decide.{dec_lt, dec_le}
use native.Mathlib.Omega.{arith}
use lib.Dec.{T, eqb, ltb, leb}
use lib.ListN.{length, get_or, replicate, take, drop, length-append, length-take, length-drop}
use lib.Seq.{get_or-take, get_or-drop, take-append_seam, take-append-add, drop-append-add, get_or-append-add, take_at, drop_at}
use borrow.Author.Tests.{ne_eqb, leb-false, le-leb, lt-leb}
use Rattle.cursor.specs.Refusals.{of_reader, in_file, is_allowed, Among, PlacedIn}
use Rattle.room.specs.Parts.{part}
use Rattle.cursor.specs.declared.Node.{Node}
use Rattle.cursor.specs.declared.Item.{Item}
use Rattle.machine.proofs.Agree.{Agree}
use Rattle.header.specs.Header.{Header}
use Rattle.metadata.specs.Tables.{full_nodes, full_items, limits}
use Rattle.metadata.specs.declared.Limits.{Limits}
use Rattle.metadata.proofs.Limited.{Less}
use Rattle.file.specs.Reading.{Reading, rows, refusal, read_file, answer_of, node_table, item_table}
use Rattle.rows.specs.Rows.{item_at}
use Rattle.file.specs.Told as tree
use Rattle.file.specs.declared.Tree.{Tree}
use Rattle.file.specs.Asking.{Counts, Result, good, bad, ask, kept_nodes, kept_items, written_nodes, written_items, Asks, counts}
use Rattle.file.specs.Asking as asking
use Rattle.file.specs.Hidden.{is_hidden}
use Rattle.file_laws.specs.Private.{may_differ, DifferInPrivate}
use Rattle.file_laws.proofs.Demand.{Alike, RowAlike, private_data, private_alike, rows_alike}
use Rattle.file_laws.proofs.Limited.{no_less, to-wider, to-narrower}
use Rattle.file_laws.proofs.First.{steps-made, to-either}
use Rattle.file_laws.proofs.Listed.{refusal-listed}
use Rattle.file_laws.proofs.Stays.{refusal-inside}
use Rattle.file.proofs.Rows.{accepted}
use Rattle.file.proofs.Parents.{all-rooted}
use Rattle.file_laws.proofs.Apart.{all_apart}
use Rattle.find.specs.Find as find
use Rattle.find.proofs.Listed.{find-listed, find-own_listed}
use Rattle.find.proofs.Depends.{find-same, find-own_same}
use Rattle.find.proofs.Path as path
use Rattle.resolve.specs.Resolve as resolve
use Rattle.resolve.specs.Told.{Given}
use Rattle.resolve.proofs.Listed.{resolve-listed, copy-listed}
use Rattle.description.specs.Count as count
use Rattle.description.proofs.Listed.{count-listed}
use Rattle.description.proofs.Stays.{count-placed}
use Rattle.description.proofs.Depends.{count_same}
use Rattle.mobile.specs.Mobile as mobile
use Rattle.account.specs.Account.{counts as countsOf, events_of, kinds_of}
use Rattle.account.specs.Totals.{most_files, added, after_refusal, by_answer, allowed}
use Rattle.account.specs.Told.{kind_words, total_words}
use Rattle.account.specs.declared.Kinds.{Kinds}
use Rattle.account.specs.declared.Totals.{Totals}
use Rattle.account.proofs.Places.{kind-is, kind-only, one-of_nine}
use Rattle.account.proofs.File.{file-separate, kinds-alike}
use Rattle.account.proofs.Whole.{rows-count}
use Rattle.account.proofs.Words.{count_at_lem}
use Rattle.account.proofs.ByPlace.{by_place}
use Rattle.account.proofs.Listed.{account-listed, left_is, allowed-good}
use Rattle.mobile.proofs.Depends.{verdict-depends}
use Rattle.sheet.specs.Sheet as sheet
use Rattle.sheet.proofs.Listed.{sheet_listed, sheet2_listed}
use Rattle.sheet.proofs.Depends.{Shown, sheet_same, sheet2_same}
use Rattle.editions.proofs.Listed.{move-listed}
use Rattle.title_text.specs.Title as title
use Rattle.title_text.proofs.Again.{corrected, correct_says, correct_least, correct_only, correct_again}
use Rattle.title_text.proofs.Listed.{title-listed}
use Rattle.title_text.proofs.Demand as titles
use Rattle.mend.specs.Mend as mend
use Rattle.mend.specs.Mend.{mended, changes, repair}
use Rattle.mend.specs.Told.{size_words, sizes_of, copy_in, lines_in, asked}
use Rattle.mend.proofs.Theorem.{read-rows, mended-length, still, mended-is, mend-good, mend-answered}
use Rattle.mend.proofs.Alike.{mended-alike}
use Rattle.mend.proofs.Listed.{mend-listed, mend-placed}
use Rattle.room.specs.Room as room
use Rattle.refusals.specs.Told.{told}
use Rattle.refusals.specs.declared.Refusal.{Refusal}
use Rattle.std.proofs.Common as std
use Rattle.std.proofs.Common.{Ok, Err}
use Rattle.cursor.proofs.Listed.{allowed-front, among-back, are_apart, apart-placed, placed-if, fitted, fitting-among}
use Rattle.utf16.specs.Unicode as unicode
use Rattle.utf16.proofs.Listed.{utf8-listed, utf16-listed}
use Rattle.utf16.proofs.Back.{placed8, placed16, there_and_back, back-and_there}
use Rattle.id3.specs.Frames as id3
use Rattle.id3.specs.declared.TagFrame.{TagFrame}
use Rattle.id3.proofs.Listed as tag
use Rattle.id3.proofs.Inside.{frame-inside, frames-apart, count-frames, count-refused}
use Rattle.promises.specs.Promises.{Question, read_tree, find_item, find_own, resolve_row, copy_resource, count_for, judge_mobile, account_bytes, write_sheet, write_sheet2, correct_title, mend_header, to_utf8, to_utf16, move_sheet, count_frames, tag_frame, Sizes, size, reads}
use Rattle.promises.specs.Promises.{Tables, no_tables, of_file, of_written, Lent, filled, copied, given, changed, About, over_rows, rows_into_room, data_into_room, over_data, tree_values, resource_values, mended_values, frame_values, one_value, size_value, bytes, about}
use Rattle.promises.specs.Promises.{Outcome, saying, row_tables, tables_lent, lent, holding, answer_to, leaves, outcome, resource, IsRefusal, Accepted, InTables, new_file, AnsweredOf, Shows, IsAnswer, Demand1, FitsExactly, StepsMake, FirstApplies, UntilRoot, LieApart}
use Rattle.promises.specs.Promises.{OnlyThere, PrivateAlone, AlikeIn, EachAlike, OutcomesAlike, Demand3, InTurn, Correction, Corrects, text_of, ButForMark, Undone, ExactlyThere, ThereAndBack, BackAndThere, Account, Accounts, CountsFrames, FramesApart, StaysInTag}
use Rattle.promises.specs.Calls as calls
use Rattle.promises.specs.Calls.{Called, left, Over, Fills, read-tree, find-item, find-own, resolve-row, copy-resource, count-for, judge, account, write-sheet, write-sheet2, to-utf8, to-utf16, move-sheet, tag-frame, correct-title, mend-header, EachLeaves, CallsAlike, PartsAlike}

-- ---- which data may not differ

even-kept : (r : Item) → r.format % 2 ≡ 0 → T (not (may_differ r))
unfolding may_differ is_hidden
even-kept r e = let n : (r.format % 2 ≡ 1) → ⊥ = λ z. omega arith in simp (ne_eqb _ _ n) tt

and-false : (a : Bool) → T (not (a && false))
and-false true = tt
and-false false = tt

-- in the standard fields 0, 3 and 13
field-kept : (n : ℕ) → T (eqb n 0 || eqb n 3 || eqb n 13) → (r : Item) → r.kind ≡ 0 → r.field ≡ n → T (not (may_differ r))
unfolding may_differ
field-kept n t r k f = let n₀ : (r.kind ≡ 1) → ⊥ = λ z. omega arith in simp (ne_eqb _ _ n₀, f) (by (eqb n 0 || eqb n 3 || eqb n 13) t)
  where
    by : (b : Bool) → T b → T (not (is_hidden r && not b))
    by true t = and-false (is_hidden r)
    by false t = absurd t

named : (r : Item) {X : Type 0} → (r.kind ≡ 0) ⊎ X → r.kind ≡ 1 → X
named r (inl z) e = absurd (omega arith)
named r (inr x) e = x

-- ---- two results of the correction of a title

-- both are refused alike; or both are files, as long, that read the same and differ at private places of the first alone
data Twins (ls : Sizes) : (x y : Result (List ℕ)) → Type 0 where
  refusals-same : (n p : ℕ) → Twins ls (bad n p) (bad n p)
  files-alike : {x y : List ℕ} → length x ≡ length y → reads ls y ≡ reads ls x → PrivateAlone ls x y → Twins ls (good x) (good y)

module _ {ls : Sizes} where
  unless : (b : Bool) (n p : ℕ) {x y : Result (List ℕ)} → (b ≡ false → Twins ls x y) → Twins ls (cond b (bad n p) x) (cond b (bad n p) y)
  unless true n p t = refusals-same n p
  unless false n p t = t refl

  fitting-twins : (n : ℕ) {x y : List ℕ} → length x ≡ length y → (length x < 2 ^ 28 → Twins ls (good x) (good y)) → Twins ls (title.fitting n x) (title.fitting n y)
  unfolding title.fitting
  fitting-twins n {x} {y} c t = rw (← c) (unless (leb (2 ^ 28) (length x)) 38 0 (λ s. unless (ltb n (length x)) 22 0 (λ _. t (leb-false (2 ^ 28) (length x) s))))

title-twins : (ls : Sizes) (f g : List ℕ) {h : Header} {ns : List Node} {is : List Item} → reads ls f ≡ rows h ns is → DifferInPrivate h ns is f g → (i : ℕ) (text : List ℕ) (n : ℕ)
    → Twins ls (title.correct_title i text n f h ns is) (title.correct_title i text n g h ns is)
unfolding title.correct_title reads
title-twins ls f g {h} {ns} {is} r d i text n =
    let lim : Limits = limits (size ls 0) (size ls 1) in
    unless (leb (length is) i) 18 0 (λ _. unless (title.elsewhere ns) 36 0 (λ here. unless (title.is_no_title (item_at is i)) 37 0
    (λ _. let long = titles.titles-length lim f g r d here i text in fitting-twins n long
    (λ small. files-alike long (titles.titles-read lim f g r d here i text small) (titles.titles-differ lim f g r d here i text small)))))

-- ---- what is lent holds alike

-- two parts of files of one length, at the same place
parts_there : (f g : List ℕ) → length f ≡ length g → (at n : ℕ) → OnlyThere f g at (part f at n) (part g at n)
parts_there f g e at n =
    let a = length-take n (drop at f) in let b = length-take n (drop at g) in let x = length-drop at f in
    let y = length-drop at g in
    let one : (v : List ℕ) (k : ℕ) → k < n → get_or (part v at n) k 0 ≡ get_or v (at + k) 0 = λ v k l. get_or-take n (drop at v) k 0 l ∙ get_or-drop at v k 0 in
    (omega arith, λ k l s. let b : k < n = omega arith in one f k b ∙ s ∙ sym (one g k b))

front-byte : (x zs : List ℕ) (k : ℕ) → k < length x → get_or (x ++ zs) k 0 ≡ get_or x k 0
front-byte x zs k l = sym (get_or-take (length x) (x ++ zs) k 0 l) ∙ ap (λ (v : List ℕ). get_or v k 0) (take-append_seam x zs)

back-byte : (x zs : List ℕ) (k j : ℕ) → length x + j ≡ k → get_or (x ++ zs) k 0 ≡ get_or zs j 0
back-byte x zs k j e = ap (λ i. get_or (x ++ zs) i 0) (sym e) ∙ get_or-append-add x zs j 0

-- with the same bytes behind them
there_behind : (f g : List ℕ) (at : ℕ) (x y zs : List ℕ) → OnlyThere f g at x y → OnlyThere f g at (x ++ zs) (y ++ zs)
there_behind f g at x y zs w = let e = w.0 in (
  length-append x zs ∙ ap (λ n. n + length zs) e ∙ sym (length-append y zs),
  λ k l s. elim (dec_lt k (length x)) [
    | yes b ↦ front-byte x zs k b ∙ w.1 k b s ∙ sym (front-byte y zs k (omega arith))
    | no b ↦ back-byte x zs k (k - length x) (omega arith) ∙ sym (back-byte y zs k (k - length x) (omega arith))
  ],
)

split_there : (f g : List ℕ) (at : ℕ) (x y zs : List ℕ) (n k : ℕ) → OnlyThere f g at x y → length x + k ≡ n → length y + k ≡ n → OnlyThere f
    g at (take n (x ++ zs)) (take n (y ++ zs)) × (drop n (y ++ zs) ≡ drop n (x ++ zs))
split_there f g at x y zs n k w a b =
    let cut : (v : List ℕ) → length v + k ≡ n → (take n (v ++ zs) ≡ v ++ take k zs) × (drop n (v ++ zs) ≡ drop k zs) =
    λ v e. (ap (λ i. take i (v ++ zs)) (sym e) ∙ take-append-add v zs k, ap (λ i. drop i (v ++ zs)) (sym e) ∙ drop-append-add v zs k) in
    (rw ((cut x a).0, (cut y b).0) (there_behind f g at x y (take k zs) w), (cut y b).1 ∙ sym (cut x a).1)

-- in buffers, with zeros behind them
given-alike : (f g : List ℕ) → length f ≡ length g → (m at n : ℕ)
    → let x : List ℕ = room.padded m (part f at n) in let y : List ℕ = room.padded m (part g at n) in OnlyThere f g at (take n x) (take n y) × (drop n y ≡ drop n x)
unfolding room.padded
given-alike f g e m at n =
    let w = parts_there f g e at n in let l = length-take n (drop at f) in let same = w.0 in
    rw (← same) (split_there f g at (part f at n) (part g at n) (replicate (m - length (part f at n)) 0) n (n - length (part f at n)) w (omega arith) (omega arith))

alike_held : {A : Type 0} (ls : Sizes) (f g ws : List ℕ) → length f ≡ length g → (r : Result A) (l : Lent A) → AlikeIn ls f g ws l (holding f ws r l) (holding g ws r l)
alike_held ls f g ws e (good a) (filled m w) = refl
alike_held ls f g ws e (good a) (copied m w) = (λ h ns is e. record { same_length = refl; elsewhere = λ k l o. refl }, refl)
alike_held ls f g ws e (good a) (given m) = given-alike f g e m (get_or ws 2 0) (get_or ws 3 0)
alike_held ls f g ws e (good a) (changed w v) = refl
alike_held ls f g ws e (bad n p) (filled m w) = refl
alike_held ls f g ws e (bad n p) (copied m w) = (λ h ns is e. record { same_length = refl; elsewhere = λ k l o. refl }, refl)
alike_held ls f g ws e (bad n p) (given m) = ((refl, λ k l s. refl), refl)
alike_held ls f g ws e (bad n p) (changed w v) = refl

each-alike : {A : Type 0} (ls : Sizes) (f g ws : List ℕ) → length f ≡ length g → (lends : List (Lent A)) (r : Result A) → EachAlike ls f g
    ws lends (map (holding f ws r) lends) (map (holding g ws r) lends)
each-alike ls f g ws e [] r = refl
each-alike ls f g ws e (l ∷ lends) r = (alike_held ls f g ws e r l, each-alike ls f g ws e lends r)

-- what two calls of one question leave
abbrev Alike₂ : (q : About) → Sizes → (f g : List ℕ) → (r s : Result q.Answer) → Type 0
Alike₂ q ls f g r s = OutcomesAlike q ls f g (leaves q ls f r) (leaves q ls g s)

tables-same : {A : Type 0} (ls : Sizes) (f g : List ℕ) → reads ls g ≡ reads ls f → (t : Tables A) → tables_lent ls g t ≡ tables_lent ls f t
tables-same ls f g e no_tables = refl
tables-same ls f g e of_file = ap (λ o. filled (size ls 0) (λ a. node_table (size ls 0) o) ∷ filled (size ls 1) (λ a. item_table (size ls 1) o) ∷ []) e
tables-same ls f g e (of_written w) = refl

-- a file as long that reads the same, and the same answer
same_alike : (q : About) (ls : Sizes) (f g : List ℕ) → length f ≡ length g → reads ls g ≡ reads ls f → {r s : Result q.Answer} → s ≡ r → Alike₂ q ls f g r s
unfolding leaves
same_alike q ls f g m e {r} z =
    let ws : List ℕ = saying q.values r in (
      ap (saying q.values) z,
      rw z
          (subst (λ v. EachAlike ls f g ws (lent q ls f) (map (holding f ws r) (lent q ls f)) (map (holding g ws r) (v ++ q.buffers ls)))
          (sym (tables-same ls f g e q.tables)) (each-alike ls f g ws m (lent q ls f) r)),
    )

-- two files that were written
title-leaves : (i : ℕ) (text : List ℕ) (ls : Sizes) (f g : List ℕ) {x y : Result (List ℕ)} → Twins ls x y → Alike₂ (about (correct_title i text)) ls f g x y
unfolding leaves room.padded
title-leaves i text ls f g (refusals-same n p) = (refl, (refl, (refl, ((λ h ns is e. record { same_length = refl; elsewhere = λ k l o. refl }, refl), refl))))
title-leaves i text ls f g (files-alike {x} {y} e r d) =
    let n : ℕ = length x in let zs : List ℕ = replicate (size ls 2 - n) 0 in
    let a : take n (x ++ zs) ≡ x = take_at x zs n refl in let b : take n (y ++ zs) ≡ y = take_at y zs n (sym e) in
    let c : drop n (x ++ zs) ≡ zs = drop_at x zs n refl in
    let v : drop n (y ++ zs) ≡ zs = drop_at y zs n (sym e) in
    (rw e, rw (r, ← e, a, b, c, v) (refl, (refl, ((d, refl), refl))))

-- two copies whose header is mended

same_rows : {h h' : Header} {ns ns' : List Node} {is is' : List Item} → rows h ns is ≡ rows h' ns' is' → (h ≡ h') × (ns ≡ ns') × (is ≡ is')
same_rows e = (cc, cc, cc)

-- the file that was written
new-copy : (ls : Sizes) (f : List ℕ) (m : mend.Mended) → new_file (leaves (about mend_header) ls f (good m)) ≡ m.copy
unfolding leaves room.padded
new-copy ls f m = take-append_seam m.copy (replicate (size ls 2 - length m.copy) 0)

module _ (ls : Sizes) (f g : List ℕ) {h : Header} {ns : List Node} {is : List Item} (r : reads ls (mended f) ≡ rows h ns is) (d : DifferInPrivate h ns is f g) where
  abbrev lim : Limits
  lim = limits (size ls 0) (size ls 1)

  copies_differ : PrivateAlone ls (mended f) (mended g)
  unfolding reads
  copies_differ h' ns' is' q = let (a, b, c) = same_rows (sym r ∙ q) in rw (← a, ← b, ← c) (mended-alike lim f g r d).differ

  -- with room for them, and without
  copies_alike : (b : Bool) → let x : Result mend.Mended = cond b (good (repair f)) (bad 22 0) in let y : Result mend.Mended = cond b (good (repair g)) (bad 22 0) in
      Alike₂ (about mend_header) ls f g x y × ExactlyThere f g (new_file (leaves (about mend_header) ls f x)) (new_file (leaves (about mend_header) ls g y))
  unfolding leaves reads room.padded
  copies_alike true =
      let w = mended-alike lim f g r d in let e = w.differ.same_length in let n : ℕ = length (mended f) in
      let zs : List ℕ = replicate (size ls 2 - n) 0 in
      let a : take n (mended f ++ zs) ≡ mended f = take_at (mended f) zs n refl in
      let b : take n (mended g ++ zs) ≡ mended g = take_at (mended g) zs n (sym e) in
      let c : drop n (mended f ++ zs) ≡ zs = drop_at (mended f) zs n refl in
      let v : drop n (mended g ++ zs) ≡ zs = drop_at (mended g) zs n (sym e) in
      let l = mended-length f in (
        (rw (← e, w.lines) refl, rw (w.reads, r, ← e, w.lines, a, b, c, v) (refl, (refl, ((copies_differ, refl), (refl, refl))))),
        rw (new-copy ls f (repair f), new-copy ls g (repair g)) (e, λ k m. (w.only-there k (omega arith), w.there k (omega arith))),
      )
  copies_alike false = ((refl, (refl, (refl, ((λ h ns is e. record { same_length = refl; elsewhere = λ k l o. refl }, refl), (refl, refl))))), (refl, λ k l. absurd (omega arith)))

  mends_as : (f : List ℕ) {h : Header} {ns : List Node} {is : List Item} → reads ls (mended f) ≡ rows h ns is → mend.mend lim (size ls 2)
      (size ls 3) f ≡ mend.fitting (size ls 2) (size ls 3) (repair f)
  unfolding reads
  mends_as f e = mend-good lim f (mended-is lim f (ap mend.accepted e)) (size ls 2) (size ls 3)

  pub mend-alike : Alike₂ (about mend_header) ls f g (answer_to ls f ((about mend_header).asks ls)) (answer_to ls g ((about mend_header).asks ls))
      × ExactlyThere f g (new_file (leaves (about mend_header) ls f (answer_to ls f ((about mend_header).asks ls))))
      (new_file (leaves (about mend_header) ls g (answer_to ls g ((about mend_header).asks ls))))
  unfolding reads mend.fitting
  mend-alike =
      let w = mended-alike lim f g r d in let e = w.differ.same_length in let x = mends_as f r in
      let y : mend.mend lim (size ls 2) (size ls 3) g ≡ cond (leb (length (mended f)) (size ls 2) && leb (length (changes f)) (size ls 3))
      (good (repair g)) (bad 22 0) = mends_as g w.reads ∙ rw (← e, w.lines) refl in
      rw (x, y) (copies_alike (leb (length (mended f)) (size ls 2) && leb (length (changes f)) (size ls 3)))

-- ---- the questions of two files that differ in what is private

module _ (ls : Sizes) (f g : List ℕ) (h : Header) (ns : List Node) (is : List Item) (r : reads ls f ≡ rows h ns is) (d : DifferInPrivate h ns is f g) where
  alike : Alike private_data (limits (size ls 0) (size ls 1)) f g ns is
  unfolding reads
  alike = private_alike (limits (size ls 0) (size ls 1)) f g r d

  row : (i : ℕ) → i < length is → RowAlike private_data f g (item_at is i)
  row = rows_alike private_data f g (limits (size ls 0) (size ls 1)) tt alike

  pub reads_same : reads ls g ≡ reads ls f
  unfolding reads
  reads_same = alike.same-reading

  -- the files agree on custom names, and on data that may not differ
  name-alike : (i : ℕ) → i < length is → (item_at is i).kind ≡ 1 → Agree f g (item_at is i).field (item_at is i).name_length
  name-alike i m e = named (item_at is i) (row i m).0 e

  data_alike : (i : ℕ) → i < length is → T (not (may_differ (item_at is i))) → Agree f g (item_at is i).place (item_at is i).size
  data_alike i m t = (row i m).1 t

  counts-alike : counts g h ns is ≡ counts f h ns is
  unfolding counts
  counts-alike = refl

  pub find-alike : (w : find.Wanted) (k : ℕ) → find.find w k g h ns is ≡ find.find w k f h ns is
  find-alike w k = sym (find-same f g w is name-alike k h ns)

  pub find-own_alike : (w : find.Wanted) (k : ℕ) → find.find_own w k g h ns is ≡ find.find_own w k f h ns is
  find-own_alike w k = sym (find-own_same f g w is name-alike k h ns)

  resolve-alike : (k : ℕ) → resolve.resolve k g h ns is ≡ resolve.resolve k f h ns is
  unfolding resolve.resolve
  resolve-alike k = refl

  copy-alike : (k n : ℕ) → resolve.copy_into k n g h ns is ≡ resolve.copy_into k n f h ns is
  unfolding resolve.copy_into
  copy-alike k n = ap (resolve.fitting n) (resolve-alike k)

  pub fields-alike : (n : ℕ) → T (eqb n 0 || eqb n 3 || eqb n 13) → (i : ℕ) → i < length is → (item_at is i).kind ≡ 0 → (item_at is i).field ≡ n →
      Agree f g (item_at is i).place (item_at is i).size
  fields-alike n t i m a b = data_alike i m (field-kept n t (item_at is i) a b)

  count-alike : (item channel resource : ℕ) → count.count_for item channel resource g h ns is ≡ count.count_for item channel resource f h ns is
  count-alike item channel resource = sym (count_same f g item channel resource h ns is (fields-alike 13 tt))

  pub mobile-alike : mobile.mobile g h ns is ≡ mobile.mobile f h ns is
  unfolding mobile.mobile
  mobile-alike = ap good (sym (verdict-depends f g h ns is (fields-alike 3 tt) (fields-alike 13 tt)))

  pub shown-alike : (i : ℕ) → i < length is → Shown f g (item_at is i)
  shown-alike i m = (λ e. data_alike i m (even-kept (item_at is i) e), name-alike i m)

  pub sheet_alike : (n : ℕ) → sheet.write n g h ns is ≡ sheet.write n f h ns is
  unfolding sheet.write
  sheet_alike n = ap (λ (s : List ℕ). sheet.fitting n (good s)) (sym (sheet_same f g h ns is d.same_length shown-alike))

  pub sheet2_alike : (n : ℕ) → sheet.write2 n g h ns is ≡ sheet.write2 n f h ns is
  unfolding sheet.write2
  sheet2_alike n = ap (λ (s : List ℕ). sheet.fitting n (good s)) (sym (sheet2_same f g d.same_length h.version ns is shown-alike))

  -- a question that answers the same of the rows
  pub asks-alike : {A : Type 0} (x y : Header → List Node → List Item → Result A) → x h ns is ≡ y h ns is → ask (reads ls g) x ≡ ask (reads ls f) y
  unfolding ask
  asks-alike x y e = rw (reads_same, r) e

  account-alike : (t : Totals) → let lim : Limits = limits (size ls 0) (size ls 1) in allowed t (ask (reads ls g) (kinds_of lim g)) ≡ allowed t (ask (reads ls f) (kinds_of lim f))
  unfolding reads
  account-alike t = ap (allowed t) (asks-alike _ _ (kinds-alike (limits (size ls 0) (size ls 1)) f g r d))

  same : (q : Question) → answer_to ls g ((about q).asks ls) ≡ answer_to ls f ((about q).asks ls) → Alike₂ (about q) ls f g
      (answer_to ls f ((about q).asks ls)) (answer_to ls g ((about q).asks ls))
  same q e = same_alike (about q) ls f g d.same_length reads_same e

  title-alike : (i : ℕ) (text : List ℕ) → Twins ls (ask (reads ls f) (title.correct_title i text (size ls 2) f)) (ask (reads ls g) (title.correct_title i text (size ls 2) g))
  unfolding ask
  title-alike i text = rw (reads_same, r) (title-twins ls f g r d i text (size ls 2))

  -- the mended file reads as the file does
  still-reads : reads ls (mended f) ≡ rows h ns is
  unfolding reads
  still-reads = still (limits (size ls 0) (size ls 1)) f r

  pub outcome-alike : (q : Question) → Alike₂ (about q) ls f g (answer_to ls f ((about q).asks ls)) (answer_to ls g ((about q).asks ls))
  outcome-alike read_tree = same read_tree (asks-alike _ _ counts-alike)
  outcome-alike (find_item w k) = same (find_item w k) (asks-alike _ _ (find-alike w k))
  outcome-alike (find_own w k) = same (find_own w k) (asks-alike _ _ (find-own_alike w k))
  outcome-alike (resolve_row k) = same (resolve_row k) (asks-alike _ _ (resolve-alike k))
  outcome-alike (copy_resource k) = same (copy_resource k) (asks-alike _ _ (copy-alike k (size ls 2)))
  outcome-alike (count_for item channel resource) = same (count_for item channel resource) (asks-alike _ _ (count-alike item channel resource))
  outcome-alike judge_mobile = same judge_mobile (asks-alike _ _ mobile-alike)
  outcome-alike (account_bytes t) = same (account_bytes t) (account-alike t)
  outcome-alike write_sheet = same write_sheet (asks-alike _ _ (sheet_alike (size ls 2)))
  outcome-alike write_sheet2 = same write_sheet2 (asks-alike _ _ (sheet2_alike (size ls 2)))
  outcome-alike (correct_title i text) = title-leaves i text ls f g (title-alike i text)
  outcome-alike mend_header = (mend-alike ls f g still-reads d).0
  outcome-alike (to_utf8 units) = same (to_utf8 units) refl
  outcome-alike (to_utf16 text) = same (to_utf16 text) refl
  outcome-alike (move_sheet s) = same (move_sheet s) refl
  outcome-alike (count_frames tag) = same (count_frames tag) refl
  outcome-alike (tag_frame tag i) = same (tag_frame tag i) refl

-- ---- the resource itself

part-there : (f g : List ℕ) → length f ≡ length g → (a : Result resolve.Resource) → OnlyThere f g (get_or (saying resource_values a) 2 0) (resolve.part f a) (resolve.part g a)
unfolding resolve.part
part-there f g e (good a) = parts_there f g e a.place a.size
part-there f g e (bad n p) = (refl, λ k l s. refl)

-- resolve is answered of the rows alone
resolve-reads_none : (row : ℕ) (f g : List ℕ) (o : Reading) → ask o (resolve.resolve row f) ≡ ask o (resolve.resolve row g)
unfolding ask resolve.resolve
resolve-reads_none row f g (rows h ns is) = refl
resolve-reads_none row f g (refusal n p) = refl

resource-there : (ls : Sizes) (f g : List ℕ) → length f ≡ length g → reads ls g ≡ reads ls f → (row : ℕ)
    → OnlyThere f g (get_or (outcome (resolve_row row) ls f).answer 2 0) (resource row ls f) (resource row ls g)
unfolding outcome leaves resource
resource-there ls f g n e row = rw (e, resolve-reads_none row g f (reads ls f)) (part-there f g n (ask (reads ls f) (resolve.resolve row f)))

pub demand3 : Demand3
unfolding outcome
demand3 q ls f g h ns is r d = let e = reads_same ls f g h ns is r d in let w = outcome-alike ls f g h ns is r d q in (e ∙ r, w, resource-there ls f g d.same_length e)

-- ---- each call leaves its question's outcome

made : {a b : List ℕ} {x y : List (List ℕ)} → a ≡ b → x ≡ y → ◌≡◌ {A = Outcome} (record { answer = a; holds = x }) (record { answer = b; holds = y })
made e h = rw (e, h)

two : {t t' u u' : List ℕ} {x y : List (List ℕ)} → t ≡ t' → u ≡ u' → x ≡ y → (t ∷ u ∷ x) ≡ (t' ∷ u' ∷ y)
two e h k = rw (e, h, k)

one : {t u : List ℕ} → t ≡ u → (t ∷ []) ≡ (u ∷ [])
one e = rw e

-- what the tables hold after a call over a file's rows, and a buffer after a call that writes bytes
in_nodes_lem : {A : Type 0} (f ws : List ℕ) (n : ℕ) (o : Reading) (r : Result A) → kept_nodes n o r ≡ holding f ws r (filled n (λ a. node_table n o))
unfolding kept_nodes
in_nodes_lem f ws n o (good a) = refl
in_nodes_lem f ws n o (bad k p) = refl

in_items_lem : {A : Type 0} (f ws : List ℕ) (n : ℕ) (o : Reading) (r : Result A) → kept_items n o r ≡ holding f ws r (filled n (λ a. item_table n o))
unfolding kept_items
in_items_lem f ws n o (good a) = refl
in_items_lem f ws n o (bad k p) = refl

-- the same, over the words of the answer itself
nodes_held : {A : Type 0} (values : A → List ℕ) (f : List ℕ) (n : ℕ) (o : Reading) (r : Result A)
    → kept_nodes n o r ≡ holding f (saying values r) r (filled n (λ a. node_table n o))
nodes_held values f n o r = in_nodes_lem f (saying values r) n o r

items_held : {A : Type 0} (values : A → List ℕ) (f : List ℕ) (n : ℕ) (o : Reading) (r : Result A)
    → kept_items n o r ≡ holding f (saying values r) r (filled n (λ a. item_table n o))
items_held values f n o r = in_items_lem f (saying values r) n o r

in_buffer : (f ws : List ℕ) (n : ℕ) (r : Result (List ℕ)) → (saying one_value (room.counted r) ≡ saying size_value r) ×
    (room.kept n r ≡ holding f ws r (filled n (room.padded n))) × (room.kept n r ≡ holding f ws r (copied n (λ g. g)))
unfolding room.counted room.kept
in_buffer f ws n (good s) = (refl, refl, refl)
in_buffer f ws n (bad k p) = (refl, refl, refl)

in_written : (f ws : List ℕ) (n m : ℕ) (lim : Limits) (r : Result (List ℕ)) →
    (written_nodes n lim r ≡ holding f ws r (filled n (λ g. node_table n (read_file lim g)))) ×
    (written_items m lim r ≡ holding f ws r (filled m (λ g. item_table m (read_file lim g))))
unfolding written_nodes written_items
in_written f ws n m lim (good g) = (refl, refl)
in_written f ws n m lim (bad k p) = (refl, refl)

-- all that mending leaves
in_mended : (f ws : List ℕ) (n m c l : ℕ) (lim : Limits) (r : Result mend.Mended) → (saying size_words (sizes_of r) ≡ saying mended_values r)
    × (written_nodes n lim (copy_in r) ≡ holding f ws r (filled n (λ g. node_table n (read_file lim g.copy)))) ×
    (written_items m lim (copy_in r) ≡ holding f ws r (filled m (λ g. item_table m (read_file lim g.copy))))
    × (room.kept c (copy_in r) ≡ holding f ws r (copied c (λ g. g.copy))) × (room.kept l (lines_in r) ≡ holding f ws r (filled l (λ g. room.padded l g.lines)))
unfolding written_nodes written_items room.kept
in_mended f ws n m c l lim (good g) = (refl, refl, refl, refl, refl)
in_mended f ws n m c l lim (bad k p) = (refl, refl, refl, refl, refl)

-- and a buffer after a call that copies a part of the file
in_given : (f : List ℕ) (n : ℕ) (r : Result resolve.Resource) → room.padded n (resolve.part f r) ≡ holding f (saying resource_values r) r (given n)
unfolding resolve.part room.padded
in_given f n (good a) = refl
in_given f n (bad k p) = rw sub-zero

pub in_totals : (f ws : List ℕ) (t : Totals) (r : Result Kinds) → total_words (by_answer t r) ≡ holding f ws r
    (changed (λ n. total_words (after_refusal t n)) (λ k. total_words (added t k)))
in_totals f ws t (good k) = refl
in_totals f ws t (bad n p) = refl

abbrev counts_of : Result Tree → Result Counts
counts_of (good t) = good (record { version = t.version; nodes = t.nodes; items = t.items })
counts_of (bad n p) = bad n p

tree-told : (r : std.Result Tree Refusal) → tree.told r ≡ counts_of (told r)
tree-told (Ok t) = refl
tree-told (Err r) = refl

tree-counts : (o : Reading) (f : List ℕ) → counts_of (answer_of o) ≡ ask o (counts f)
unfolding answer_of ask counts
tree-counts (rows h ns is) f = refl
tree-counts (refusal n p) f = refl

tree-says : (r : std.Result Tree Refusal) (o : Reading) (f : List ℕ) → told r ≡ answer_of o → tree.told r ≡ ask o (counts f)
tree-says r o f e = tree-told r ∙ ap counts_of e ∙ tree-counts o f

tree-tables : (n m : ℕ) (o : Reading) (f ws : List ℕ) → (node_table n o ≡ holding f ws (ask o (counts f)) (filled n (λ a. node_table n o))) ×
    (item_table m o ≡ holding f ws (ask o (counts f)) (filled m (λ a. item_table m o)))
unfolding ask counts node_table item_table
tree-tables n m (rows h ns is) f ws = (refl, refl)
tree-tables n m (refusal k p) f ws = (refl, refl)

over-called : {A : Type 0} (question : Asks A) (values : A → List ℕ) {nodes items f t u : List ℕ} {says : Result A} → Over question nodes items f says t u
    → let ls : Sizes = length nodes ∷ length items ∷ [] in let r = ask (reads ls f) (question f) in left values says (t ∷ u ∷ []) ≡ left values
    r (map (holding f (saying values r) r) (row_tables ls (λ a. f)))
unfolding reads
over-called question values {nodes = nodes} {items = items} {f = f} k =
    let ws : List ℕ = saying values (ask (reads (length nodes ∷ length items ∷ []) f) (question f)) in
    made (ap (saying values) k.answers) (two (k.in_nodes ∙ in_nodes_lem f ws _ _ _) (k.in_items ∙ in_items_lem f ws _ _ _) refl)

room-called : (f : List ℕ) (r : Result (List ℕ)) {buffer v : List ℕ} {says : Result ℕ} → Fills r buffer says v → left one_value says (v ∷ [])
    ≡ left size_value r (holding f (saying size_value r) r (bytes (length buffer)) ∷ [])
room-called f r {buffer = b} k = let w = in_buffer f (saying size_value r) (length b) r in made (ap (saying one_value) k.answers ∙ w.0) (one (k.in_buffer ∙ w.1))

pub called : {q : Question} {lent : List (List ℕ)} {f : List ℕ} {o : Outcome} → Called q lent f o → o ≡ outcome q (map length lent) f
unfolding outcome leaves reads
called (read-tree {nodes} {items} {f} r a t u) =
    let o = read_file (limits (length nodes) (length items)) f in let w = tree-tables (length nodes) (length items) o f (saying tree_values (ask o (counts f))) in
    made (ap (saying _) (tree-says r o f a)) (two (t ∙ w.0) (u ∙ w.1) refl)
called (find-item w row r k) = over-called _ _ k
called (find-own w row r k) = over-called _ _ k
called (resolve-row row r k) = over-called _ _ k
called (copy-resource {f = f} row r k v) = made (ap (saying resource_values) k.answers)
    (two (k.in_nodes ∙ nodes_held resource_values f _ _ _) (k.in_items ∙ items_held resource_values f _ _ _) (one (v ∙ in_given f _ _)))
called (count-for item channel resource r k) = over-called _ _ k
called (judge r k) = over-called _ _ k
called (account {nodes} {items} {f} totals r a b t u) =
    let lim = limits (length nodes) (length items) in
    let r' : Result Kinds = allowed totals (ask (read_file lim f) (kinds_of lim f)) in
    let w = ap total_words (b ∙ left_is lim f totals) ∙ in_totals f (saying kind_words r') totals r' in
    made (ap (saying kind_words) a) (two (t ∙ nodes_held kind_words f _ _ _) (u ∙ items_held kind_words f _ _ _) (one w))
called (write-sheet {nodes = nodes} {items = items} {sheet = s} {f = f} r k t u) =
    let o : Result (List ℕ) = asking.answered nodes items f (sheet.write (length s)) in let w = in_buffer f (saying size_value o) (length s) o in
    made (ap (saying one_value) k.answers ∙ w.0)
    (two (t ∙ nodes_held size_value f _ _ _) (u ∙ items_held size_value f _ _ _) (one (k.in_buffer ∙ w.1)))
called (write-sheet2 {nodes = nodes} {items = items} {sheet = s} {f = f} r k t u) =
    let o : Result (List ℕ) = asking.answered nodes items f (sheet.write2 (length s)) in let w = in_buffer f (saying size_value o) (length s) o in
    made (ap (saying one_value) k.answers ∙ w.0)
    (two (t ∙ nodes_held size_value f _ _ _) (u ∙ items_held size_value f _ _ _) (one (k.in_buffer ∙ w.1)))
called (correct-title {nodes = nodes} {items = items} {out = s} {f = f} item text r k t u) =
    let o : Result (List ℕ) = asking.answered nodes items f (title.correct_title item text (length s)) in
    let w = in_buffer f (saying size_value o) (length s) o in
    let x = in_written f (saying size_value o) (length nodes) (length items) (limits (length nodes) (length items)) o in made (ap (saying one_value) k.answers ∙ w.0) (two (t ∙ x.0) (u ∙ x.1) (one (k.in_buffer ∙ w.2)))
called (mend-header {nodes} {items} {copy} {lines} {f} r a t u v w) =
    let o : Result mend.Mended = asked nodes items copy lines f in let x = in_mended f (saying mended_values o) (length nodes) (length items) (length copy) (length lines) (limits (length nodes) (length items)) o in
    made (ap (saying size_words) a ∙ x.0) (two (t ∙ x.1) (u ∙ x.2) (two (v ∙ x.3) (w ∙ x.4) refl))
called (to-utf8 r k) = room-called _ _ k
called (to-utf16 r k) = room-called _ _ k
called (move-sheet r k) = room-called _ _ k
called (calls.count-frames t r k) = made (ap (saying one_value) k) refl
called (tag-frame t i r k) = made (ap (saying frame_values) k) refl

pub each-leaves : EachLeaves
each-leaves q lends f o k = called k

pub calls_alike : CallsAlike
unfolding outcome
calls_alike q lends lends' e f g o o' h ns is r d a b =
    let ls : Sizes = map length lends in
    subst (λ v. OutcomesAlike (about q) ls f g v o') (sym (called a))
    (subst (OutcomesAlike (about q) ls f g (outcome q ls f)) (sym (called b ∙ ap (λ ls. outcome q ls g) e)) (outcome-alike ls f g h ns is r d q))

given-part : {row : ℕ} {nodes items f bytes t u : List ℕ} → Given row nodes items f bytes t u → bytes ≡ resource row (length nodes ∷ length items ∷ []) f
unfolding reads resource
given-part k = k.gives

pub parts_alike : PartsAlike
unfolding outcome leaves reads
parts_alike row nodes items nodes' items' en ei f g x y t t' u u' h ns is r d a b =
    let ls = length nodes ∷ length items ∷ [] in
    let w = (outcome-alike ls f g h ns is r d (resolve_row row)).1 in (
      rw (en, ei) at b.in_nodes ∙ nodes_held resource_values g _ _ _ ∙ w.0 ∙ sym (a.in_nodes ∙ nodes_held resource_values f _ _ _),
      rw (en, ei) at b.in_items ∙ items_held resource_values g _ _ _ ∙ w.1.0 ∙ sym (a.in_items ∙ items_held resource_values f _ _ _),
      rw (given-part a, given-part b, en, ei) (resource-there ls f g d.same_length (reads_same ls f g h ns is r d) row),
    )

-- ---- tables only limit what a file reads as

less : (ls : Sizes) → Less (limits (size ls 0) (size ls 1)) (limits full_nodes full_items)
less ls = record { nodes = omega arith; items = omega arith }

pub fits-exactly : FitsExactly
unfolding reads
fits-exactly ls f h ns is = (
  λ e. let w = to-wider (less ls) f e in (w.0, (omega (arith, w.1), omega (arith, w.2))),
  λ e l. let w = to-wider (no_less (limits full_nodes full_items)) f e in to-narrower (less ls) f e (omega (arith, w.1)) (omega (arith, w.2)),
)

pub steps-make : StepsMake
unfolding reads
steps-make ls f h ns is e = steps-made (limits (size ls 0) (size ls 1)) f e

pub first-applies : FirstApplies
unfolding reads
first-applies ls f = elim (to-either (less ls) f) [
  | inl w ↦ inl w
  | inr w ↦ inr (record { place = w.place; refused = w.refuses; none_left = w.none_left; rest = w.rest; goes_on = w.goes_on; next = w.next })
]

-- ---- the rows of an accepted file

pub until_root : UntilRoot
unfolding reads
until_root ls f h ns is r = path.until_root ns (all-rooted (limits (size ls 0) (size ls 1)) f r)

pub lie_apart : LieApart
unfolding reads
lie_apart ls f h ns is r row k b = let w = all_apart (limits (size ls 0) (size ls 1)) f r in let o = w.out row k b in (o.0, o.1, λ other c. w.one other row k c b)

-- ---- a refusal or an answer

reader_listed : (ls : Sizes) (f : List ℕ) (n p : ℕ) → reads ls f ≡ refusal n p → T (is_allowed of_reader n p)
unfolding reads
reader_listed ls f n p e = refusal-listed (limits (size ls 0) (size ls 1)) f e

-- the reader's refusal, or the question's own
asked-listed : {A : Type 0} (own : List ℕ) (o : Reading) (q : Header → List Node → List Item → Result A) → ((n p : ℕ) → o ≡ refusal n p → T (is_allowed of_reader n p))
    → ((h : Header) (ns : List Node) (is : List Item) → Among own (q h ns is)) → Among (of_reader ++ own) (ask o q)
unfolding ask
asked-listed own (rows h ns is) q a b = among-back of_reader own (q h ns is) (b h ns is)
asked-listed own (refusal n p) q a b = allowed-front of_reader own n p (a n p refl)

-- the reader's refusal is placed in the file; so is the question's own
asked-placed : {A : Type 0} (f : List ℕ) (o : Reading) (q : Header → List Node → List Item → Result A) → ((n p : ℕ) → o ≡ refusal n p → p ≤ length f)
    → ((h : Header) (ns : List Node) (is : List Item) → o ≡ rows h ns is → PlacedIn (length f) (q h ns is)) → PlacedIn (length f) (ask o q)
unfolding ask
asked-placed f (rows h ns is) q a b = b h ns is refl
asked-placed f (refusal n p) q a b = λ i. a n p refl

rows-placed : {A : Type 0} (question : Asks A) (ls : Sizes) (f : List ℕ) →
    ((h : Header) (ns : List Node) (is : List Item) → reads ls f ≡ rows h ns is → PlacedIn (length f) (question f h ns is))
    → PlacedIn (length f) (ask (reads ls f) (question f))
unfolding reads
rows-placed question ls f k = asked-placed f (reads ls f) (question f) (λ n p e. refusal-inside (limits (size ls 0) (size ls 1)) f e) k

-- where a question answers, the file has rows
answered : {A : Type 0} (o : Reading) (q : Header → List Node → List Item → Result A) {a : A} → ask o q ≡ good a → (h : Header) ×
    (ns : List Node) × (is : List Item) × (o ≡ rows h ns is)
unfolding ask
answered (rows h ns is) q e = (h, ns, is, refl)
answered (refusal n p) q e = let z : ◌≡◌ {A = ℕ} 0 1 = cc in absurd (omega arith)

-- what each entry has to show: its refusals are its own and in their places, its answers have as many values as it says, and the tables hold what it says
record Meets (q : About) : Type 0 where
  listed : (ls : Sizes) (f : List ℕ) → Among q.refusals (answer_to ls f (q.asks ls))
  placed : (ls : Sizes) (f : List ℕ) → PlacedIn (length f) (answer_to ls f (q.asks ls))
  wide : (a : q.Answer) → length (q.values a) ≡ q.number
  shown : (ls : Sizes) (f : List ℕ) (a : q.Answer) → answer_to ls f (q.asks ls) ≡ good a → AnsweredOf (q.asks ls) ls f × Shows q.tables ls f (leaves q ls f (good a))

choice_by : (q : About) → Meets q → (ls : Sizes) (f : List ℕ) (r : Result q.Answer) → answer_to ls f (q.asks ls) ≡ r → Among
    q.refusals r → PlacedIn (length f) r → IsRefusal q ls f (leaves q ls f r) ⊎ IsAnswer q ls f (leaves q ls f r)
unfolding leaves
choice_by q m ls f (good a) e k i = let s = m.shown ls f a e in inr (q.values a, refl, m.wide a, s.0, s.1)
choice_by q m ls f (bad n p) e k i = inl (n, p, refl, k, i, refl)

-- a question of a file's rows
rows-listed : {A : Type 0} (own : List ℕ) (question : Asks A) → ((f : List ℕ) (h : Header) (ns : List Node) (is : List Item) → Among own (question f h ns is))
    → (ls : Sizes) (f : List ℕ) → Among (of_reader ++ own) (ask (reads ls f) (question f))
rows-listed own question k ls f = asked-listed own (reads ls f) (question f) (reader_listed ls f) (k f)

rows-meet : {A : Type 0} (question : Asks A) (values : A → List ℕ) (number : ℕ) (own : List ℕ) →
    ((f : List ℕ) (h : Header) (ns : List Node) (is : List Item) → Among own (question f h ns is))
    → ((ls : Sizes) (f : List ℕ) (h : Header) (ns : List Node) (is : List Item) → reads ls f ≡ rows h ns is → PlacedIn (length f) (question f h ns is))
    → ((a : A) → length (values a) ≡ number) → Meets (over_rows question values number own)
unfolding leaves
rows-meet question values number own k i w = record {
  listed = rows-listed own question k;
  placed = λ ls f. rows-placed question ls f (i ls f);
  wide = w;
  shown = λ ls f a e. let x = answered (reads ls f) (question f) e in (x, (x, refl));
}

-- one whose own refusals name no place of the file
over-meets : {A : Type 0} (question : Asks A) (values : A → List ℕ) (number : ℕ) (own : List ℕ) → T (are_apart own in_file)
    → ((f : List ℕ) (h : Header) (ns : List Node) (is : List Item) → Among own (question f h ns is)) → ((a : A) → length (values a) ≡ number) →
    Meets (over_rows question values number own)
over-meets question values number own t k w = rows-meet question values number own k (λ ls f h ns is e. apart-placed own t (length f) (question f h ns is) (k f h ns is)) w

room-meets : (question : (room : ℕ) → Asks (List ℕ)) (own : List ℕ) → T (are_apart own in_file)
    → ((n : ℕ) (f : List ℕ) (h : Header) (ns : List Node) (is : List Item) → Among own (question n f h ns is)) → Meets (rows_into_room question own)
unfolding leaves
room-meets question own t k = record {
  listed = λ ls. rows-listed own (question (size ls 2)) (k (size ls 2)) ls;
  placed = λ ls f. rows-placed (question (size ls 2)) ls f (λ h ns is e. apart-placed own t (length f) (question (size ls 2) f h ns is) (k (size ls 2) f h ns is));
  wide = λ a. refl;
  shown = λ ls f a e. let x = answered (reads ls f) (question (size ls 2) f) e in (x, (x, refl));
}

-- a question of lent data alone
data_meets : (text : Result (List ℕ)) (own : List ℕ) → T (are_apart own in_file) → T (is_allowed own 22 0) → Among own text → Meets (data_into_room text own)
data_meets text own a t k = record {
  listed = λ ls f. fitting-among own t (size ls 0) text k;
  placed = λ ls f. apart-placed own a (length f) (room.fitting (size ls 0) text) (fitting-among own t (size ls 0) text k);
  wide = λ a. refl;
  shown = λ ls f a e. (tt, tt);
}

over-data_meets : {A : Type 0} (answer : Result A) (values : A → List ℕ) (number : ℕ) (own : List ℕ) → T (are_apart own in_file) → Among own
    answer → ((a : A) → length (values a) ≡ number) → Meets (over_data answer values number own)
over-data_meets answer values number own t k w = record { listed = λ ls f. k; placed = λ ls f. apart-placed own t (length f) answer k; wide = w; shown = λ ls f a e. (tt, tt) }

-- ---- the correction of a title

-- the file that was written
new_is : (i : ℕ) (text : List ℕ) (ls : Sizes) (f g : List ℕ) → new_file (leaves (about (correct_title i text)) ls f (good g)) ≡ g
unfolding leaves room.padded
new_is i text ls f g = take-append_seam g (replicate (size ls 2 - length g) 0)

-- where it is answered
title-answered : (ls : Sizes) (f : List ℕ) (i : ℕ) (text : List ℕ) {g : List ℕ} → ask (reads ls f) (title.correct_title i text (size ls 2) f) ≡ good g
    → (h : Header) × (ns : List Node) × (is : List Item) × (reads ls f ≡ rows h ns is) × (title.correct_title i text (size ls 2) f h ns is ≡ good g)
unfolding ask
title-answered ls f i text e = let (h, ns, is, z) = answered (reads ls f) (title.correct_title i text (size ls 2) f) e in (h, ns, is, z, rw z at e)

-- what it leaves is told by what was written, whatever the file
leaves-written : (i : ℕ) (text : List ℕ) (ls : Sizes) (f g : List ℕ) (r : Result (List ℕ)) → leaves (about (correct_title i text)) ls g r ≡
    leaves (about (correct_title i text)) ls f r
unfolding leaves
leaves-written i text ls f g (good x) = refl
leaves-written i text ls f g (bad n p) = refl

title-corrects : (ls : Sizes) (f : List ℕ) (i : ℕ) (text : List ℕ) (r : Result (List ℕ)) → ask (reads ls f) (title.correct_title i text (size ls 2) f) ≡ r → {n : ℕ}
    → (leaves (about (correct_title i text)) ls f r).answer ≡ 0 ∷ 0 ∷ n ∷ [] → Correction i text ls f (new_file (leaves (about (correct_title i text)) ls f r))
unfolding outcome leaves reads
title-corrects ls f i text (good g) e a =
    let (h, ns, is, z, c) = title-answered ls f i text e in let lim : Limits = limits (size ls 0) (size ls 1) in
    let fits = (corrected i text (size ls 2) f h ns is c).fits in
    subst (Correction i text ls f) (sym (new_is i text ls f g)) (record {
      header = h;
      nodes = ns;
      items = is;
      accepted = z;
      says = correct_says lim f z i text (size ls 2) c;
      least = λ ls' g' other. correct_least lim f z i text (size ls 2) c other;
      only = λ ls' g' bytes other l. correct_only lim f z i text (size ls 2) c bytes other l;
      again = ap (leaves (about (correct_title i text)) ls g) (correct_again lim f z i text (size ls 2) c (size ls 2) fits ∙ sym e) ∙
          leaves-written i text ls f g (ask (reads ls f) (title.correct_title i text (size ls 2) f));
    })
title-corrects ls f i text (bad n p) e a = let z : ◌≡◌ {A = ℕ} 0 1 = cc (ap length a) in absurd (omega arith)

title-shows : (i : ℕ) (text : List ℕ) (ls : Sizes) (f g : List ℕ) → ask (reads ls f) (title.correct_title i text (size ls 2) f) ≡ good g
    → Accepted ls f × InTables ls (new_file (leaves (about (correct_title i text)) ls f (good g))) (leaves (about (correct_title i text)) ls f (good g))
unfolding leaves reads
title-shows i text ls f g e =
    let (h, ns, is, z, c) = title-answered ls f i text e in
    let s = correct_says (limits (size ls 0) (size ls 1)) f z i text (size ls 2) c in
    ((h, ns, is, z), subst (λ v. InTables ls v (leaves (about (correct_title i text)) ls f (good g))) (sym (new_is i text ls f g)) ((s.header, s.nodes, s.items, s.reads), refl))

title-meets : (i : ℕ) (text : List ℕ) → Meets (about (correct_title i text))
title-meets i text = record {
  listed = λ ls. rows-listed title.refusals (title.correct_title i text (size ls 2)) (title-listed i text (size ls 2)) ls;
  placed = λ ls f. rows-placed (title.correct_title i text (size ls 2)) ls f
      (λ h ns is e. apart-placed title.refusals tt (length f) (title.correct_title i text (size ls 2) f h ns is)
      (title-listed i text (size ls 2) f h ns is));
  wide = λ a. refl;
  shown = title-shows i text;
}

-- ---- demand 1

-- these two refuse nothing
counts-listed : (f : List ℕ) (h : Header) (ns : List Node) (is : List Item) → Among [] (counts f h ns is)
unfolding counts
counts-listed f h ns is = tt

mobile-listed : (f : List ℕ) (h : Header) (ns : List Node) (is : List Item) → Among [] (mobile.mobile f h ns is)
unfolding mobile.mobile
mobile-listed f h ns is = tt

-- the rows of an accepted file lie in it, so 25 does
count-rows : (item channel resource : ℕ) (ls : Sizes) (f : List ℕ) (h : Header) (ns : List Node) (is : List Item) → reads ls f ≡ rows h ns
    is → PlacedIn (length f) (count.count_for item channel resource f h ns is)
unfolding reads
count-rows item channel resource ls f h ns is e = count-placed f channel resource item h ns is (accepted (limits (size ls 0) (size ls 1)) f e).items-inside

account-meets : (t : Totals) → Meets (about (account_bytes t))
unfolding leaves reads allowed kinds_of
account-meets t = record {
  listed = λ ls f. account-listed (limits (size ls 0) (size ls 1)) f t;
  placed = λ ls f. let lim = limits (size ls 0) (size ls 1) in placed-if (length f) (leb most_files t.files) _ _ (λ i. omega arith)
      (rows-placed (kinds_of lim) ls f (λ h ns is e. tt));
  wide = λ a. refl;
  shown = λ ls f a e. let x = answered (reads ls f) (kinds_of (limits (size ls 0) (size ls 1)) f) (allowed-good t _ e) in (tt, (x, refl));
}

mend-shows : (ls : Sizes) (f : List ℕ) (m : mend.Mended) → answer_to ls f ((about mend_header).asks ls) ≡ good m → InTables ls
    (new_file (leaves (about mend_header) ls f (good m))) (leaves (about mend_header) ls f (good m))
unfolding leaves reads
mend-shows ls f m e =
    let lim = limits (size ls 0) (size ls 1) in
    let (same, taken) = mend-answered lim (size ls 2) (size ls 3) f e in
    let taken' : mend.accepted (read_file lim m.copy) ≡ true = subst (λ (v : mend.Mended). mend.accepted (read_file lim v.copy) ≡ true) same taken in
    subst (λ v. InTables ls v (leaves (about mend_header) ls f (good m))) (sym (new-copy ls f m)) (read-rows (read_file lim m.copy) taken', refl)

mend-meets : Meets (about mend_header)
unfolding leaves reads
mend-meets = record {
  listed = λ ls f. mend-listed (limits (size ls 0) (size ls 1)) (size ls 2) (size ls 3) f;
  placed = λ ls f. mend-placed (limits (size ls 0) (size ls 1)) (size ls 2) (size ls 3) f;
  wide = λ a. refl;
  shown = λ ls f m e. (tt, mend-shows ls f m e);
}

meets : (q : Question) → Meets (about q)
unfolding leaves
meets read_tree = over-meets _ _ _ _ tt counts-listed (λ a. refl)
meets (find_item w row) = over-meets _ _ _ _ tt (find-listed w row) (λ a. refl)
meets (find_own w row) = over-meets _ _ _ _ tt (find-own_listed w row) (λ a. refl)
meets (resolve_row row) = over-meets _ _ _ _ tt (resolve-listed row) (λ a. refl)
meets (copy_resource row) = record {
  listed = λ ls. rows-listed resolve.copy_refusals (resolve.copy_into row (size ls 2)) (copy-listed row (size ls 2)) ls;
  placed = λ ls f. rows-placed (resolve.copy_into row (size ls 2)) ls f
      (λ h ns is e. apart-placed resolve.copy_refusals tt (length f) (resolve.copy_into row (size ls 2) f h ns is)
      (copy-listed row (size ls 2) f h ns is));
  wide = λ a. refl;
  shown = λ ls f a e. let x = answered (reads ls f) (resolve.copy_into row (size ls 2) f) e in (x, (x, refl));
}
meets (count_for item channel resource) = rows-meet _ _ _ _ (count-listed item channel resource) (count-rows item channel resource) (λ a. refl)
meets judge_mobile = over-meets _ _ _ _ tt mobile-listed (λ a. refl)
meets (account_bytes t) = account-meets t
meets write_sheet = room-meets sheet.write _ tt sheet_listed
meets write_sheet2 = room-meets sheet.write2 _ tt sheet2_listed
meets (correct_title i text) = title-meets i text
meets mend_header = mend-meets
meets (to_utf8 units) = data_meets _ _ tt tt (utf8-listed units)
meets (to_utf16 text) = data_meets _ _ tt tt (utf16-listed text)
meets (move_sheet s) = data_meets _ _ tt tt (move-listed s)
meets (count_frames t) = over-data_meets _ _ _ _ tt (tag.count-listed t) (λ a. refl)
meets (tag_frame t i) = over-data_meets _ _ _ _ tt (tag.frame-listed t i) (λ a. refl)

choice : (q : Question) (ls : Sizes) (f : List ℕ) → IsRefusal (about q) ls f (outcome q ls f) ⊎ IsAnswer (about q) ls f (outcome q ls f)
unfolding outcome
choice q ls f = choice_by (about q) (meets q) ls f _ refl ((meets q).listed ls f) ((meets q).placed ls f)

-- where resolve is refused, there is no part
no_part : (row : ℕ) (ls : Sizes) (f : List ℕ) (r : Result resolve.Resource) → IsRefusal (about (resolve_row row)) ls f
    (leaves (about (resolve_row row)) ls f r) → resolve.part f r ≡ []
unfolding leaves resolve.part
no_part row ls f (good a) w = let z : ◌≡◌ {A = ℕ} 0 1 = cc in absurd (omega arith)
no_part row ls f (bad n p) w = refl

-- a refusal leaves the totals by its number
totals_kept : (t : Totals) (ls : Sizes) (f : List ℕ) (r : Result Kinds) (n p : ℕ) → (leaves (about (account_bytes t)) ls f r).answer ≡ n ∷ p ∷ []
    → get_or (leaves (about (account_bytes t)) ls f r).holds 2 [] ≡ total_words (after_refusal t n)
unfolding leaves
totals_kept t ls f (good k) n p e = let z : ◌≡◌ {A = ℕ} 0 1 = cc (ap length e) in absurd (omega arith)
totals_kept t ls f (bad m q) n p e = let z : m ≡ n = cc in rw z refl

-- a conversion that answers 26 comes to a text that is refused so
placed : (n size p : ℕ) (r : Result (List ℕ)) → ((m q : ℕ) → r ≡ bad m q → (m ≡ 26) × (q < size)) → saying size_value (room.fitting n r) ≡ 26 ∷ p ∷ [] → p < size
unfolding room.fitting
placed n size p (good s) h e =
    fitted (λ r. saying size_value r ≡ 26 ∷ p ∷ [] → p < size) n s
    (λ z. let y : ◌≡◌ {A = ℕ} 0 26 = cc in absurd (omega arith))
    (λ z. let y : ◌≡◌ {A = ℕ} 22 26 = cc in absurd (omega arith))
    e
placed n size p (bad m q) h e = let y : q ≡ p = cc in let z = (h m q refl).1 in omega arith

pub demand1 : Demand1
unfolding outcome leaves resource
demand1 = (
  choice,
  λ row ls f w. no_part row ls f (ask (reads ls f) (resolve.resolve row f)) w,
  λ t ls f n p e. totals_kept t ls f (answer_to ls f ((about (account_bytes t)).asks ls)) n p e,
  λ units ls f p e. placed (size ls 0) (length units) p (unicode.to_utf8 units) (λ m q. placed8 units) e,
  λ text ls f p e. placed (size ls 0) (length text) p (unicode.to_utf16 text) (λ m q. placed16 text) e,
)

pub corrects : Corrects
unfolding outcome
corrects i text ls f n a = title-corrects ls f i text _ refl a

-- ---- where the bytes go

account-of : (ls : Sizes) (f : List ℕ) (h : Header) (ns : List Node) (is : List Item) → reads ls f ≡ rows h ns is → Account ls f
    (kind_words (countsOf (length f) (events_of (limits (size ls 0) (size ls 1)) f h)))
unfolding reads
account-of ls f h ns is r =
    let lim : Limits = limits (size ls 0) (size ls 1) in let es = events_of lim f h in
    record {
      header = h;
      nodes = ns;
      items = is;
      accepted = r;
      one-kind = λ k. (one-of_nine es k, kind-is es k, kind-only es (file-separate lim f r) k);
      each = count_at_lem (length f) es;
      total = omega (arith, (rows-count lim f r).total);
      by_rows = by_place lim f r;
    }

account-says : (t : Totals) (ls : Sizes) (f counts : List ℕ) (r : Result Kinds) → answer_to ls f ((about (account_bytes t)).asks ls) ≡ r → Among (about (account_bytes t)).refusals r
    → (leaves (about (account_bytes t)) ls f r).answer ≡ 0 ∷ 0 ∷ counts → Account ls f counts
unfolding leaves ask kinds_of
account-says t ls f counts (good k) e l a =
    let lim : Limits = limits (size ls 0) (size ls 1) in
    let (h, ns, is, z) = answered (reads ls f) (kinds_of lim f) (allowed-good t _ e) in
    let x : countsOf (length f) (events_of lim f h) ≡ k = let y = rw z at (allowed-good t _ e) in cc in
    let w : kind_words k ≡ counts = cc in
    subst (Account ls f) (ap kind_words x ∙ w) (account-of ls f h ns is z)
account-says t ls f counts (bad n p) e l a = let z : n ≡ 0 = cc in absurd (subst (λ m. T (is_allowed (about (account_bytes t)).refusals m p)) z l)

pub accounts : Accounts
unfolding outcome
accounts t ls f counts e = account-says t ls f counts _ refl ((meets (account_bytes t)).listed ls f) e

-- ---- demand 3 of what was written

none_written : (o : Outcome) {n p : ℕ} → o.answer ≡ n ∷ p ∷ [] → new_file o ≡ []
none_written o e = ap (λ (v : List ℕ). take (get_or v 2 0) (get_or o.holds 2 [])) e

-- of the two buffers that a correction filled
written-part : (i : ℕ) (text : List ℕ) (ls : Sizes) (f g : List ℕ) → OutcomesAlike (about (correct_title i text)) ls f g
    (outcome (correct_title i text) ls f) (outcome (correct_title i text) ls g)
    → PrivateAlone ls (new_file (outcome (correct_title i text) ls f))
    (take (get_or (outcome (correct_title i text) ls f).answer 2 0) (get_or (outcome (correct_title i text) ls g).holds 2 []))
unfolding outcome leaves
written-part i text ls f g w = w.1.1.1.0.0

pub in_turn : InTurn
unfolding outcome
in_turn i text q ls f g h ns is r d =
    let o : Outcome = outcome (correct_title i text) ls f in let o' : Outcome = outcome (correct_title i text) ls g in
    let w = outcome-alike ls f g h ns is r d (correct_title i text) in
    let y : take (get_or o.answer 2 0) (get_or o'.holds 2 []) ≡ new_file o' = ap (λ (v : List ℕ). take (get_or v 2 0) (get_or o'.holds 2 [])) (sym w.0) in
    elim (choice (correct_title i text) ls f) [
      | inl (n, p, e, t, _, u) ↦
          let z : new_file o' ≡ new_file o = none_written o' (w.0 ∙ e) ∙ sym (none_written o e) in
          subst (λ v. OutcomesAlike (about q) ls (new_file o) v (outcome q ls (new_file o)) (outcome q ls v)) (sym z) (same_alike (about q) ls (new_file o) (new_file o) refl refl refl)
      | inr (vs, e, l, _, k) ↦
          let (h', ns', is', a) = k.0 in
          let b : DifferInPrivate h' ns' is' (new_file o) (new_file o') = subst (DifferInPrivate h' ns' is' (new_file o)) y (written-part i text ls f g w h' ns' is' a) in
          outcome-alike ls (new_file o) (new_file o') h' ns' is' a b q
    ]

-- ---- the conversions undo each other

fits : (n : ℕ) (s : List ℕ) → length s ≤ n → room.fitting n (good s) ≡ good s
unfolding room.fitting
fits n s l = simp (le-leb (length s) n l)

-- a conversion that is answered wrote the text
converts : (n : ℕ) (r : Result (List ℕ)) {k : ℕ} → saying size_value (room.fitting n r) ≡ 0 ∷ 0 ∷ k ∷ [] → (s : List ℕ) × (r ≡ good s) × (room.fitting n r ≡ good s)
unfolding room.fitting
converts n (good s) {k} e = elim (dec_le (length s) n) [
  | yes l ↦ (s, refl, fits n s l)
  | no l ↦ (let q : room.fitting n (good s) ≡ bad 22 0 = simp (lt-leb (length s) n (omega arith)) in
      let w : (22 ∷ 0 ∷ []) ≡ 0 ∷ 0 ∷ k ∷ [] = ap (saying size_value) (sym q) ∙ e in
      let z : ◌≡◌ {A = ℕ} 22 0 = cc in absurd (omega arith))
]
converts n (bad m p) e = let z : ◌≡◌ {A = ℕ} 0 1 = cc (ap length e) in absurd (omega arith)

text-is : (text : Result (List ℕ)) (own : List ℕ) (n : ℕ) (f s : List ℕ) → text_of (leaves (data_into_room text own) (n ∷ []) f (good s)) ≡ s
unfolding leaves room.padded
text-is text own n f s = take-append_seam s (replicate (n - length s) 0)

-- what is shorter fits where the text does
mark-shorter : (mark a b : List ℕ) {m : ℕ} → ButForMark mark a b → length a ≤ m → length b ≤ m
mark-shorter mark a b (inl e) l = let z : length a ≡ length mark + length b = ap length e ∙ length-append mark b in omega arith
mark-shorter mark a b (inr (e, _)) l = let z : length a ≡ length b = ap length e in omega arith

undone : (text : Result (List ℕ)) (own : List ℕ) (m : ℕ) (f mark a b : List ℕ) → text ≡ good b → ButForMark mark a b → length a ≤ m
    → Undone mark a (leaves (data_into_room text own) (m ∷ []) f (room.fitting m text))
unfolding leaves
undone text own m f mark a b c d l =
    let e : room.fitting m text ≡ good b = ap (room.fitting m) c ∙ fits m b (mark-shorter mark a b d l) in
    let t = text-is text own m f b in
    subst (λ r. Undone mark a (leaves (data_into_room text own) (m ∷ []) f r)) (sym e) (ap (λ (v : List ℕ). 0 ∷ 0 ∷ length v ∷ []) (sym t), subst (ButForMark mark a) (sym t) d)

pub there_back : ThereAndBack
unfolding outcome leaves
there_back units h n m f k e l =
    let (s, r, w) = converts n (unicode.to_utf8 units) e in
    let t : text_of (outcome (to_utf8 units) (n ∷ []) f) ≡ s = ap (λ (v : Result (List ℕ)). text_of (leaves (about (to_utf8 units)) (n ∷ []) f v)) w
    ∙ text-is (unicode.to_utf8 units) unicode.refusals n f s in
    let (b, c, d) = there_and_back units h r in
    subst (λ v. Undone (0xFE ∷ 0xFF ∷ []) units (outcome (to_utf16 v) (m ∷ []) f)) (sym t) (undone (unicode.to_utf16 s) unicode.refusals m f (0xFE ∷ 0xFF ∷ []) units b c d l)

pub back-there : BackAndThere
unfolding outcome leaves
back-there text n m f k e l =
    let (s, r, w) = converts n (unicode.to_utf16 text) e in
    let t : text_of (outcome (to_utf16 text) (n ∷ []) f) ≡ s = ap (λ (v : Result (List ℕ)). text_of (leaves (about (to_utf16 text)) (n ∷ []) f v)) w
    ∙ text-is (unicode.to_utf16 text) unicode.refusals n f s in
    let (b, c, d) = back-and_there text r in
    subst (λ v. Undone (0xEF ∷ 0xBB ∷ 0xBF ∷ []) text (outcome (to_utf8 v) (m ∷ []) f)) (sym t)
    (undone (unicode.to_utf8 s) unicode.refusals m f (0xEF ∷ 0xBB ∷ 0xBF ∷ []) text b c d l)

-- ---- the walk of a tag

-- what the words of an answer say
count-said : (r : Result ℕ) {n : ℕ} → saying one_value r ≡ 0 ∷ 0 ∷ n ∷ [] → r ≡ good n
count-said (good m) {n} e = let z : m ≡ n = cc in ap good z
count-said (bad m p) e = let z : ◌≡◌ {A = ℕ} 0 1 = cc (ap length e) in absurd (omega arith)

count-not : (r : Result ℕ) {n p : ℕ} → saying one_value r ≡ n ∷ p ∷ [] → r ≡ bad n p
count-not (good m) e = let z : ◌≡◌ {A = ℕ} 0 1 = cc (ap length e) in absurd (omega arith)
count-not (bad m q) e = cc

frame-not : (r : Result TagFrame) {n p : ℕ} → saying frame_values r ≡ n ∷ p ∷ [] → r ≡ bad n p
frame-not (good x) e = let z : ◌≡◌ {A = ℕ} 0 1 = cc (ap length e) in absurd (omega arith)
frame-not (bad m q) e = cc

frame-said : (r : Result TagFrame) {name place size : ℕ} → saying frame_values r ≡ 0 ∷ 0 ∷ name ∷ place ∷ size ∷ [] → (x : TagFrame) ×
    (r ≡ good x) × (x.place ≡ place) × (x.size ≡ size)
frame-said (good x) e = (x, refl, cc, cc)
frame-said (bad m p) e = let z : ◌≡◌ {A = ℕ} 0 1 = cc (ap length e) in absurd (omega arith)

pub counts-frames : CountsFrames
unfolding outcome leaves
counts-frames t ls f = (
  λ n e i. let w = count-frames t (count-said (id3.frame_count t) e) i
      in (λ l. let (x, k) = w.0 l in (x.name, x.place, x.size, λ ls f. ap (saying frame_values) k), λ l. ap (saying frame_values) (w.1 l)),
  λ n p e i. ap (saying frame_values) (count-refused t (count-not (id3.frame_count t) e) i),
)

pub frames-are_apart : FramesApart
unfolding outcome leaves
frames-are_apart t i name place size h =
    let (x, e, p, s) = frame-said (id3.frame_at i t) (h [] []) in
    let w = frame-inside t i e in (
      omega (arith, w.0, p),
      omega (arith, w.1, p, s),
      λ j name' place' size' l k. let (y, d, q, z) = frame-said (id3.frame_at j t) (k [] []) in omega (arith, frames-apart t i j l e d, p, s, q),
    )

pub stays_in_tag : StaysInTag
unfolding outcome leaves
stays_in_tag t i n p ls f = (λ e. tag.count-stays t (count-not (id3.frame_count t) e), λ e. tag.frame-stays t i (frame-not (id3.frame_at i t) e))
