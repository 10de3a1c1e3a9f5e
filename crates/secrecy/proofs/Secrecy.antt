-- The command's answers keep demand 3: what is asked answers alike (promises, Kept.antt), and what is printed beside it depends on public bytes alone.
-- Assumes nothing.
use mathlib.Core.Path.{◌≡◌, refl, sym, ap, ap₂, ◌∙◌, subst}
use mathlib.Core.Bool.{Bool, true, false, cond, not, ◌&&◌, ◌||◌}
use mathlib.Core.List.{List, [], ◌∷◌, ◌++◌, append-nil}
use Prim.Native.Nat.{ℕ, suc, ◌+◌, ◌%◌, ◌<◌}
use native.Mathlib.Omega.{arith}
use lib.Dec.{T, eqb, ltb, leb}
use lib.ListN.{length}
use borrow.Author.Tests.{eqb-false, leb-false}
use Rattle.cursor.specs.declared.Node.{Node}
use Rattle.cursor.specs.declared.Item.{Item}
use Rattle.cursor.specs.Refusals.{no_such_row, no_such_item, refers_elsewhere}
use Rattle.machine.proofs.Agree.{Agree}
use Rattle.cursor.proofs.Agree.{part_same}
use Rattle.machine.proofs.Within.{same}
use Rattle.header.specs.Header.{Header}
use Rattle.metadata.specs.Tables.{full_nodes, full_items, limits}
use Rattle.metadata.specs.declared.Limits.{Limits}
use Rattle.room.specs.Room.{Result, good, bad}
use Rattle.room.specs.Decimal.{decimal}
use Rattle.file.specs.Reading.{rows, read_file}
use Rattle.rows.specs.Rows.{item_at}
use Rattle.file.specs.Asking.{Asks, counts, ask}
use Rattle.file.specs.Own.{Numbered}
use Rattle.file.specs.Hidden.{is_hidden}
use Rattle.file_laws.specs.Private.{DifferInPrivate}
use Rattle.find.specs.Find.{Wanted}
use Rattle.find.specs.Told.{question, wanted_of}
use Rattle.resolve.specs.Resolve.{resolve}
use Rattle.description.specs.Row.{is_description}
use Rattle.description.specs.Count.{data_read, count_of, count_in}
use Rattle.description.proofs.Tests.{description-is}
use Rattle.description.proofs.Depends.{description-within}
use Rattle.mobile.specs.Mobile.{mobile}
use Rattle.account.specs.Account.{kinds_of}
use Rattle.account.specs.Totals.{refused_one, one_more}
use Rattle.account.specs.declared.Kinds.{Kinds}
use Rattle.account.specs.Marks.{marks_of}
use Rattle.account.proofs.File.{kinds-alike, marks_alike}
use Rattle.mend.specs.Mend.{mended, changes, repair, fitting, mend}
use Rattle.mend.specs.Told.{lines_in}
use Rattle.mend.proofs.Theorem.{mended-length, still}
use Rattle.mend.proofs.Alike.{mended-alike}
use Rattle.text.specs.Text.{tabbed}
use Rattle.sheet.specs.Sheet.{text_of, visible_line, write, write2}
use Rattle.sheet.proofs.Depends.{Shown, text_same, line_same, visible-same}
use Rattle.title_text.specs.Title.{elsewhere, is_no_title}
use Rattle.promises.specs.Promises as page
use Rattle.promises.specs.Promises.{full}
use Rattle.promises.proofs.Kept.{reads_same, asks-alike, find-alike, find-own_alike, fields-alike, mobile-alike, sheet_alike, sheet2_alike, shown-alike}
use Rattle.lines.specs.Answer.{Answer, answer, plainly, nothing, too_long_line, closed, fitted, printed, reads}
use Rattle.outputs.specs.Printed.{sheet_answer}
use Rattle.checks.specs.Checked.{ok_line, checked, check_answer, judged, verdict_answer}
use Rattle.places.specs.Places.{placed, place_answer, origin, origin_answer}
use Rattle.tables.specs.Rows.{all_rows, rows_answer, item_row, found_lines, found_by, found_answer}
use Rattle.titles.specs.Titles.{title_line, title_lines, titles, titles_answer, title_format}
use Rattle.notes.specs.Changes.{row_text}
use Rattle.needs.specs.Needed.{count_line, needs_in, item_needs, row_needs, both, needs_from, needs, needs_answer, answers, shown_needs, shown_count, of_row, row_needs_answer, count_answer}
use Rattle.outputs.specs.Mended.{mend_lines_answer}
use Rattle.spans.specs.Runs.{runs_shown, runs_answer}
use Rattle.usage.specs.Bytes.{kinds_in, lined, bytes_answer, in_line, bytes_line_answer, plus_file}
use Rattle.frames.specs.Tags.{tag_lines, withheld, shown_tag, row_tag_answer}
use Rattle.answers.specs.Questions.{answer_to, answer_of}
use Rattle.answers.specs.declared.asked.Asked.{Asked}
use Rattle.answers.specs.declared.asked.Asked.TheVariants as asked
use Rattle.frames.specs.declared.Frames.{Frames}
use Rattle.tables.proofs.Found.{stands}
use Rattle.secrecy.specs.Private.{hands_out, SameAnswers, SameTitles, SameSums, Unseen}

-- ---- where a test holds, and where it does not

where_true : {A : Type 0} (b : Bool) {x y : A} (z : A) → (b ≡ true → x ≡ y) → cond b x z ≡ cond b y z
where_true true z h = h refl
where_true false z h = refl

where_false : {A : Type 0} (b : Bool) {x y : A} (z : A) → (b ≡ false → x ≡ y) → cond b z x ≡ cond b z y
where_false true z h = refl
where_false false z h = h refl

-- of a row that is visible and universal
untitled : {A : Type 0} (b c : Bool) {x y : A} (z : A) → (b ≡ false → x ≡ y) → cond (b || c) z x ≡ cond (b || c) z y
untitled true c z h = refl
untitled false c z h = where_false c z (λ _. h refl)

-- the lines that tell of a mended header: an accepted file and one that differs from it in private places have the same
lines-alike : (lim : Limits) (room space : ℕ) (f g : List ℕ) {h : Header} {ns : List Node} {is : List Item} → read_file lim f ≡ rows h ns is → DifferInPrivate h ns is f g
    → lines_in (mend lim room space g) ≡ lines_in (mend lim room space f)
unfolding mend fitting
lines-alike lim room space f g {h} {ns} {is} r d =
    let x : read_file lim (mended f) ≡ rows h ns is = still lim f r in
    let w = mended-alike lim f g x d in
    let e : length (mended g) ≡ length (mended f) = mended-length g ∙ sym d.same_length ∙ sym (mended-length f) in
    rw (w.reads, x, e, w.lines) (by (leb (length (mended f)) room && leb (length (changes f)) space))
  where
    by : (b : Bool) → lines_in (cond b (good (record { copy = mended g; lines = changes f })) (bad 22 0)) ≡ lines_in (cond b (good (repair f)) (bad 22 0))
    by true = refl
    by false = refl

-- what is printed of one outcome
printed-same : {A : Type 0} (room : ℕ) (tail : List ℕ) (u v : A → Answer) (x : Result A) → ((a : A) → x ≡ good a → u a ≡ v a) → printed room tail u x ≡ printed room tail v x
unfolding printed
printed-same room tail u v (good a) e = ap (fitted room tail) (e a refl)
printed-same room tail u v (bad n p) e = refl

-- ---- what is shown of an item row, of two files of one length

-- the files agree on the data of a content description
abbrev Described : List ℕ → List ℕ → Item → Type 0
Described f g r = r.kind ≡ 0 → r.field ≡ 13 → Agree f g r.place r.size

module _ (f g : List ℕ) (long : length f ≡ length g) where
  module _ (r : Item) (s : Shown f g r) where
    found-same : (k : ℕ) → found_lines g (record { row = k; item = r }) ≡ found_lines f (record { row = k; item = r })
    unfolding found_lines
    found-same k = ap (λ (t : List ℕ). item_row 0x49 k r ++ t) (sym (visible-same f g long r s))

    even : eqb (r.format % 2) 1 ≡ false → r.format % 2 ≡ 0
    even e = let n = eqb-false (r.format % 2) 1 e in omega arith

    title-same : (k : ℕ) → title_line g k r ≡ title_line f k r
    unfolding title_line is_no_title is_hidden
    title-same k = untitled (eqb (r.format % 2) 1) _ [] (λ e. ap (λ (t : List ℕ). decimal k ++ tabbed t) (sym (line_same f g long r s (even e))))

    text-alike : cond (is_no_title r) [] (text_of g r) ≡ cond (is_no_title r) [] (text_of f r)
    unfolding is_no_title is_hidden
    text-alike = untitled (eqb (r.format % 2) 1) _ [] (λ e. sym (text_same f g long r s (even e)))

    -- the tag of a row that is not hidden
    tag_same : (which : Frames) (k : ℕ) → shown_tag false which g k r ≡ shown_tag false which f k r
    unfolding shown_tag withheld is_hidden
    tag_same which k =
        where_false (eqb (r.format % 2) 1) (good nothing)
        (λ e. ap (λ (v : List ℕ). answers plainly (tag_lines which v)) (sym (part_same f g long r.place r.size (s.0 (even e)))))

  titles-same : (k : ℕ) (is : List Item) → ((i : ℕ) → i < length is → Shown f g (item_at is i)) → title_lines g k is ≡ title_lines f k is
  unfolding title_lines
  titles-same k [] s = refl
  titles-same k (r ∷ is) s = ap₂ (λ (a b : List ℕ). a ++ b) (title-same r (s 0 (omega arith)) k) (titles-same (k + 1) is (λ i l. s (suc i) (omega arith)))

module _ (f g : List ℕ) where
  module _ (r : Item) (s : Described f g r) where
    data_same : is_description r ≡ true → data_read g r ≡ data_read f r
    unfolding data_read
    data_same e = let x = description-is r e in sym (same (description-within (r.place + r.size)) f g r.place (s x.0 x.1))

    needs-same : is_description r ≡ true → (k : ℕ) → item_needs g k r ≡ item_needs f k r
    unfolding item_needs
    needs-same e k = ap (needs_in k) (data_same e)

    row-needs_same : (k : ℕ) → row_needs g k r ≡ row_needs f k r
    unfolding row_needs
    row-needs_same k = where_false (is_hidden r) (good []) (λ _. where_true (is_description r) (good []) (λ e. needs-same e k))

    shown-needs_same : (k : ℕ) → shown_needs g k r ≡ shown_needs f k r
    unfolding shown_needs
    shown-needs_same k = where_false (is_hidden r) (good nothing) (λ _. where_true (is_description r) (bad no_such_item 0) (λ e. ap (answers plainly) (needs-same e k)))

    count-in_same : (c n : ℕ) → count_in g c n r ≡ count_in f c n r
    unfolding count_in
    count-in_same c n = where_true (is_description r) (bad no_such_item 0) (λ e. ap (count_of c n) (data_same e))

    shown-count_same : (k c n : ℕ) → shown_count g k c n r ≡ shown_count f k c n r
    unfolding shown_count
    shown-count_same k c n = where_false (is_hidden r) (good nothing) (λ _. ap (answers (λ m. plainly (count_line k c n m))) (count-in_same c n))

  from-same : (k : ℕ) (is : List Item) → ((i : ℕ) → i < length is → Described f g (item_at is i)) → needs_from g k is ≡ needs_from f k is
  unfolding needs_from
  from-same k [] s = refl
  from-same k (r ∷ is) s = ap₂ both (row-needs_same r (s 0 (omega arith)) k) (from-same (k + 1) is (λ i l. s (suc i) (omega arith)))

-- ---- the questions

module _ (f g : List ℕ) (h : Header) (ns : List Node) (is : List Item) (r : reads f ≡ rows h ns is) (d : DifferInPrivate h ns is f g) where
  on-page : page.reads full f ≡ rows h ns is
  unfolding reads page.reads
  on-page = r

  read_same : reads g ≡ reads f
  unfolding reads page.reads
  read_same = reads_same full f g h ns is on-page d

  shown : (i : ℕ) → i < length is → Shown f g (item_at is i)
  shown = shown-alike full f g h ns is on-page d

  described : (i : ℕ) → i < length is → Described f g (item_at is i)
  described = fields-alike full f g h ns is on-page d 13 tt

  asked_of : {A : Type 0} (q : Header → List Node → List Item → Result A) → ask (reads f) q ≡ q h ns is
  unfolding ask
  asked_of q = rw r refl

  -- a question that answers alike, and of whose answer alike is shown
  prints : {A : Type 0} (room : ℕ) (tail : List ℕ) (q : Asks A) (u v : A → Answer) → q g h ns is ≡ q f h ns is → ((a : A) → q f h ns is ≡ good a → u a ≡ v a)
      → printed room tail u (ask (reads g) (q g)) ≡ printed room tail v (ask (reads f) (q f))
  unfolding reads page.reads
  prints room tail q u v e s =
      ap (printed room tail u) (asks-alike full f g h ns is on-page d (q g) (q f) e) ∙ printed-same room tail u v (ask (reads f) (q f)) (λ a z. s a (sym (asked_of (q f)) ∙ z))

  -- the bytes of each kind
  kinds-same : kinds_in g ≡ kinds_in f
  unfolding kinds_in reads page.reads
  kinds-same =
      let lim = limits full_nodes full_items in asks-alike full f g h ns is on-page d (kinds_of lim g) (kinds_of lim f) (kinds-alike lim f g r d)

  module _ (room : ℕ) where
    check-same : (tail : List ℕ) → check_answer room tail g ≡ check_answer room tail f
    unfolding check_answer counts
    check-same tail = prints room tail counts (checked tail g) (checked tail f) refl (λ c _. ap (λ n. plainly (ok_line tail c.version n)) (sym d.same_length))

    verdict-same : (tail : List ℕ) → verdict_answer room tail g ≡ verdict_answer room tail f
    unfolding verdict_answer
    verdict-same tail = prints room tail mobile (judged tail) (judged tail) (mobile-alike full f g h ns is on-page d) (λ _ _. refl)

    sheet_same : (second : Bool) (tail : List ℕ) → sheet_answer room second tail g ≡ sheet_answer room second tail f
    unfolding sheet_answer
    sheet_same true tail = prints room tail (write2 room) plainly plainly (sheet2_alike full f g h ns is on-page d room) (λ _ _. refl)
    sheet_same false tail = prints room tail (write room) plainly plainly (sheet_alike full f g h ns is on-page d room) (λ _ _. refl)

    bytes_same : (tail : List ℕ) → bytes_answer room tail g ≡ bytes_answer room tail f
    unfolding bytes_answer
    bytes_same tail = ap (printed room tail lined) kinds-same

    runs_same : runs_answer room g ≡ runs_answer room f
    unfolding runs_answer reads page.reads
    runs_same =
        let lim = limits full_nodes full_items in
        ap (printed room [] runs_shown) (asks-alike full f g h ns is on-page d (marks_of lim 65537 g) (marks_of lim 65537 f) (marks_alike lim f g r d 65537))

    mend-lines_same : mend_lines_answer room g ≡ mend_lines_answer room f
    unfolding mend_lines_answer reads
    mend-lines_same = ap (printed room [] plainly) (lines-alike (limits full_nodes full_items) 65536 room f g r d)

    bytes-line_same : (tail : List ℕ) → bytes_line_answer room tail g ≡ bytes_line_answer room tail f
    unfolding bytes_line_answer
    bytes-line_same tail = ap (printed room tail (in_line tail)) kinds-same

    rows_same : rows_answer room g ≡ rows_answer room f
    unfolding rows_answer all_rows
    rows_same = prints room [] all_rows plainly plainly refl (λ _ _. refl)

    place_same : (row : ℕ) → place_answer room row g ≡ place_answer room row f
    unfolding place_answer resolve
    place_same row = prints room [] (resolve row) placed placed refl (λ _ _. refl)

    origin-same : (row : ℕ) → origin_answer room row g ≡ origin_answer room row f
    unfolding origin_answer origin
    origin-same row = prints room [] (origin row) plainly plainly refl (λ _ _. refl)

    question-same : (climbs : Bool) (w : Wanted) (row : ℕ) → question climbs w row g h ns is ≡ question climbs w row f h ns is
    question-same true w row = find-alike full f g h ns is on-page d w row
    question-same false w row = find-own_alike full f g h ns is on-page d w row

    -- a row that is found stands in the item table
    shows-found : (climbs : Bool) (w : Wanted) (row : ℕ) (n : Numbered) → question climbs w row f h ns is ≡ good n → found_by g n ≡ found_by f n
    shows-found climbs w row n e =
        let s = stands climbs w row f h ns is n e in ap plainly (found-same f g d.same_length n.item (subst (Shown f g) s.1 (shown n.row s.0)) n.row)

    find-same : (climbs : Bool) (w : Wanted) (row : ℕ) → found_answer room climbs w row g ≡ found_answer room climbs w row f
    unfolding found_answer
    find-same climbs w row = prints room [] (question climbs w row) (found_by g) (found_by f) (question-same climbs w row) (shows-found climbs w row)

    titles-alike : titles_answer room g ≡ titles_answer room f
    unfolding titles_answer titles
    titles-alike =
        prints room [] titles plainly plainly (where_false (elsewhere ns) (bad refers_elsewhere 0) (λ _. ap good (titles-same f g d.same_length 0 is shown))) (λ _ _. refl)

    needs-alike : needs_answer room g ≡ needs_answer room f
    unfolding needs_answer needs
    needs-alike = prints room [] needs plainly plainly (from-same f g 0 is described) (λ _ _. refl)

    -- of one item row, by what is known of each
    row_same : (row : ℕ) (shows : List ℕ → ℕ → Item → Result Answer) (Known : Item → Type 0) → ((i : ℕ) → i < length is → Known (item_at is i)) →
        ((x : Item) → Known x → shows g row x ≡ shows f row x)
        → printed room [] (λ a. a) (ask (reads g) (of_row row shows g)) ≡ printed room [] (λ a. a) (ask (reads f) (of_row row shows f))
    unfolding of_row
    row_same row shows Known k s =
        prints room [] (of_row row shows) (λ a. a) (λ a. a)
        (where_false (leb (length is) row) (bad no_such_row 0) (λ e. s (item_at is row) (k row (leb-false (length is) row e)))) (λ _ _. refl)

    row-needs_alike : (row : ℕ) → row_needs_answer room row g ≡ row_needs_answer room row f
    unfolding row_needs_answer
    row-needs_alike row = row_same row shown_needs (Described f g) described (λ x s. shown-needs_same f g x s row)

    count-alike : (row c n : ℕ) → count_answer room row c n g ≡ count_answer room row c n f
    unfolding count_answer
    count-alike row c n = row_same row (λ f k x. shown_count f k c n x) (Described f g) described (λ x s. shown-count_same f g x s row c n)

    row-tag_alike : (row : ℕ) (which : Frames) → row_tag_answer room row false which g ≡ row_tag_answer room row false which f
    unfolding row_tag_answer
    row-tag_alike row which = row_same row (shown_tag false which) (Shown f g) shown (λ x s. tag_same f g d.same_length x s which row)

  to_same : (word tail : List ℕ) (room : ℕ) (a : Asked) → T (not (hands_out a)) → answer_to word tail room g a ≡ answer_to word tail room f a
  unfolding answer_to hands_out
  to_same word tail room asked.Sheet t = sheet_same room false tail
  to_same word tail room asked.Sheet2 t = sheet_same room true tail
  to_same word tail room asked.Moved t = absurd t
  to_same word tail room asked.Check t = check-same room tail
  to_same word tail room asked.Rows t = rows_same room
  to_same word tail room asked.Verdict t = verdict-same room tail
  to_same word tail room (asked.Near row field) t = find-same room true (wanted_of field word) row
  to_same word tail room (asked.Own row field) t = find-same room false (wanted_of field word) row
  to_same word tail room (asked.Place row) t = place_same room row
  to_same word tail room (asked.Resource row) t = absurd t
  to_same word tail room (asked.Origin row) t = origin-same room row
  to_same word tail room asked.Needs t = needs-alike room
  to_same word tail room (asked.RowNeeds row) t = row-needs_alike room row
  to_same word tail room (asked.Count row c n) t = count-alike room row c n
  to_same word tail room asked.Titles t = titles-alike room
  to_same word tail room asked.Bytes t = bytes_same room tail
  to_same word tail room asked.BytesLine t = bytes-line_same room tail
  to_same word tail room asked.Runs t = runs_same room
  to_same word tail room asked.Mended t = absurd t
  to_same word tail room asked.MendLines t = mend-lines_same room
  to_same word tail room (asked.RowTag row true which) t = absurd t
  to_same word tail room (asked.RowTag row false which) t = row-tag_alike room row which
  to_same word tail room (asked.Tag which) t = absurd t
  to_same word tail room (asked.Corrected row) t = absurd t
  to_same word tail room (asked.Retitled row) t = absurd t
  to_same word tail room asked.Utf8 t = absurd t
  to_same word tail room asked.Utf16 t = absurd t

  old-title : (row : ℕ) → row_text row g (reads g) ≡ row_text row f (reads f)
  unfolding row_text
  old-title row = rw (read_same, r) (where_false (leb (length is) row) [] (λ e. text-alike f g d.same_length (item_at is row) (shown row (leb-false (length is) row e))))

pub same-answers : SameAnswers
unfolding answer_of
same-answers f g h ns is r d word tail room a t =
    ap₂ (λ (n : ℕ) (x : Answer). cond (ltb 65536 n) (closed room (answer 2 (too_long_line tail))) x) (sym d.same_length) (to_same f g h ns is r d word tail room a t)

pub same-titles : SameTitles
same-titles f g h ns is r d row = (old-title f g h ns is r d row, ap (title_format row) (read_same f g h ns is r d))

pub same-sums : SameSums
unfolding plus_file
same-sums f g h ns is r d t = ap₂ (λ (n : ℕ) (x : Result Kinds). cond (ltb 65536 n) (refused_one t) (one_more t x)) (sym d.same_length) (kinds-same f g h ns is r d)

-- ---- hidden rows

hides : (b : Bool) → T b → b ≡ true
hides true t = refl
hides false t = absurd t

pub unseen : Unseen
unfolding found_lines visible_line title_line is_no_title row_needs shown_needs shown_count shown_tag withheld
unseen f k r t = let e : is_hidden r ≡ true = hides (is_hidden r) t in rw e (append-nil (item_row 0x49 k r), refl, refl, refl, λ c n. refl, λ w. refl)
