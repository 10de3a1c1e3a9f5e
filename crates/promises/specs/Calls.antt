-- The public calls. Each line is the contract of a call, clause by clause: what it answers, and what each table and buffer finally holds, whatever it held
-- before. f is the file; t, u and v are what the tables and the buffer finally hold.
-- Assumes nothing.
use Rattle.std.specs.Prelude as std
use Rattle.std.specs.Prelude.{◌≡◌, cond, ◌||◌, List, [], ◌∷◌, map, ℕ, ◌+◌, ◌≤◌, ◌<◌, ◌^◌, min, eqb, length, get_or, drop}
use Rattle.refusals.specs.declared.Refusal.{Refusal}
use Rattle.cursor.specs.Refusals.{too_many_files}
use Rattle.cursor.specs.declared.Node.{Node}
use Rattle.cursor.specs.declared.Item.{Item}
use Rattle.header.specs.Header.{Header}
use Rattle.file.specs.Reading.{rows, answer_of}
use Rattle.file.specs.Told as tree
use Rattle.file.specs.declared.Tree.{Tree}
use Rattle.file.specs.Asking.{Asks, Result, reads, nodes_read, items_read, answered, nodes_left, items_left, nodes_written, items_written}
use Rattle.file_laws.specs.Private.{DifferInPrivate}
use Rattle.find.specs.Find.{Wanted, find, find_own}
use Rattle.find.specs.Told as found
use Rattle.resolve.specs.Resolve.{resolve, copy_into, part}
use Rattle.resolve.specs.Told as resolved
use Rattle.resolve.specs.Told.{Given}
use Rattle.resolve.specs.declared.Resolved.{Resolved}
use Rattle.description.specs.Count.{count_for}
use Rattle.description.specs.Told as counted
use Rattle.mobile.specs.Mobile.{mobile}
use Rattle.mobile.specs.Told as judged
use Rattle.account.specs.Totals.{most_files, zeros}
use Rattle.account.specs.Told as accounted
use Rattle.account.specs.Told.{kind_words, total_words, totals_in}
use Rattle.account.specs.declared.Totals.{Totals}
use Rattle.account.specs.declared.Accounted.{Accounted}
use Rattle.sheet.specs.Sheet.{write, write2}
use Rattle.editions.specs.Sheets.{move}
use Rattle.title_text.specs.Title as title
use Rattle.mend.specs.Told as mended
use Rattle.mend.specs.Told.{size_words, sizes_of, copy_in, lines_in, asked}
use Rattle.room.specs.Room as room
use Rattle.refusals.specs.Told as written
use Rattle.utf16.specs.Unicode as unicode
use Rattle.id3.specs.Frames as id3
use Rattle.id3.specs.Told as tag
use Rattle.id3.specs.declared.TagFrame.{TagFrame}
use Rattle.promises.specs.Promises as promises
use Rattle.promises.specs.Promises.{Question, read_tree, find_item, resolve_row, copy_resource, judge_mobile, account_bytes, write_sheet, write_sheet2, correct_title, mend_header, to_utf8, to_utf16, move_sheet, count_frames, tag_frame, Outcome, saying, tree_values, item_values, resource_values, one_value, frame_values, about, outcome, OnlyThere, OutcomesAlike}

-- what a call left: the answer's words, and the tables and buffers
abbrev pub left : {A : Type 0} → (values : A → List ℕ) → Result A → List (List ℕ) → Outcome
left values r holds = record { answer = saying values r; holds = holds }

-- a call over a file with two tables
pub record Over {A : Type 0} (question : Asks A) (nodes items f : List ℕ) (says : Result A) (t u : List ℕ) : Type 0 where
  pub answers : says ≡ answered nodes items f question
  pub in_nodes : t ≡ nodes_left nodes items f question
  pub in_items : u ≡ items_left nodes items f question

-- a call that fills a buffer with what it was to write
pub record Fills (bytes : Result (List ℕ)) (buffer : List ℕ) (says : Result ℕ) (v : List ℕ) : Type 0 where
  pub answers : says ≡ room.counted bytes
  pub in_buffer : v ≡ room.kept (length buffer) bytes

-- a call that was made: its question, the tables and buffers lent, as they were, the file, and what it left
pub data Called : Question → (lent : List (List ℕ)) → (file : List ℕ) → Outcome → Type 0 where
  -- file::read_tree
  read-tree : {nodes items f t u : List ℕ} (r : std.Result Tree Refusal)
      → written.told r ≡ answer_of (reads nodes items f) → t ≡ nodes_read nodes items f → u ≡ items_read nodes items f
      → Called read_tree (nodes ∷ items ∷ []) f (left tree_values (tree.told r) (t ∷ u ∷ []))
  -- find::find_standard with w a standard number, find::find_custom with w a custom name
  find-item : {nodes items f t u : List ℕ} (w : Wanted) (row : ℕ) (r : std.Result (ℕ × Item) Refusal)
      → Over (find w row) nodes items f (found.told r) t u
      → Called (find_item w row) (nodes ∷ items ∷ []) f (left item_values (found.told r) (t ∷ u ∷ []))
  -- find::find_own_standard and find::find_own_custom
  find-own : {nodes items f t u : List ℕ} (w : Wanted) (row : ℕ) (r : std.Result (ℕ × Item) Refusal)
      → Over (find_own w row) nodes items f (found.told r) t u
      → Called (promises.find_own w row) (nodes ∷ items ∷ []) f (left item_values (found.told r) (t ∷ u ∷ []))
  -- resolve::resolve
  resolve-row : {nodes items f t u : List ℕ} (row : ℕ) (r : std.Result Resolved Refusal)
      → Over (resolve row) nodes items f (resolved.told r) t u
      → Called (resolve_row row) (nodes ∷ items ∷ []) f (left resource_values (resolved.told r) (t ∷ u ∷ []))
  -- resolve::copy_resource
  copy-resource : {nodes items out f t u v : List ℕ} (row : ℕ) (r : std.Result Resolved Refusal)
      → Over (copy_into row (length out)) nodes items f (resolved.told r) t u
      → v ≡ room.padded (length out) (part f (answered nodes items f (copy_into row (length out))))
      → Called (copy_resource row) (nodes ∷ items ∷ out ∷ []) f (left resource_values (resolved.told r) (t ∷ u ∷ v ∷ []))
  -- description::count_for
  count-for : {nodes items f t u : List ℕ} (item channel resource : ℕ) (r : std.Result ℕ Refusal)
      → Over (count_for item channel resource) nodes items f (counted.told r) t u
      → Called (promises.count_for item channel resource) (nodes ∷ items ∷ []) f (left one_value (counted.told r) (t ∷ u ∷ []))
  -- mobile::judge
  judge : {nodes items f t u : List ℕ} (r : std.Result ℕ Refusal)
      → Over mobile nodes items f (judged.told r) t u
      → Called judge_mobile (nodes ∷ items ∷ []) f (left one_value (judged.told r) (t ∷ u ∷ []))
  -- account::account
  account : {nodes items f t u : List ℕ} (totals : Totals) (r : Accounted)
      → accounted.told r ≡ accounted.answer totals nodes items f → totals_in r ≡ accounted.totals_after totals nodes items f
      → t ≡ accounted.nodes_after totals nodes items f → u ≡ accounted.items_after totals nodes items f
      → Called (account_bytes totals) (nodes ∷ items ∷ []) f (left kind_words (accounted.told r) (t ∷ u ∷ total_words (totals_in r) ∷ []))
  -- sheet::write_sheet
  write-sheet : {nodes items sheet f t u v : List ℕ} (r : std.Result ℕ Refusal)
      → Fills (answered nodes items f (write (length sheet))) sheet (written.told r) v
      → t ≡ nodes_left nodes items f (write (length sheet)) → u ≡ items_left nodes items f (write (length sheet))
      → Called write_sheet (nodes ∷ items ∷ sheet ∷ []) f (left one_value (written.told r) (t ∷ u ∷ v ∷ []))
  -- sheet::write_sheet2
  write-sheet2 : {nodes items sheet f t u v : List ℕ} (r : std.Result ℕ Refusal)
      → Fills (answered nodes items f (write2 (length sheet))) sheet (written.told r) v
      → t ≡ nodes_left nodes items f (write2 (length sheet)) → u ≡ items_left nodes items f (write2 (length sheet))
      → Called write_sheet2 (nodes ∷ items ∷ sheet ∷ []) f (left one_value (written.told r) (t ∷ u ∷ v ∷ []))
  -- title::correct_title
  correct-title : {nodes items out f t u v : List ℕ} (item : ℕ) (text : List ℕ) (r : std.Result ℕ Refusal)
      → Fills (answered nodes items f (title.correct_title item text (length out))) out (written.told r) v
      → t ≡ nodes_written nodes items (answered nodes items f (title.correct_title item text (length out)))
      → u ≡ items_written nodes items (answered nodes items f (title.correct_title item text (length out)))
      → Called (correct_title item text) (nodes ∷ items ∷ out ∷ []) f (left one_value (written.told r) (t ∷ u ∷ v ∷ []))
  -- mend::mend
  mend-header : {nodes items copy lines f t u v w : List ℕ} (r : std.Result (ℕ × ℕ) Refusal)
      → mended.told r ≡ sizes_of (asked nodes items copy lines f)
      → t ≡ nodes_written nodes items (copy_in (asked nodes items copy lines f)) → u ≡ items_written nodes items (copy_in (asked nodes items copy lines f))
      → v ≡ room.kept (length copy) (copy_in (asked nodes items copy lines f)) → w ≡ room.kept (length lines) (lines_in (asked nodes items copy lines f))
      → Called mend_header (nodes ∷ items ∷ copy ∷ lines ∷ []) f (left size_words (mended.told r) (t ∷ u ∷ v ∷ w ∷ []))
  -- unicode::to_utf8
  to-utf8 : {buffer f units v : List ℕ} (r : std.Result ℕ Refusal)
      → Fills (room.fitting (length buffer) (unicode.to_utf8 units)) buffer (written.told r) v
      → Called (to_utf8 units) (buffer ∷ []) f (left one_value (written.told r) (v ∷ []))
  -- unicode::to_utf16
  to-utf16 : {buffer f text v : List ℕ} (r : std.Result ℕ Refusal)
      → Fills (room.fitting (length buffer) (unicode.to_utf16 text)) buffer (written.told r) v
      → Called (to_utf16 text) (buffer ∷ []) f (left one_value (written.told r) (v ∷ []))
  -- mover::move_sheet
  move-sheet : {buffer f sheet v : List ℕ} (r : std.Result ℕ Refusal)
      → Fills (room.fitting (length buffer) (move sheet)) buffer (written.told r) v
      → Called (move_sheet sheet) (buffer ∷ []) f (left one_value (written.told r) (v ∷ []))
  -- id3::frame_count
  count-frames : {f : List ℕ} (t : List ℕ) (r : std.Result ℕ Refusal) → tag.count_told r ≡ id3.frame_count t → Called (count_frames t) [] f (left one_value (tag.count_told r) [])
  -- id3::frame
  tag-frame : {f : List ℕ} (t : List ℕ) (i : ℕ) (r : std.Result TagFrame Refusal) → tag.frame_told r ≡ id3.frame_at i t → Called (tag_frame t i) [] f (left frame_values (tag.frame_told r) [])

-- ---- What is promised of calls, whatever their tables and buffers held.

-- Demand 2: each call leaves its question's outcome.
abbrev pub EachLeaves : Type 0
EachLeaves = (q : Question) (lends : List (List ℕ)) (f : List ℕ) (o : Outcome) → Called q lends f o → o ≡ outcome q (map length lends) f

-- Demand 3 of two calls with tables and buffers of the same sizes.
abbrev pub CallsAlike : Type 0
CallsAlike = (q : Question) (lends lends' : List (List ℕ)) → map length lends' ≡ map length lends → (f g : List ℕ) (o o' : Outcome) (h : Header) (ns : List Node) (is : List Item)
    → promises.reads (map length lends) f ≡ rows h ns is → DifferInPrivate h ns is f g → Called q lends f o → Called q lends' g o'
    → OutcomesAlike (about q) (map length lends) f g o o'

-- And of two second calls of resolve, `Given` being the contract of resolve::resource: the tables are the same, and the parts differ only where the files do.
abbrev pub PartsAlike : Type 0
PartsAlike = (row : ℕ) (nodes items nodes' items' : List ℕ) → length nodes' ≡ length nodes → length items' ≡ length items → (f g x y t t' u u' : List ℕ) (h : Header) (ns : List Node) (is : List Item)
    → promises.reads (length nodes ∷ length items ∷ []) f ≡ rows h ns is → DifferInPrivate h ns is f g → Given row nodes items f x t u → Given row nodes' items' g y t' u'
    → (t' ≡ t) × (u' ≡ u) × OnlyThere f g (get_or (outcome (resolve_row row) (length nodes ∷ length items ∷ []) f).answer 2 0) x y

-- ---- Sums over files: calls of account::account one after the other, each handed the totals that the one before left; what each left, and the totals that the last left.

pub data InSum : Totals → List Outcome → Totals → Type 0 where
  none : {t : Totals} → InSum t [] t
  next : {t t' t'' : Totals} {lends : List (List ℕ)} {f : List ℕ} {o : Outcome} {os : List Outcome}
      → Called (account_bytes t) lends f o → get_or o.holds 2 [] ≡ total_words t' → InSum t' os t'' → InSum t (o ∷ os) t''

-- the counts of a kind in the answers, added up; a refusal has none
abbrev pub sum_of : (kind : ℕ) → List Outcome → ℕ
sum_of κ [] = 0
sum_of κ (o ∷ os) = get_or (drop 2 o.answer) κ 0 + sum_of κ os

-- how many of them are refusals of the reader
abbrev pub unread : List Outcome → ℕ
unread [] = 0
unread (o ∷ os) = cond (eqb (get_or o.answer 0 0) 0 || eqb (get_or o.answer 0 0) too_many_files) 0 1 + unread os

-- From totals that are all zero: the number of files is that of the calls, up to 1,000; the number refused is that of the reader's refusals; each sum is that of the counts
-- that were answered; every number fits a word; and a further call is refused with 32 if there were 1,000, and not otherwise.
pub record Sum (os : List Outcome) (t : Totals) : Type 0 where
  pub files : t.files ≡ min (length os) most_files
  pub refused : t.refused ≡ unread os
  pub sums : (κ : ℕ) → get_or (kind_words t.kinds) κ 0 ≡ sum_of κ os
  pub fits : (i : ℕ) → get_or (total_words t) i 0 < 2 ^ 64
  pub full : (lends : List (List ℕ)) (f : List ℕ) (o : Outcome) → Called (account_bytes t) lends f o
      → (most_files ≤ length os → o.answer ≡ too_many_files ∷ 0 ∷ []) × (length os < most_files → (get_or o.answer 0 0 ≡ too_many_files) → ⊥)

abbrev pub Sums : Type 0
Sums = (os : List Outcome) (t : Totals) → InSum zeros os t → Sum os t
