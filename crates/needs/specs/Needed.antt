-- What a tune needs: the counts of content descriptions, a line each. Those of a hidden row are not told.
-- Assumes nothing.
use Rattle.std.specs.Prelude.{◌≡◌, Ok, Err, cond, List, [], ◌∷◌, ◌++◌, ℕ, ◌+◌, ◌/◌, ◌%◌, leb, length}
use Rattle.std.specs.Prelude as std
use Rattle.refusals.specs.Reasons.{number_of}
use Rattle.refusals.specs.declared.Refusal.{Refusal}
use Rattle.refusals.specs.declared.Reason.TheVariants as reason
use Rattle.machine.specs.Machine.{Out, ok, refused}
use Rattle.cursor.specs.Refusals.{no_such_row, no_such_item, bad_description}
use Rattle.cursor.specs.declared.Item.{Item}
use Rattle.room.specs.Room.{Result, good, bad}
use Rattle.room.specs.Counts.{Counts}
use Rattle.rows.specs.Rows.{item_at}
use Rattle.file.specs.Hidden.{is_hidden}
use Rattle.file.specs.Asking.{Asks, ask}
use Rattle.text.specs.Text.{number}
use Rattle.description.specs.Row.{is_description}
use Rattle.description.specs.Description.{Description}
use Rattle.description.specs.Count.{data_read, count_in}
use Rattle.lines.specs.Answer.{Answer, plainly, nothing, printed, reads}

-- `C`, item row, channel, resource, count
unfoldable pub count_line : (row channel resource count : ℕ) → List ℕ
count_line row channel resource count = 0x43 ∷ number row ++ number channel ++ number resource ++ number count ++ 0x0A ∷ []

-- a count table from count j on: a row a channel, a count a resource
unfoldable pub count_lines : (row resources j : ℕ) → List ℕ → List ℕ
count_lines row resources j [] = []
count_lines row resources j (c ∷ cs) = count_line row (j / resources) (j % resources) c ++ count_lines row resources (j + 1) cs

-- those of an item row, of what its data reads as
unfoldable pub needs_in : (row : ℕ) → Out Description → Result (List ℕ)
needs_in row (ok d q) = good (count_lines row d.resources 0 d.counts)
needs_in row (refused n p) = bad bad_description p

unfoldable pub item_needs : List ℕ → (row : ℕ) → Item → Result (List ℕ)
item_needs f row r = needs_in row (data_read f r)

-- ---- all of them

-- those of an item row, if it is a visible content description
unfoldable pub row_needs : List ℕ → (row : ℕ) → Item → Result (List ℕ)
row_needs f row r = cond (is_hidden r) (good []) (cond (is_description r) (item_needs f row r) (good []))

-- one after the other; the first refusal
unfoldable pub both : Result (List ℕ) → Result (List ℕ) → Result (List ℕ)
both (good a) (good b) = good (a ++ b)
both (good a) (bad n p) = bad n p
both (bad n p) y = bad n p

-- the rows from row k on
unfoldable pub needs_from : List ℕ → (k : ℕ) → List Item → Result (List ℕ)
needs_from f k [] = good []
needs_from f k (r ∷ rs) = both (row_needs f k r) (needs_from f (k + 1) rs)

unfoldable pub needs : Asks (List ℕ)
needs f h ns is = needs_from f 0 is

unfoldable pub needs_answer : (room : ℕ) → List ℕ → Answer
needs_answer room f = printed room [] plainly (ask (reads f) (needs f))

-- ---- those of one item row, or one of them: no answer where it is hidden

-- an outcome, as an answer
unfoldable pub answers : {A : Type 0} → (A → Answer) → Result A → Result Answer
answers shows (good a) = good (shows a)
answers shows (bad n p) = bad n p

-- of an item row that is there
unfoldable pub shown_needs : List ℕ → (row : ℕ) → Item → Result Answer
shown_needs f row r = cond (is_hidden r) (good nothing) (cond (is_description r) (answers plainly (item_needs f row r)) (bad no_such_item 0))

unfoldable pub shown_count : List ℕ → (row channel resource : ℕ) → Item → Result Answer
shown_count f row c s r = cond (is_hidden r) (good nothing) (answers (λ n. plainly (count_line row c s n)) (count_in f c s r))

-- of an item row of the table
unfoldable pub of_row : (row : ℕ) → (List ℕ → ℕ → Item → Result Answer) → Asks Answer
of_row row shows f h ns is = cond (leb (length is) row) (bad no_such_row 0) (shows f row (item_at is row))

unfoldable pub row_needs_answer : (room row : ℕ) → List ℕ → Answer
row_needs_answer room row f = printed room [] (λ a. a) (ask (reads f) (of_row row shown_needs f))

unfoldable pub count_answer : (room row channel resource : ℕ) → List ℕ → Answer
count_answer room row c s f = printed room [] (λ a. a) (ask (reads f) (of_row row (λ f k r. shown_count f k c s r) f))

-- ---- what was put from `to` on

abbrev pub Puts : (o o' : List ℕ) → (to : ℕ) → Result (List ℕ) → std.Result ℕ Refusal → Type 0
Puts o o' to x (Ok r) = (w : List ℕ) × (x ≡ good w) × Counts o o' to w r
Puts o o' to x (Err e) = (x ≡ bad (number_of e.0) e.1) × (length o' ≡ length o)

-- ---- what a fault of a field is

abbrev pub described : {A : Type 0} → std.Result A Refusal → std.Result A Refusal
described (Ok a) = Ok a
described (Err e) = Err (record { 0 = reason.BadDescription; 1 = e.1 })
