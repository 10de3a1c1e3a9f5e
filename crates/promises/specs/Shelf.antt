-- The page of the shelf that desks share (02, E7): the calls, what each leaves behind, and what is promised of them. They have no file, and the sheets on a shelf are what the
-- desks put there: demand 3 says nothing of them. The proofs are in proofs/Shelf.antt.
-- Assumes nothing.
use Rattle.std.specs.Prelude as std
use Rattle.std.specs.Prelude.{◌≡◌, false, ◌⊎◌, List, [], ◌∷◌, ◌++◌, map, ℕ, ◌≤◌, T, length, get_or, replicate}
use Rattle.cursor.specs.Refusals.{damaged_shelf, is_allowed}
use Rattle.room.specs.Room.{padded, counted, kept}
use Rattle.shelf.specs.Shelf.{Shelf, most_cards, fresh, part_size, is_damaged}
use Rattle.shelf.specs.Runs.{Call, putting, getting, dropping, refusals, answer, next, after_all, calls_of, answers_to, is_full, NeverDrops}
use Rattle.shelf.specs.Words.{shelf_of, words_with}
use Rattle.shelf.specs.Rows.{row_of}
use Rattle.shelf.specs.Told.{told_outcome, told_got}
use Rattle.shelf.specs.declared.Card.{Card}
use Rattle.shelf.specs.declared.Label.{Label}
use Rattle.refusals.specs.declared.Refusal.{Refusal}
use Rattle.promises.specs.Promises.{saying, one_value, size_value}

-- ---- what a call leaves

-- its answer in words (the refusal's number and place, 0 and 0 if there is none; then get's number of bytes), the shelf, and what get's buffer finally holds
pub record Left : Type 0 where
  pub answer : List ℕ
  pub shelf : Shelf
  pub buffer : List ℕ

-- put and drop answer no value
abbrev pub no_value : List ℕ → List ℕ
no_value bytes = []

abbrev pub values : Call → List ℕ → List ℕ
values (putting l sheet) = no_value
values (getting l room) = size_value
values (dropping l) = no_value

-- the bytes of room that a call lends
abbrev pub room_of : Call → ℕ
room_of (putting l sheet) = 0
room_of (getting l room) = room
room_of (dropping l) = 0

unfoldable pub leaves : Call → Shelf → Left
leaves c s = record { answer = saying (values c) (answer c s); shelf = next c s; buffer = kept (room_of c) (answer c s) }

-- ---- the calls that were made: each is the contract of a call, clause by clause, with cards lent as words or as structs. l is the label, its desk, call and boat.

pub data Called : Call → Shelf → Left → Type 0 where
  -- shelf::put_words
  put-words : (ws text sheet : List ℕ) {ws' text' : List ℕ} (l : Label) (r : std.Result (Unit {0}) Refusal)
      → told_outcome r ≡ answer (putting l sheet) (shelf_of ws text)
      → ws' ≡ words_with ws (next (putting l sheet) (shelf_of ws text)).cards
      → text' ≡ (next (putting l sheet) (shelf_of ws text)).text
      → Called (putting l sheet) (shelf_of ws text) (record { answer = saying no_value (told_outcome r); shelf = shelf_of ws' text'; buffer = [] })
  -- shelf::get_words
  get-words : (ws text out : List ℕ) {out' : List ℕ} (l : Label) (r : std.Result ℕ Refusal)
      → told_got r ≡ counted (answer (getting l (length out)) (shelf_of ws text))
      → out' ≡ kept (length out) (answer (getting l (length out)) (shelf_of ws text))
      → Called (getting l (length out)) (shelf_of ws text) (record { answer = saying one_value (told_got r); shelf = shelf_of ws text; buffer = out' })
  -- shelf::drop_words
  drop-words : (ws text : List ℕ) {ws' text' : List ℕ} (l : Label) (r : std.Result (Unit {0}) Refusal)
      → told_outcome r ≡ answer (dropping l) (shelf_of ws text)
      → ws' ≡ words_with ws (next (dropping l) (shelf_of ws text)).cards
      → text' ≡ (next (dropping l) (shelf_of ws text)).text
      → Called (dropping l) (shelf_of ws text) (record { answer = saying no_value (told_outcome r); shelf = shelf_of ws' text'; buffer = [] })
  -- shelf::put
  put : (cards : List Card) (text sheet : List ℕ) {cards' : List Card} {text' : List ℕ} (l : Label) (r : std.Result (Unit {0}) Refusal)
      → told_outcome r ≡ answer (putting l sheet) (row_of cards text)
      → cards' ≡ (next (putting l sheet) (row_of cards text)).cards
      → text' ≡ (next (putting l sheet) (row_of cards text)).text
      → Called (putting l sheet) (row_of cards text) (record { answer = saying no_value (told_outcome r); shelf = row_of cards' text'; buffer = [] })
  -- shelf::get
  get : (cards : List Card) (text out : List ℕ) {out' : List ℕ} (l : Label) (r : std.Result ℕ Refusal)
      → told_got r ≡ counted (answer (getting l (length out)) (row_of cards text))
      → out' ≡ kept (length out) (answer (getting l (length out)) (row_of cards text))
      → Called (getting l (length out)) (row_of cards text) (record { answer = saying one_value (told_got r); shelf = row_of cards text; buffer = out' })
  -- shelf::drop
  drop : (cards : List Card) (text : List ℕ) {cards' : List Card} {text' : List ℕ} (l : Label) (r : std.Result (Unit {0}) Refusal)
      → told_outcome r ≡ answer (dropping l) (row_of cards text)
      → cards' ≡ (next (dropping l) (row_of cards text)).cards
      → text' ≡ (next (dropping l) (row_of cards text)).text
      → Called (dropping l) (row_of cards text) (record { answer = saying no_value (told_outcome r); shelf = row_of cards' text'; buffer = [] })

-- Demand 2: each call leaves what is said of it above, in either form.
abbrev pub EachLeaves : Type 0
EachLeaves = (c : Call) (s : Shelf) (o : Left) → Called c s o → o ≡ leaves c s

-- ---- Demand 1. Whatever the cards, the text and the call, it leaves a refusal or an answer.

-- a refusal: number and place, of those that the call may give; the shelf and its text are as they were, and get's buffer is zero
abbrev pub IsRefusal : Call → Shelf → Left → Type 0
IsRefusal c s o = (n : ℕ) × (p : ℕ) × (o.answer ≡ n ∷ p ∷ []) × T (is_allowed (refusals c) n p) × (o.shelf ≡ s) × (o.buffer ≡ replicate (room_of c) 0)

-- an answer: put and drop have no value; get's is the length of a sheet, which is in the buffer, with zeros behind it, and get leaves the shelf as it was
abbrev pub IsAnswer : Call → Shelf → Left → Type 0
IsAnswer (putting l sheet) s o = o.answer ≡ 0 ∷ 0 ∷ []
IsAnswer (getting l room) s o = (sheet : List ℕ) × (o.answer ≡ 0 ∷ 0 ∷ length sheet ∷ []) × (length sheet ≤ room) × (o.buffer ≡ padded room sheet) × (o.shelf ≡ s)
IsAnswer (dropping l) s o = o.answer ≡ 0 ∷ 0 ∷ []

abbrev pub Demand1 : Type 0
Demand1 = (c : Call) (s : Shelf) → IsRefusal c s (leaves c s) ⊎ IsAnswer c s (leaves c s)

-- ---- Two runs of calls, of any number of desks, from fresh shelves and buffers of equal sizes, in which a desk makes the same calls and meets 28 at the same ones: all its
-- answers are the same, get's bytes included, whatever the other desks do.

abbrev pub DesksApart : Type 0
DesksApart = (desk cards bytes : ℕ) (run run' : List Call)
    → calls_of desk run ≡ calls_of desk run'
    → map is_full (answers_to desk run (fresh cards bytes)) ≡ map is_full (answers_to desk run' (fresh cards bytes))
    → answers_to desk run (fresh cards bytes) ≡ answers_to desk run' (fresh cards bytes)

-- ---- From a fresh shelf of at most 16 cards no run of calls damages the shelf, so that no call after it meets 39.

abbrev pub StaysWhole : Type 0
StaysWhole = (cards bytes : ℕ) (run : List Call) → cards ≤ most_cards
    → let s : Shelf = after_all run (fresh cards bytes) in
    (is_damaged (part_size s.text) s.cards ≡ false) × ((c : Call) → get_or (leaves c s).answer 0 0 ≡ damaged_shelf → ⊥)

-- ---- What a desk put and did not drop it gets back, byte for byte: from a fresh shelf, after any calls, a put is answered; then follow any calls but the drop of that sheet;
-- then a get with room for the sheet gives it.

abbrev pub GetsBack : Type 0
GetsBack = (cards bytes : ℕ) (before after : List Call) (l : Label) (sheet : List ℕ)
    → (leaves (putting l sheet) (after_all before (fresh cards bytes))).answer ≡ 0 ∷ 0 ∷ [] → NeverDrops l after
    → (room : ℕ) → length sheet ≤ room
    → let o : Left = leaves (getting l room) (after_all (before ++ putting l sheet ∷ after) (fresh cards bytes)) in
    (o.answer ≡ 0 ∷ 0 ∷ length sheet ∷ []) × (o.buffer ≡ padded room sheet)
