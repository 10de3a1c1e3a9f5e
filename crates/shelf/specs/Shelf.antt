-- A shelf: a row of cards, at most 16, and a text of 16 equal parts that holds their sheets; part and card go together by number. What put, get and drop
-- answer, and what they leave.
-- Assumes nothing.
use Rattle.std.specs.Prelude.{Bool, false, cond, not, ◌&&◌, ◌||◌, List, [], ◌∷◌, ℕ, suc, ◌*◌, ◌/◌, ltb, eqb, length, get_or, take, drop, set, replicate}
use Rattle.std.proofs.lemmas.List.Edits.{sets}
use Rattle.cursor.specs.Refusals.{no_such_card, no_free_card, already_there, sheet_too_long, damaged_shelf}
use Rattle.room.specs.Room.{no_room, Result, good, bad, padded}
use Rattle.shelf.specs.declared.Card.{Card}
use Rattle.shelf.specs.declared.Label.{Label}

-- ---- cards

-- the card of a sheet
abbrev pub card_for : Label → (size : ℕ) → Card
card_for l size = record { desk = l.desk; call = l.call; boat = l.boat; length = size }

abbrev pub label : (desk call boat : ℕ) → Label
label desk call boat = record { desk = desk; call = call; boat = boat }

-- what a card is labelled
abbrev pub label_of : Card → Label
label_of c = record { desk = c.desk; call = c.call; boat = c.boat }

-- a fresh card
abbrev pub fresh_card : Card
fresh_card = record { desk = 0; call = 0; boat = 0; length = 0 }

unfoldable pub is_free : Card → Bool
is_free c = eqb c.call 0

unfoldable pub is_for : Label → Card → Bool
is_for l c = eqb c.desk l.desk && (eqb c.call l.call && eqb c.boat l.boat)

-- whether the test holds of some card
unfoldable pub some : (Card → Bool) → List Card → Bool
some p [] = false
some p (c ∷ cs) = p c || some p cs

-- the number of the first card of which the test holds; the number of cards if there is none
unfoldable pub first : (Card → Bool) → List Card → ℕ
first p [] = 0
first p (c ∷ cs) = cond (p c) 0 (suc (first p cs))

-- whether a card is taken and its sheet is longer than its part, or one of the later cards has its desk, call and boat
abbrev pub is_faulty : (part : ℕ) → Card → (later : List Card) → Bool
is_faulty part c later = not (is_free c) && (ltb part c.length || some (is_for (label_of c)) later)

-- whether some card is
unfoldable pub faulty : (part : ℕ) → List Card → Bool
faulty part [] = false
faulty part (c ∷ cs) = is_faulty part c cs || faulty part cs

-- the most cards that a shelf may have, and the number of parts
abbrev pub most_cards : ℕ
most_cards = 16

-- whether there are too many cards, or one is at fault
unfoldable pub is_damaged : (part : ℕ) → List Card → Bool
is_damaged part cs = ltb most_cards (length cs) || faulty part cs

-- ---- the shelf

pub record Shelf : Type 0 where
  pub cards : List Card
  pub text : List ℕ

-- a fresh shelf, all zero: the number of its cards, and of the bytes of its text
unfoldable pub fresh : (cards bytes : ℕ) → Shelf
fresh cards bytes = record { cards = replicate cards fresh_card; text = replicate bytes 0 }

-- the number of bytes of a part
unfoldable pub part_size : List ℕ → ℕ
part_size text = length text / most_cards

-- the text with part i holding a sheet and then zeros
unfoldable pub with_part : List ℕ → (i : ℕ) → (sheet : List ℕ) → List ℕ
with_part text i sheet = sets text (i * part_size text) (padded (part_size text) sheet)

-- the sheet of card i
unfoldable pub sheet_of : Shelf → (i : ℕ) → List ℕ
sheet_of s i = take (get_or s.cards i fresh_card).length (drop (i * part_size s.text) s.text)

-- the shelf with card i and its part replaced
unfoldable pub replaced : Shelf → (i : ℕ) → Card → (sheet : List ℕ) → Shelf
replaced s i c sheet = record { cards = set s.cards i c; text = with_part s.text i sheet }

-- ---- the calls: an answer, or a refusal

unfoldable pub mapped : {A B : Type 0} → (A → B) → Result A → Result B
mapped f (good a) = good (f a)
mapped f (bad n p) = bad n p

-- the number of a label's card; `part` is the number of bytes of a part
unfoldable pub found : Label → (part : ℕ) → List Card → Result ℕ
found l part cs =
    cond (is_damaged part cs) (bad damaged_shelf 0)
    (cond (eqb l.call 0) (bad no_such_card 0)
    (cond (some (is_for l) cs) (good (first (is_for l) cs))
    (bad no_such_card 0)))

-- the number of the card for a new sheet of `size` bytes: the lowest free one
unfoldable pub place : Label → (size part : ℕ) → List Card → Result ℕ
place l size part cs =
    cond (is_damaged part cs) (bad damaged_shelf 0)
    (cond (eqb l.call 0) (bad no_such_card 0)
    (cond (some (is_for l) cs) (bad already_there 0)
    (cond (ltb part size) (bad sheet_too_long 0)
    (cond (some is_free cs) (good (first is_free cs))
    (bad no_free_card 0)))))

-- put and drop give the shelf that is left, get the sheet
unfoldable pub put_on : Label → (sheet : List ℕ) → Shelf → Result Shelf
put_on l sheet s = mapped (λ i. replaced s i (card_for l (length sheet)) sheet) (place l (length sheet) (part_size s.text) s.cards)

unfoldable pub get_from : Label → Shelf → Result (List ℕ)
get_from l s = mapped (sheet_of s) (found l (part_size s.text) s.cards)

unfoldable pub drop_from : Label → Shelf → Result Shelf
drop_from l s = mapped (λ i. replaced s i fresh_card []) (found l (part_size s.text) s.cards)

-- what is left: a refused call leaves the shelf and its text as they were
unfoldable pub after : Shelf → Result Shelf → Shelf
after s (good t) = t
after s (bad n p) = s

-- the answer to put or drop: no bytes
unfoldable pub told : Result Shelf → Result (List ℕ)
told r = mapped (λ _. []) r

-- ---- the refusals of each call

abbrev pub put_refusals : List ℕ
put_refusals = damaged_shelf ∷ no_such_card ∷ already_there ∷ sheet_too_long ∷ no_free_card ∷ []

abbrev pub get_refusals : List ℕ
get_refusals = damaged_shelf ∷ no_such_card ∷ no_room ∷ []

abbrev pub drop_refusals : List ℕ
drop_refusals = damaged_shelf ∷ no_such_card ∷ []
