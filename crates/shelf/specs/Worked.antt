-- Shelves computed in one test: what each call answers and leaves, and each refusal with what comes before it.
-- Assumes nothing.
use Rattle.std.specs.Prelude.{◌≡◌, refl, List, [], ◌∷◌, ◌++◌, replicate}
use Rattle.room.specs.Room.{good, bad, padded, fitting}
use Rattle.shelf.specs.Shelf.{Shelf, label, card_for, fresh_card, is_free, is_for, some, first, faulty, is_damaged, fresh, part_size, with_part, sheet_of, replaced, mapped, found, place, put_on, get_from, drop_from, after, told}
use Rattle.shelf.specs.declared.Label.{Label}
use Rattle.shelf.specs.Runs.{Call, putting, getting, dropping, answer, next, after_all, calls_of, answers_to, is_full}
use Rattle.shelf.specs.Words.{shelf_of, words_with}

-- two labels of desk 1 and one of desk 2 for the same call and boat
abbrev pub one : Label
one = label 1 4711 12

abbrev pub other : Label
other = label 1 4711 13

abbrev pub same : Label
same = label 2 4711 12

-- two cards, parts of two bytes and one byte behind the sixteen parts
abbrev pub start : Shelf
start = fresh 2 33

-- desk 1 puts a sheet of one byte, desk 2 one of two; then desk 1 drops its own, and puts another one
abbrev pub run : List Call
run = putting one (65 ∷ []) ∷ putting same (66 ∷ 67 ∷ []) ∷ []

abbrev pub later : List Call
later = run ++ dropping one ∷ putting other (68 ∷ []) ∷ []

cases : (after_all run start ≡ record { cards = card_for one 1 ∷ card_for same 2 ∷ []; text = 65 ∷ 0 ∷ 66 ∷ 67 ∷ replicate 29 0 })
    × (after_all (run ++ dropping one ∷ []) start ≡ record { cards = fresh_card ∷ card_for same 2 ∷ []; text = 0 ∷ 0 ∷ 66 ∷ 67 ∷ replicate 29 0 })
    × (after_all later start ≡ record { cards = card_for other 1 ∷ card_for same 2 ∷ []; text = 68 ∷ 0 ∷ 66 ∷ 67 ∷ replicate 29 0 })
    × (answers_to 1 later start ≡ good [] ∷ good [] ∷ good [] ∷ [])
    × (answer (getting same 2) (after_all later start) ≡ good (66 ∷ 67 ∷ []))
    × (answer (getting same 1) (after_all later start) ≡ bad 22 0)
    × (answer (getting one 2) (after_all later start) ≡ bad 27 0)
    × (answer (getting (label 2 4711 13) 2) (after_all later start) ≡ bad 27 0)
    × (answer (dropping one) (after_all later start) ≡ bad 27 0)
    × (answer (putting other (1 ∷ 2 ∷ 3 ∷ [])) (after_all later start) ≡ bad 29 0)
    × (answer (putting one (1 ∷ 2 ∷ 3 ∷ [])) (after_all later start) ≡ bad 30 0)
    × (answer (putting one (1 ∷ 2 ∷ [])) (after_all later start) ≡ bad 28 0)
    × (answer (putting (label 1 0 12) (1 ∷ 2 ∷ 3 ∷ [])) (after_all later start) ≡ bad 27 0)
    × (next (putting one (1 ∷ 2 ∷ [])) (after_all later start) ≡ after_all later start)
    -- no card, and a part of no bytes
    × (answer (putting one []) (fresh 0 0) ≡ bad 28 0)
    × (answer (putting one []) (fresh 1 15) ≡ good [])
    × (answer (putting one (1 ∷ [])) (fresh 1 15) ≡ bad 30 0)
    -- more than 16 cards; a sheet longer than its part; one label twice; a free card is not judged
    × (answer (getting (label 1 0 12) 0) (fresh 17 32) ≡ bad 39 0)
    × (answer (getting one 0) (record { cards = card_for one 3 ∷ []; text = replicate 32 0 }) ≡ bad 39 0)
    × (answer (dropping one) (record { cards = card_for one 0 ∷ card_for one 1 ∷ []; text = replicate 32 0 }) ≡ bad 39 0)
    × (answer (putting one []) (record { cards = card_for (label 1 0 12) 3 ∷ card_for (label 1 0 12) 3 ∷ []; text = replicate 32 0 }) ≡ good [])
    -- words that are left over are no card, and stay
    × (answer (putting one []) (shelf_of (7 ∷ 7 ∷ 7 ∷ []) []) ≡ bad 28 0)
    × (words_with (0 ∷ 0 ∷ 0 ∷ 0 ∷ 7 ∷ []) (card_for one 1 ∷ []) ≡ 1 ∷ 4711 ∷ 12 ∷ 1 ∷ 7 ∷ [])
unfolding answer next after_all calls_of answers_to is_full fresh put_on get_from drop_from after told mapped found place is_damaged faulty some first is_free is_for part_size with_part sheet_of replaced padded fitting shelf_of words_with
cases = (refl, refl, refl, refl, refl, refl, refl, refl, refl, refl, refl, refl, refl, refl, refl, refl, refl, refl, refl, refl, refl, refl, refl)
