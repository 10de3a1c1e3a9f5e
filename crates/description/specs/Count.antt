-- The count that an item row gives for a channel and a resource, both numbered from 0 (02, E4).
-- Assumes nothing.
use Rattle.std.specs.Prelude.{Bool, true, false, cond, ◌&&◌, List, [], ◌∷◌, ℕ, ◌+◌, ◌*◌, ltb, length, get_or}
use Rattle.machine.specs.Machine.{Out, ok, refused, run}
use Rattle.cursor.specs.Refusals.{no_such_row, no_such_item, bad_description}
use Rattle.cursor.specs.declared.Item.{Item}
use Rattle.rows.specs.Rows.{item_at}
use Rattle.file.specs.Asking.{Result, good, bad, Asks}
use Rattle.description.specs.Row.{is_description}
use Rattle.description.specs.Description.{Description, description}

-- what a row's data reads as
unfoldable pub data_read : List ℕ → Item → Out Description
data_read f r = run (description (r.place + r.size)) f r.place

-- whether it is readable
unfoldable pub is_read : Out Description → Bool
is_read (ok d q) = true
is_read (refused n p) = false

unfoldable pub is_readable : List ℕ → Item → Bool
is_readable f r = is_read (data_read f r)

-- the count at a channel and a resource
unfoldable pub count_at : (channel resource : ℕ) → Description → Result ℕ
count_at c r d = cond (ltb c d.channels && ltb r d.resources) (good (get_or d.counts (c * d.resources + r) 0)) (bad no_such_item 0)

-- any fault of a field is 25, at that field
unfoldable pub count_of : (channel resource : ℕ) → Out Description → Result ℕ
count_of c r (ok d q) = count_at c r d
count_of c r (refused n p) = bad bad_description p

-- of an item row
unfoldable pub count_in : List ℕ → (channel resource : ℕ) → Item → Result ℕ
count_in f c r x = cond (is_description x) (count_of c r (data_read f x)) (bad no_such_item 0)

-- of a row of the table
unfoldable pub count_row : List ℕ → (row channel resource : ℕ) → List Item → Result ℕ
count_row f row c r is = cond (ltb row (length is)) (count_in f c r (item_at is row)) (bad no_such_row 0)

-- the question
unfoldable pub count_for : (row channel resource : ℕ) → Asks ℕ
count_for row c r f h ns is = count_row f row c r is

-- its own refusals, after the reader's
abbrev pub refusals : List ℕ
refusals = no_such_row ∷ no_such_item ∷ bad_description ∷ []
