-- Calls on a shelf, and runs of them; what one desk is answered.
-- Assumes nothing.
use Rattle.std.specs.Prelude.{◌≡◌, Bool, false, cond, List, [], ◌∷◌, ◌++◌, ℕ, eqb}
use Rattle.room.specs.Room.{Result, good, bad, fitting}
use Rattle.cursor.specs.Refusals.{no_free_card}
use Rattle.shelf.specs.Shelf.{Shelf, put_on, get_from, drop_from, after, told, put_refusals, get_refusals, drop_refusals}
use Rattle.shelf.specs.declared.Label.{Label}

-- a call; get lends `room` bytes
pub data Call : Type 0 where
  putting : Label → (sheet : List ℕ) → Call
  getting : Label → (room : ℕ) → Call
  dropping : Label → Call

abbrev pub desk_of : Call → ℕ
desk_of (putting l sheet) = l.desk
desk_of (getting l room) = l.desk
desk_of (dropping l) = l.desk

-- its answer: get's is the sheet, put's and drop's no bytes
unfoldable pub answer : Call → Shelf → Result (List ℕ)
answer (putting l sheet) s = told (put_on l sheet s)
answer (getting l room) s = fitting room (get_from l s)
answer (dropping l) s = told (drop_from l s)

-- the refusals that it may give
abbrev pub refusals : Call → List ℕ
refusals (putting l sheet) = put_refusals
refusals (getting l room) = get_refusals
refusals (dropping l) = drop_refusals

-- the shelf that it leaves
unfoldable pub next : Call → Shelf → Shelf
next (putting l sheet) s = after s (put_on l sheet s)
next (getting l room) s = s
next (dropping l) s = after s (drop_from l s)

-- the shelf after a run
unfoldable pub after_all : List Call → Shelf → Shelf
after_all [] s = s
after_all (c ∷ cs) s = after_all cs (next c s)

-- the calls of a desk in a run
unfoldable pub calls_of : (desk : ℕ) → List Call → List Call
calls_of desk [] = []
calls_of desk (c ∷ cs) = cond (eqb (desk_of c) desk) (c ∷ calls_of desk cs) (calls_of desk cs)

-- the answers to them, in a run that begins with the shelf s
unfoldable pub answers_to : (desk : ℕ) → List Call → Shelf → List (Result (List ℕ))
answers_to desk [] s = []
answers_to desk (c ∷ cs) s = cond (eqb (desk_of c) desk) (answer c s ∷ answers_to desk cs (next c s)) (answers_to desk cs (next c s))

-- whether an answer is refusal 28
unfoldable pub is_full : Result (List ℕ) → Bool
is_full (good s) = false
is_full (bad n p) = eqb n no_free_card

-- no call of a run drops the sheet of this label
abbrev pub NeverDrops : Label → List Call → Type 0
NeverDrops l run = (before after : List Call) → run ≡ before ++ dropping l ∷ after → ⊥
