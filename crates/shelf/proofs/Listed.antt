-- The refusals of put, get and drop are those of their lists, each at place 0; and only a damaged shelf meets 39.
-- Assumes nothing.
use mathlib.Core.Path.{◌≡◌, refl, sym}
use mathlib.Core.Bool.{Bool, true, false, cond}
use mathlib.Core.List.{List, []}
use Prim.Native.Nat.{ℕ, ◌≤◌}
use native.Mathlib.Omega.{arith}
use lib.Dec.{ltb, leb, eqb}
use lib.ListN.{length}
use borrow.Author.Tests.{le-leb, leb-true}
use Rattle.room.specs.Room.{Result, good, bad, fitting}
use Rattle.cursor.specs.Refusals.{Among}
use Rattle.shelf.specs.Shelf.{Shelf, fresh_card, card_for, is_free, is_for, some, first, is_damaged, part_size, sheet_of, replaced, mapped, found, place, put_on, get_from, drop_from, after, told, put_refusals, get_refusals, drop_refusals}
use Rattle.shelf.specs.declared.Label.{Label}
use Rattle.shelf.specs.Runs.{Call, putting, getting, dropping, answer, next, refusals}
use Rattle.shelf.specs.Rows.{code_of}
use Rattle.shelf.proofs.Judging.{never}

-- ---- a case for each outcome of the tests, in their order

placed : (a b c g h : Bool) → ℕ → Result ℕ
placed a b c g h i = cond a (bad 39 0) (cond b (bad 27 0) (cond c (bad 29 0) (cond g (bad 30 0) (cond h (good i) (bad 28 0)))))

place-among : (a b c g h : Bool) (i : ℕ) (f : ℕ → Shelf) → Among put_refusals (told (mapped f (placed a b c g h i)))
unfolding placed told mapped
place-among true b c g h i f = tt
place-among false true c g h i f = tt
place-among false false true g h i f = tt
place-among false false false true h i f = tt
place-among false false false false true i f = tt
place-among false false false false false i f = tt

place-whole : (b c g h : Bool) (i : ℕ) (f : ℕ → Shelf) → code_of (told (mapped f (placed false b c g h i))) ≡ 39 → ⊥
unfolding placed told mapped
place-whole true c g h i f e = omega arith
place-whole false true g h i f e = omega arith
place-whole false false true h i f e = omega arith
place-whole false false false true i f e = omega arith
place-whole false false false false i f e = omega arith

seen : (a b c : Bool) → ℕ → Result ℕ
seen a b c i = cond a (bad 39 0) (cond b (bad 27 0) (cond c (good i) (bad 27 0)))

drop-among : (a b c : Bool) (i : ℕ) (f : ℕ → Shelf) → Among drop_refusals (told (mapped f (seen a b c i)))
unfolding seen told mapped
drop-among true b c i f = tt
drop-among false true c i f = tt
drop-among false false true i f = tt
drop-among false false false i f = tt

drop-whole : (b c : Bool) (i : ℕ) (f : ℕ → Shelf) → code_of (told (mapped f (seen false b c i))) ≡ 39 → ⊥
unfolding seen told mapped
drop-whole true c i f e = omega arith
drop-whole false true i f e = omega arith
drop-whole false false i f e = omega arith

fits-among : (x : Bool) (s : List ℕ) → Among get_refusals (cond x (good s) (bad 22 0))
fits-among true s = tt
fits-among false s = tt

fits_whole : (x : Bool) (s : List ℕ) → code_of (cond x (good s) (bad 22 0)) ≡ 39 → ⊥
fits_whole true s e = omega arith
fits_whole false s e = omega arith

get-among : (a b c : Bool) (i room : ℕ) (f : ℕ → List ℕ) → Among get_refusals (fitting room (mapped f (seen a b c i)))
unfolding seen fitting mapped
get-among true b c i room f = tt
get-among false true c i room f = tt
get-among false false true i room f = fits-among (leb (length (f i)) room) (f i)
get-among false false false i room f = tt

get-whole : (b c : Bool) (i room : ℕ) (f : ℕ → List ℕ) → code_of (fitting room (mapped f (seen false b c i))) ≡ 39 → ⊥
unfolding seen fitting mapped
get-whole true c i room f e = omega arith
get-whole false true i room f e = fits_whole (leb (length (f i)) room) (f i) e
get-whole false false i room f e = omega arith

-- ---- the calls

pub listed : (c : Call) (s : Shelf) → Among (refusals c) (answer c s)
unfolding answer put_on get_from drop_from place found placed seen
listed (putting l sheet) s =
    place-among (is_damaged (part_size s.text) s.cards) (eqb l.call 0) (some (is_for l) s.cards) (ltb (part_size s.text) (length sheet)) (some is_free s.cards)
    (first is_free s.cards) (λ i. replaced s i (card_for l (length sheet)) sheet)
listed (getting l room) s = get-among (is_damaged (part_size s.text) s.cards) (eqb l.call 0) (some (is_for l) s.cards) (first (is_for l) s.cards) room (sheet_of s)
listed (dropping l) s = drop-among (is_damaged (part_size s.text) s.cards) (eqb l.call 0) (some (is_for l) s.cards)
    (first (is_for l) s.cards) (λ i. replaced s i fresh_card [])

pub whole-answer : (c : Call) (s : Shelf) → is_damaged (part_size s.text) s.cards ≡ false → code_of (answer c s) ≡ 39 → ⊥
unfolding answer put_on get_from drop_from place found placed seen
whole-answer (putting l sheet) s d e =
    place-whole (eqb l.call 0) (some (is_for l) s.cards) (ltb (part_size s.text) (length sheet)) (some is_free s.cards)
    (first is_free s.cards) (λ i. replaced s i (card_for l (length sheet)) sheet) (rw d at e)
whole-answer (getting l room) s d e = get-whole (eqb l.call 0) (some (is_for l) s.cards) (first (is_for l) s.cards) room (sheet_of s) (rw d at e)
whole-answer (dropping l) s d e = drop-whole (eqb l.call 0) (some (is_for l) s.cards) (first (is_for l) s.cards) (λ i. replaced s i fresh_card []) (rw d at e)

-- ---- what a refusal leaves, and what an answer is

refused-after : (s : Shelf) (r : Result Shelf) {n p : ℕ} → told r ≡ bad n p → after s r ≡ s
unfolding told mapped after
refused-after s (good t) e = never (sym e)
refused-after s (bad m q) e = refl

pub refused-leaves : (c : Call) (s : Shelf) {n p : ℕ} → answer c s ≡ bad n p → next c s ≡ s
unfolding answer next
refused-leaves (putting l sheet) s e = refused-after s (put_on l sheet s) e
refused-leaves (getting l room) s e = refl
refused-leaves (dropping l) s e = refused-after s (drop_from l s) e

-- a sheet that is got fits the buffer
fits-room : (room : ℕ) (r : Result (List ℕ)) (sheet : List ℕ) → fitting room r ≡ good sheet → length sheet ≤ room
unfolding fitting
fits-room room (good t) sheet e = by (leb (length t) room) refl e
  where
    by : (x : Bool) → leb (length t) room ≡ x → cond x (good t) (bad 22 0) ≡ good sheet → length sheet ≤ room
    by true q e = let k : t ≡ sheet = cc in rw (← k) (leb-true _ _ q)
    by false q e = never e
fits-room room (bad n p) sheet e = never e

pub got_fits : (l : Label) (room : ℕ) (s : Shelf) {sheet : List ℕ} → answer (getting l room) s ≡ good sheet → length sheet ≤ room
unfolding answer
got_fits l room s {sheet} e = fits-room room (get_from l s) sheet e

-- a sheet that is there is got with room for it
pub got_whole : (l : Label) (room : ℕ) (s : Shelf) {sheet : List ℕ} → get_from l s ≡ good sheet → length sheet ≤ room → answer (getting l room) s ≡ good sheet
unfolding answer fitting
got_whole l room s e k = rw (e, le-leb _ _ k) refl
