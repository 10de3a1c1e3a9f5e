-- What is promised of the shelf is kept.
-- Assumes nothing.
use mathlib.Core.Path.{◌≡◌, refl, ap, ◌∙◌, subst}
use mathlib.Core.Logic.{◌⊎◌, inl, inr}
use mathlib.Core.Bool.{false}
use mathlib.Core.List.{List, [], ◌∷◌, ◌++◌}
use Prim.Native.Nat.{ℕ}
use lib.Dec.{T}
use lib.ListN.{length, get_or}
use Rattle.cursor.specs.Refusals.{is_allowed, Among}
use Rattle.room.specs.Room.{Result, good, bad, padded, counted, kept}
use Rattle.shelf.specs.Shelf.{Shelf, fresh, part_size, is_damaged, mapped, put_on, drop_from, told, put_refusals}
use Rattle.shelf.specs.Runs.{Call, putting, getting, dropping, refusals, answer, next, after_all}
use Rattle.shelf.specs.Words.{cards_of, shelf_of, words_with}
use Rattle.shelf.specs.Rows.{code_of}
use Rattle.shelf.specs.declared.Card.{Card}
use Rattle.shelf.proofs.Words.{cards-with}
use Rattle.shelf.proofs.Rows.{put_keeps, drop_keeps}
use Rattle.shelf.proofs.Apart as apart
use Rattle.shelf.proofs.Listed.{listed, whole-answer, refused-leaves, got_fits, got_whole}
use Rattle.promises.specs.Promises.{saying, one_value, size_value}
use Rattle.promises.specs.Shelf.{Left, no_value, values, room_of, leaves, Called, put-words, get-words, drop-words, put, get, drop, EachLeaves, IsRefusal, IsAnswer, Demand1, DesksApart, StaysWhole, GetsBack}

-- ---- each call leaves what is said of it

left_is : {a a' b b' : List ℕ} {s s' : Shelf} → a ≡ a' → s ≡ s' → b ≡ b' → ◌≡◌ {A = Left} (record { answer = a; shelf = s; buffer = b })
    (record { answer = a'; shelf = s'; buffer = b' })
left_is p q r = λ t. record { answer = p t; shelf = q t; buffer = r t }

shelf-is : {cs ds : List Card} {text text' : List ℕ} → cs ≡ ds → text ≡ text' → ◌≡◌ {A = Shelf} (record { cards = cs; text = text }) (record { cards = ds; text = text' })
shelf-is e f = λ t. record { cards = e t; text = f t }

-- put and drop lend no room
no_room_lem : (r : Result Shelf) → [] ≡ kept 0 (told r)
unfolding told mapped kept padded
no_room_lem (good s) = refl
no_room_lem (bad n p) = refl

one_value_lem : (r : Result (List ℕ)) → saying one_value (counted r) ≡ saying size_value r
unfolding counted
one_value_lem (good s) = refl
one_value_lem (bad n p) = refl

-- the words that are left hold the cards that are left
in_words : (ws : List ℕ) {ws' text' : List ℕ} (s : Shelf) → length s.cards ≡ length (cards_of ws) → ws' ≡ words_with ws s.cards → text' ≡ s.text → shelf_of ws' text' ≡ s
unfolding shelf_of
in_words ws s k e f = shelf-is (ap cards_of e ∙ cards-with ws s.cards k) f

made : {c : Call} {s : Shelf} {o : Left} → Called c s o → o ≡ leaves c s
unfolding leaves shelf_of answer next
made (put-words ws text sheet l r a b d) =
    left_is (ap (saying no_value) a) (in_words ws (next (putting l sheet) (shelf_of ws text)) (put_keeps l sheet (shelf_of ws text)) b d) (no_room_lem (put_on l sheet (shelf_of ws text)))
made (get-words ws text out l r a b) = left_is (ap (saying one_value) a ∙ one_value_lem (answer (getting l (length out)) (shelf_of ws text))) refl b
made (drop-words ws text l r a b d) =
    left_is (ap (saying no_value) a) (in_words ws (next (dropping l) (shelf_of ws text)) (drop_keeps l (shelf_of ws text)) b d) (no_room_lem (drop_from l (shelf_of ws text)))
made (put cards text sheet l r a b d) = left_is (ap (saying no_value) a) (shelf-is b d) (no_room_lem (put_on l sheet (record { cards = cards; text = text })))
made (get cards text out l r a b) = left_is (ap (saying one_value) a ∙ one_value_lem (answer (getting l (length out)) (record { cards = cards; text = text }))) refl b
made (drop cards text l r a b d) = left_is (ap (saying no_value) a) (shelf-is b d) (no_room_lem (drop_from l (record { cards = cards; text = text })))

pub each-leaves : EachLeaves
each-leaves c s o k = made k

-- ---- demand 1

answered : (c : Call) (s : Shelf) (bytes : List ℕ) → answer c s ≡ good bytes → IsAnswer c s (leaves c s)
unfolding leaves kept next
answered (putting l sheet) s bytes e = ap (saying no_value) e
answered (getting l room) s bytes e = (bytes, ap (saying size_value) e, got_fits l room s e, ap (kept room) e, refl)
answered (dropping l) s bytes e = ap (saying no_value) e

refused : (c : Call) (s : Shelf) (n p : ℕ) → answer c s ≡ bad n p → IsRefusal c s (leaves c s)
unfolding leaves kept
refused c s n p e = (n, p, ap (saying (values c)) e, subst (Among (refusals c)) e (listed c s), refused-leaves c s e, ap (kept (room_of c)) e)

either : (c : Call) (s : Shelf) (r : Result (List ℕ)) → answer c s ≡ r → IsRefusal c s (leaves c s) ⊎ IsAnswer c s (leaves c s)
either c s (good bytes) e = inr (answered c s bytes e)
either c s (bad n p) e = inl (refused c s n p e)

pub demand1 : Demand1
demand1 c s = either c s (answer c s) refl

-- ---- runs

pub desks_apart : DesksApart
desks_apart = apart.desks_apart

number_is : (v : List ℕ → List ℕ) (r : Result (List ℕ)) → code_of r ≡ get_or (saying v r) 0 0
number_is v (good bytes) = refl
number_is v (bad n p) = refl

pub stays_whole : StaysWhole
unfolding leaves
stays_whole cards bytes run l =
    let s : Shelf = after_all run (fresh cards bytes) in
    let w : is_damaged (part_size s.text) s.cards ≡ false = apart.stays_whole cards bytes run l in
    (w, λ c e. whole-answer c s w (number_is (values c) (answer c s) ∙ e))

-- an answer of put
put-done : (r : Result Shelf) → Among put_refusals (told r) → saying no_value (told r) ≡ 0 ∷ 0 ∷ [] → told r ≡ good []
unfolding told mapped
put-done (good s) k e = refl
put-done (bad n p) k e = absurd (subst (λ (m : ℕ). T (is_allowed put_refusals m p)) (ap (λ (ws : List ℕ). get_or ws 0 1) e) k)

pub gets_back : GetsBack
unfolding leaves answer kept
gets_back cards bytes before after l sheet e n room k =
    let s : Shelf = after_all before (fresh cards bytes) in
    let h = apart.gets_back cards bytes before after l sheet (put-done (put_on l sheet s) (listed (putting l sheet) s) e) n in
    let g = got_whole l room (after_all (before ++ putting l sheet ∷ after) (fresh cards bytes)) h k in
    (ap (saying size_value) g, ap (kept room) g)
