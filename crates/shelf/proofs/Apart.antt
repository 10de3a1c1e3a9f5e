-- What a desk is answered depends on its own calls, and on which of them meet 28, alone (`desks-apart`). No run damages a fresh shelf (`stays-whole`). What was put and not dropped is
-- got back (`gets_back`).
-- Assumes nothing.
use mathlib.Core.Path.{◌≡◌, refl, sym, ◌∙◌, ap, ap₂}
use mathlib.Core.Bool.{Bool, true, false, cond}
use mathlib.Core.List.{List, [], ◌∷◌, ◌++◌, map}
use Prim.Native.Nat.{ℕ, ◌<◌, ◌≤◌}
use native.Mathlib.Decide.{ℕ_discrete, dec_le}
use native.Mathlib.Omega.{arith}
use lib.Dec.{ltb, eqb}
use lib.ListN.{length, get_or, length-replicate, get_or-replicate}
use borrow.Author.Tests.{eqb-true, eqb-false, ltb-false}
use Rattle.room.specs.Room.{Result, good, bad, fitting}
use Rattle.shelf.specs.Shelf.{Shelf, fresh_card, card_for, is_free, is_for, label_of, some, first, is_damaged, fresh, part_size, replaced, mapped, found, place, put_on, get_from, drop_from, after, told}
use Rattle.shelf.specs.Runs.{Call, putting, getting, dropping, desk_of, answer, next, after_all, calls_of, answers_to, is_full, NeverDrops}
use Rattle.shelf.specs.declared.Card.{Card}
use Rattle.shelf.specs.declared.Label.{Label}
use Rattle.shelf.proofs.Judging.{never, there, first-is, for_desk_is, for_call_is, for_boat_is, damaged_many}
use Rattle.shelf.proofs.Sound.{Sound, sound_whole, for_is, free_not_for, none-index, found-zero, found_here, found_nowhere, get-is, get_none, part_same, sound_then, view_zero, view_new, view_old, view_gone, tt-ff}

-- ---- the answers that a desk expects

-- what get would answer for each label
abbrev View : Type 0
View = Label → Result (List ℕ)

is_good : Result (List ℕ) → Bool
is_good (good s) = true
is_good (bad n p) = false

-- the view with another answer for one label
update : View → Label → Result (List ℕ) → View
update v l r m = cond (is_for m (card_for l 0)) r (v m)

-- the answer to a call, if it is known whether it meets 28
says : (part : ℕ) → View → Call → Bool → Result (List ℕ)
says part v (putting l sheet) b =
    cond (eqb l.call 0) (bad 27 0)
    (cond (is_good (v l)) (bad 29 0)
    (cond (ltb part (length sheet)) (bad 30 0)
    (cond b (bad 28 0)
    (good []))))
says part v (getting l room) b = fitting room (v l)
says part v (dropping l) b = mapped (λ _. []) (v l)

-- the view after it
turn : (part : ℕ) → View → Call → Bool → View
turn part v (putting l sheet) b = cond (is_good (says part v (putting l sheet) b)) (update v l (good sheet)) v
turn part v (getting l room) b = v
turn part v (dropping l) b = cond (is_good (v l)) (update v l (bad 27 0)) v

-- the answers to the desk's calls
expected : (part : ℕ) → View → List Call → List Bool → List (Result (List ℕ))
expected part v [] bs = []
expected part v (c ∷ cs) [] = []
expected part v (c ∷ cs) (b ∷ bs) = says part v c b ∷ expected part (turn part v c b) cs bs

-- ---- the ways of a call on a shelf that is not damaged

-- what a call leaves is sound, with parts of the same size, and is seen as this view
record Seen (part : ℕ) (v : View) (s : Shelf) : Type 0 where
  ok : Sound (part_size s.text) s.cards
  size : part_size s.text ≡ part
  view : (m : Label) → get_from m s ≡ v m

get-zero : (s : Shelf) → Sound (part_size s.text) s.cards → (m : Label) → m.call ≡ 0 → get_from m s ≡ bad 27 0
get-zero s ok m z = get_none m s (found-zero ok m z)

get-some : (s : Shelf) → Sound (part_size s.text) s.cards → (m : Label) → (m.call ≡ 0 → ⊥) → (b : Bool) → some (is_for m) s.cards ≡ b → is_good (get_from m s) ≡ b
unfolding is_good
get-some s ok m t true q = let k = there (is_for m) s.cards q in ap is_good (get-is m s (found_here ok m t _ k (first-is (is_for m) s.cards k)))
get-some s ok m t false q = ap is_good (get_none m s (found_nowhere ok m t q))

-- a label and another one's card
other-call : (l m : Label) (n : ℕ) → (l.call ≡ 0 → ⊥) → m.call ≡ 0 → is_for m (card_for l n) ≡ false
other-call l m n t z = by (is_for m (card_for l n)) refl
  where
    by : (b : Bool) → is_for m (card_for l n) ≡ b → is_for m (card_for l n) ≡ false
    by true q = absurd (t (for_call_is m (card_for l n) q ∙ z))
    by false q = q

pub other-desk : (l m : Label) (n : ℕ) → (l.desk ≡ m.desk → ⊥) → is_for m (card_for l n) ≡ false
other-desk l m n t = by (is_for m (card_for l n)) refl
  where
    by : (b : Bool) → is_for m (card_for l n) ≡ b → is_for m (card_for l n) ≡ false
    by true q = absurd (t (for_desk_is m (card_for l n) q))
    by false q = q

module _ (s : Shelf) (ok : Sound (part_size s.text) s.cards) (l : Label) (t : l.call ≡ 0 → ⊥) where
  -- a sheet put
  module _ (sheet : List ℕ) (n : some (is_for l) s.cards ≡ false) (g : length sheet ≤ part_size s.text) (f : some is_free s.cards ≡ true) where
    after-put : Shelf
    after-put = replaced s (first is_free s.cards) (card_for l (length sheet)) sheet

    new-card : is_free (card_for l (length sheet)) ≡ false → (k : ℕ) → k < length s.cards → (k ≡ first is_free s.cards → ⊥) → is_for
        (label_of (card_for l (length sheet))) (get_or s.cards k fresh_card) ≡ false
    new-card z k h e = none-index (is_for l) s.cards n k h

    put_view : (m : Label) → (b : Bool) → is_for m (card_for l 0) ≡ b → get_from m after-put ≡ cond b (good sheet) (get_from m s)
    unfolding after-put is_for
    put_view m b q = elim (ℕ_discrete m.call 0) [
      | yes z ↦ view_zero s ok (first is_free s.cards) (there is_free s.cards f) (card_for l (length sheet)) sheet refl g new-card m z ∙ sym
          (rw (sym q ∙ other-call l m 0 t z) (get-zero s ok m z))
      | no z ↦ by b q z
    ]
      where
        by : (b : Bool) → is_for m (card_for l 0) ≡ b → (m.call ≡ 0 → ⊥) → get_from m after-put ≡ cond b (good sheet) (get_from m s)
        by true q z = view_new s ok (first is_free s.cards) (there is_free s.cards f) (card_for l (length sheet)) sheet refl g new-card m z q
        by false q z = view_old s ok (first is_free s.cards) (there is_free s.cards f) (card_for l (length sheet)) sheet refl g new-card m z q
            (free_not_for m _ z (first-is is_free s.cards (there is_free s.cards f)))

    put-seen : Seen (part_size s.text) (update (λ m. get_from m s) l (good sheet)) after-put
    unfolding after-put update
    put-seen = record {
      ok = sound_then s ok (first is_free s.cards) (there is_free s.cards f) (card_for l (length sheet)) sheet refl g new-card;
      size = part_same s ok (first is_free s.cards) (there is_free s.cards f) (card_for l (length sheet)) sheet refl g new-card;
      view = λ m. put_view m (is_for m (card_for l 0)) refl;
    }

  -- a sheet dropped
  module _ (i : ℕ) (h : i < length s.cards) (e : is_for l (get_or s.cards i fresh_card) ≡ true) where
    after-drop : Shelf
    after-drop = replaced s i fresh_card []

    no-card : is_free fresh_card ≡ false → (k : ℕ) → k < length s.cards → (k ≡ i → ⊥) → is_for (label_of fresh_card) (get_or s.cards k fresh_card) ≡ false
    unfolding is_free
    no-card z k m n = tt-ff refl z

    fresh-free : is_free fresh_card ≡ true
    unfolding is_free
    fresh-free = refl

    -- the card is for m where m is the label that is dropped
    for_too : (m : Label) (b : Bool) → is_for m (card_for l 0) ≡ b → is_for m (get_or s.cards i fresh_card) ≡ b
    unfolding is_for
    for_too m b q =
        let c : Card = get_or s.cards i fresh_card in
        rw (for_desk_is l c e, for_call_is l c e, for_boat_is l c e) q

    drop-view : (m : Label) → (b : Bool) → is_for m (card_for l 0) ≡ b → get_from m after-drop ≡ cond b (bad 27 0) (get_from m s)
    unfolding after-drop
    drop-view m b q = elim (ℕ_discrete m.call 0) [
      | yes z ↦ view_zero s ok i h fresh_card [] refl (omega arith) no-card m z ∙ sym (rw (sym q ∙ other-call l m 0 t z) (get-zero s ok m z))
      | no z ↦ by b q z
    ]
      where
        by : (b : Bool) → is_for m (card_for l 0) ≡ b → (m.call ≡ 0 → ⊥) → get_from m after-drop ≡ cond b (bad 27 0) (get_from m s)
        by true q z = view_gone s ok i h fresh_card [] refl (omega arith) no-card m z (free_not_for m fresh_card z fresh-free) (for_too m true q)
        by false q z = view_old s ok i h fresh_card [] refl (omega arith) no-card m z (free_not_for m fresh_card z fresh-free) (for_too m false q)

    drop-seen : Seen (part_size s.text) (update (λ m. get_from m s) l (bad 27 0)) after-drop
    unfolding after-drop update
    drop-seen = record {
      ok = sound_then s ok i h fresh_card [] refl (omega arith) no-card;
      size = part_same s ok i h fresh_card [] refl (omega arith) no-card;
      view = λ m. drop-view m (is_for m (card_for l 0)) refl;
    }

-- ---- one call

-- a call's answer is the one expected, and what it leaves is seen as expected; b says whether it meets 28
record Step (part : ℕ) (v : View) (c : Call) (s : Shelf) : Type 0 where
  told-so : answer c s ≡ says part v c (is_full (answer c s))
  seen : Seen part (turn part v c (is_full (answer c s))) (next c s)

-- the same, from the answer and the shelf that is left
step : {part : ℕ} {v : View} {c : Call} {s : Shelf} (r : Result (List ℕ)) → answer c s ≡ r → r ≡ says part v c (is_full r) → Seen part
    (turn part v c (is_full r)) (next c s) → Step part v c s
step r e k z = record { told-so = rw e k; seen = rw e z }

self : (s : Shelf) → Sound (part_size s.text) s.cards → Seen (part_size s.text) (λ m. get_from m s) s
self s ok = record { ok = ok; size = refl; view = λ m. refl }

module _ (s : Shelf) (ok : Sound (part_size s.text) s.cards) where
  module _ (l : Label) (sheet : List ℕ) where
    put_step : (b c g f : Bool) → eqb l.call 0 ≡ b → some (is_for l) s.cards ≡ c → ltb (part_size s.text) (length sheet) ≡ g → some is_free s.cards ≡ f
        → Step (part_size s.text) (λ m. get_from m s) (putting l sheet) s
    unfolding answer next put_on place mapped told after says turn is_good is_full after-put
    put_step true c g f z n m h =
        step (bad 27 0) (simp (sound_whole ok, z)) (simp z) (simp (sound_whole ok, z) (self s ok))
    put_step false true g f z n m h =
        let k : is_good (get_from l s) ≡ true = get-some s ok l (eqb-false _ _ z) true n in
        step (bad 29 0) (simp (sound_whole ok, z, n)) (simp (z, k)) (simp (sound_whole ok, z, n, k) (self s ok))
    put_step false false true f z n m h =
        let k : is_good (get_from l s) ≡ false = get-some s ok l (eqb-false _ _ z) false n in
        step (bad 30 0) (simp (sound_whole ok, z, n, m)) (simp (z, k, m)) (simp (sound_whole ok, z, n, m, k) (self s ok))
    put_step false false false false z n m h =
        let k : is_good (get_from l s) ≡ false = get-some s ok l (eqb-false _ _ z) false n in
        step (bad 28 0) (simp (sound_whole ok, z, n, m, h)) (simp (z, k, m)) (simp (sound_whole ok, z, n, m, h, k) (self s ok))
    put_step false false false true z n m h =
        let k : is_good (get_from l s) ≡ false = get-some s ok l (eqb-false _ _ z) false n in
        step (good []) (simp (sound_whole ok, z, n, m, h)) (simp (z, k, m)) (simp (sound_whole ok, z, n, m, h, k) (put-seen s ok l (eqb-false _ _ z) sheet n (ltb-false _ _ m) h))

  module _ (l : Label) where
    drop-none : (n : found l (part_size s.text) s.cards ≡ bad 27 0) → Step (part_size s.text) (λ m. get_from m s) (dropping l) s
    unfolding answer next drop_from mapped told after says turn is_good is_full
    drop-none n = let w = get_none l s n in step (bad 27 0) (simp n) (simp w) (simp (n, w) (self s ok))

    drop-step : (b c : Bool) → eqb l.call 0 ≡ b → some (is_for l) s.cards ≡ c → Step (part_size s.text) (λ m. get_from m s) (dropping l) s
    unfolding answer next drop_from mapped told after says turn is_good is_full after-drop
    drop-step true c z n = drop-none (found-zero ok l (eqb-true _ _ z))
    drop-step false false z n = drop-none (found_nowhere ok l (eqb-false _ _ z) n)
    drop-step false true z n =
        let k = there (is_for l) s.cards n in let e = first-is (is_for l) s.cards k in
        let f = found_here ok l (eqb-false _ _ z) (first (is_for l) s.cards) k e in
        let w = get-is l s f in
        step (good []) (simp f) (simp w) (simp (f, w) (drop-seen s ok l (eqb-false _ _ z) (first (is_for l) s.cards) k e))

  get-step : (l : Label) (room : ℕ) → Step (part_size s.text) (λ m. get_from m s) (getting l room) s
  unfolding answer next says turn
  get-step l room = step (fitting room (get_from l s)) refl refl (self s ok)

  any_step : (c : Call) → Step (part_size s.text) (λ m. get_from m s) c s
  any_step (putting l sheet) = put_step l sheet _ _ _ _ refl refl refl refl
  any_step (getting l room) = get-step l room
  any_step (dropping l) = drop-step l _ _ refl refl

-- ---- one desk's view

abbrev label_in : Call → Label
label_in (putting l sheet) = l
label_in (getting l room) = l
label_in (dropping l) = l

says-alike : (part : ℕ) (v w : View) (c : Call) (b : Bool) → v (label_in c) ≡ w (label_in c) → says part v c b ≡ says part w c b
unfolding says
says-alike part v w (putting l sheet) b e = rw e
says-alike part v w (getting l room) b e = rw e
says-alike part v w (dropping l) b e = rw e

choose_alike : (x : Bool) (v w : View) (l m : Label) (r : Result (List ℕ)) → v m ≡ w m → cond x (update v l r) v m ≡ cond x (update w l r) w m
unfolding update
choose_alike true v w l m r e = rw e
choose_alike false v w l m r e = e

turn_alike : (part : ℕ) (v w : View) (c : Call) (b : Bool) (m : Label) → v (label_in c) ≡ w (label_in c) → v m ≡ w m → turn part v c b m ≡ turn part w c b m
unfolding turn
turn_alike part v w (putting l sheet) b m e h = rw (says-alike part v w (putting l sheet) b e) (choose_alike (is_good (says part w (putting l sheet) b)) v w l m (good sheet) h)
turn_alike part v w (getting l room) b m e h = h
turn_alike part v w (dropping l) b m e h = rw e (choose_alike (is_good (w l)) v w l m (bad 27 0) h)

choose_other : (x : Bool) (w : View) (l m : Label) (r : Result (List ℕ)) → is_for m (card_for l 0) ≡ false → cond x (update w l r) w m ≡ w m
unfolding update
choose_other true w l m r n = rw n
choose_other false w l m r n = refl

-- the view of a desk is not changed by another one
turn_other : (part : ℕ) (w : View) (c : Call) (b : Bool) (m : Label) → (desk_of c ≡ m.desk → ⊥) → turn part w c b m ≡ w m
unfolding turn
turn_other part w (putting l sheet) b m n = choose_other (is_good (says part w (putting l sheet) b)) w l m (good sheet) (other-desk l m 0 n)
turn_other part w (getting l room) b m n = refl
turn_other part w (dropping l) b m n = choose_other (is_good (w l)) w l m (bad 27 0) (other-desk l m 0 n)

desk-in : (c : Call) → (label_in c).desk ≡ desk_of c
desk-in (putting l sheet) = refl
desk-in (getting l room) = refl
desk-in (dropping l) = refl

-- the desk sees the shelf as this view
record Agrees (desk part : ℕ) (v : View) (s : Shelf) : Type 0 where
  ok : Sound (part_size s.text) s.cards
  size : part_size s.text ≡ part
  view : (m : Label) → m.desk ≡ desk → get_from m s ≡ v m

module _ {desk part : ℕ} {v : View} {s : Shelf} (a : Agrees desk part v s) (c : Call) where
  own-answer : desk_of c ≡ desk → answer c s ≡ says part v c (is_full (answer c s))
  own-answer d =
      (any_step s a.ok c).told-so
      ∙ ap (λ (p : ℕ). says p (λ m. get_from m s) c (is_full (answer c s))) a.size
      ∙ says-alike part (λ m. get_from m s) v c (is_full (answer c s)) (a.view (label_in c) (desk-in c ∙ d))

  own-next : desk_of c ≡ desk → Agrees desk part (turn part v c (is_full (answer c s))) (next c s)
  own-next d =
      let z = (any_step s a.ok c).seen in
      record {
        ok = z.ok;
        size = z.size ∙ a.size;
        view = λ m e.
            z.view m
            ∙ ap (λ (p : ℕ). turn p (λ x. get_from x s) c (is_full (answer c s)) m) a.size
            ∙ turn_alike part (λ x. get_from x s) v c (is_full (answer c s)) m (a.view (label_in c) (desk-in c ∙ d)) (a.view m e);
      }

  other-next : (desk_of c ≡ desk → ⊥) → Agrees desk part v (next c s)
  other-next n =
      let z = (any_step s a.ok c).seen in
      record {
        ok = z.ok;
        size = z.size ∙ a.size;
        view = λ m e. z.view m ∙ turn_other (part_size s.text) (λ x. get_from x s) c (is_full (answer c s)) m (λ (q : desk_of c ≡ m.desk). n (q ∙ e)) ∙ a.view m e;
      }

-- ---- a run

answers-expected : (desk part : ℕ) (run : List Call) (v : View) (s : Shelf) → Agrees desk part v s
    → answers_to desk run s ≡ expected part v (calls_of desk run) (map is_full (answers_to desk run s))
unfolding answers_to calls_of expected
answers-expected desk part [] v s a = refl
answers-expected desk part (c ∷ run) v s a = by (eqb (desk_of c) desk) refl
    (λ d. answers-expected desk part run _ (next c s) (own-next a c d)) (λ n. answers-expected desk part run v (next c s) (other-next a c n))
  where
    by : (b : Bool) → eqb (desk_of c) desk ≡ b
        → (desk_of c ≡ desk → answers_to desk run (next c s) ≡ expected part (turn part v c (is_full (answer c s))) (calls_of desk run) (map is_full (answers_to desk run (next c s))))
        → ((desk_of c ≡ desk → ⊥) → answers_to desk run (next c s) ≡ expected part v (calls_of desk run) (map is_full (answers_to desk run (next c s))))
        → cond b (answer c s ∷ answers_to desk run (next c s)) (answers_to desk run (next c s))
        ≡ expected part v (cond b (c ∷ calls_of desk run) (calls_of desk run)) (map is_full (cond b (answer c s ∷ answers_to desk run (next c s)) (answers_to desk run (next c s))))
    by true q h g = ap₂ (λ (x : Result (List ℕ)) (y : List (Result (List ℕ))). x ∷ y) (own-answer a c (eqb-true _ _ q)) (h (eqb-true _ _ q))
    by false q h g = g (eqb-false _ _ q)

-- ---- a shelf of too many cards

refuses : (part : ℕ) (cs : List Card) → 16 < length cs → is_damaged part cs ≡ true
refuses part cs l = sym (damaged_many part cs l)

module _ (s : Shelf) (l : 16 < length s.cards) where
  pub all-refused : (c : Call) → answer c s ≡ bad 39 0
  unfolding answer put_on get_from drop_from place found mapped told fitting
  all-refused (putting m sheet) = simp (refuses (part_size s.text) s.cards l)
  all-refused (getting m room) = simp (refuses (part_size s.text) s.cards l)
  all-refused (dropping m) = simp (refuses (part_size s.text) s.cards l)

  pub all_left : (c : Call) → next c s ≡ s
  unfolding next put_on drop_from place found mapped after
  all_left (putting m sheet) = simp (refuses (part_size s.text) s.cards l)
  all_left (getting m room) = refl
  all_left (dropping m) = simp (refuses (part_size s.text) s.cards l)

  many-answers : (desk : ℕ) (run : List Call) → answers_to desk run s ≡ map (λ _. bad 39 0) (calls_of desk run)
  unfolding answers_to calls_of
  many-answers desk [] = refl
  many-answers desk (c ∷ run) = by (eqb (desk_of c) desk) (rw (all_left c) (many-answers desk run))
    where
      by : (b : Bool) → answers_to desk run (next c s) ≡ map (λ _. bad 39 0) (calls_of desk run)
          → cond b (answer c s ∷ answers_to desk run (next c s)) (answers_to desk run (next c s)) ≡ map (λ _. bad 39 0) (cond b (c ∷ calls_of desk run) (calls_of desk run))
      by true h = ap₂ (λ (x : Result (List ℕ)) (y : List (Result (List ℕ))). x ∷ y) (all-refused c) h
      by false h = h

-- ---- from a fresh shelf

fresh-sound : (cards bytes : ℕ) → cards ≤ 16 → Sound (part_size (fresh cards bytes).text) (fresh cards bytes).cards
unfolding fresh is_free
fresh-sound cards bytes l = record {
  most = rw length-replicate l;
  faultless = record {
    short = λ i m t. tt-ff (ap is_free (get_or-replicate cards i fresh_card fresh_card (rw length-replicate at m))) t;
    apart = λ i j m n t e. tt-ff (ap is_free (get_or-replicate cards i fresh_card fresh_card (rw length-replicate at m))) t;
  };
}

many : (cards bytes : ℕ) → 16 < cards → 16 < length (fresh cards bytes).cards
unfolding fresh
many cards bytes l = rw length-replicate l

pub desks_apart : (desk cards bytes : ℕ) (run run' : List Call) → calls_of desk run ≡ calls_of desk run'
    → map is_full (answers_to desk run (fresh cards bytes)) ≡ map is_full (answers_to desk run' (fresh cards bytes))
    → answers_to desk run (fresh cards bytes) ≡ answers_to desk run' (fresh cards bytes)
desks_apart desk cards bytes run run' e f = elim (dec_le cards 16) [
  | yes l ↦
      let s : Shelf = fresh cards bytes in
      let a : Agrees desk (part_size s.text) (λ m. get_from m s) s = record { ok = fresh-sound cards bytes l; size = refl; view = λ m d. refl } in
      answers-expected desk _ run _ s a
      ∙ ap₂ (expected (part_size s.text) (λ m. get_from m s)) e f
      ∙ sym (answers-expected desk _ run' _ s a)
  | no l ↦
      let s : Shelf = fresh cards bytes in
      let m : 16 < length (fresh cards bytes).cards = many cards bytes (omega arith) in
      many-answers s m desk run ∙ ap (map (λ _. bad 39 0)) e ∙ sym (many-answers s m desk run')
]

runs-sound : (run : List Call) (s : Shelf) → Sound (part_size s.text) s.cards → Sound (part_size (after_all run s).text) (after_all run s).cards
unfolding after_all
runs-sound [] s ok = ok
runs-sound (c ∷ run) s ok = runs-sound run (next c s) (any_step s ok c).seen.ok

pub stays_whole : (cards bytes : ℕ) (run : List Call) → cards ≤ 16
    → is_damaged (part_size (after_all run (fresh cards bytes)).text) (after_all run (fresh cards bytes)).cards ≡ false
stays_whole cards bytes run l = sound_whole (runs-sound run (fresh cards bytes) (fresh-sound cards bytes l))

-- ---- what was put

label_is : (l m : Label) → is_for l (card_for m 0) ≡ true → m ≡ l
label_is l m e = λ t. record { desk = for_desk_is l (card_for m 0) e t; call = for_call_is l (card_for m 0) e t; boat = for_boat_is l (card_for m 0) e t }

-- a view that has a sheet for l has it after every call but the drop of l
module _ (part : ℕ) (v : View) (b : Bool) (l : Label) {sheet : List ℕ} (h : v l ≡ good sheet) where
  -- l itself is not put again
  twice : (new : List ℕ) → is_good (says part v (putting l new) b) ≡ false
  unfolding says is_good
  twice new = by (eqb l.call 0)
    where
      by : (z : Bool) → is_good (cond z (bad 27 0) (cond (is_good (v l)) (bad 29 0) (cond (ltb part (length new)) (bad 30 0) (cond b (bad 28 0) (good []))))) ≡ false
      by true = refl
      by false = rw h refl

  put-keeps_view : (m : Label) (new : List ℕ) (x : Bool) → is_for l (card_for m 0) ≡ x → turn part v (putting m new) b l ≡ good sheet
  unfolding turn
  put-keeps_view m new true e = rw (label_is l m e, twice new) h
  put-keeps_view m new false e = choose_other (is_good (says part v (putting m new) b)) v m l (good new) e ∙ h

  drop-keeps_view : (m : Label) → (m ≡ l → ⊥) → (x : Bool) → is_for l (card_for m 0) ≡ x → turn part v (dropping m) b l ≡ good sheet
  unfolding turn
  drop-keeps_view m n true e = absurd (n (label_is l m e))
  drop-keeps_view m n false e = choose_other (is_good (v m)) v m l (bad 27 0) e ∙ h

  keeps_view : (c : Call) → (c ≡ dropping l → ⊥) → turn part v c b l ≡ good sheet
  unfolding turn
  keeps_view (putting m new) n = put-keeps_view m new (is_for l (card_for m 0)) refl
  keeps_view (getting m room) n = h
  keeps_view (dropping m) n = drop-keeps_view m (λ (e : m ≡ l). n (ap dropping e)) (is_for l (card_for m 0)) refl

-- a run that does not drop l leaves its sheet
run-keeps : (run : List Call) (s : Shelf) → Sound (part_size s.text) s.cards → (l : Label) {sheet : List ℕ} → NeverDrops l run →
    get_from l s ≡ good sheet → get_from l (after_all run s) ≡ good sheet
unfolding after_all
run-keeps [] s ok l n h = h
run-keeps (c ∷ run) s ok l n h =
    let z = (any_step s ok c).seen in
    run-keeps run (next c s) z.ok l
    (λ before after e. n (c ∷ before) after (ap (λ (cs : List Call). c ∷ cs) e))
    (z.view l ∙ keeps_view (part_size s.text) (λ m. get_from m s) (is_full (answer c s)) l h c (λ (e : c ≡ dropping l). n [] run (ap (λ (x : Call). x ∷ run) e)))

-- a put that is answered
put-there : (s : Shelf) → Sound (part_size s.text) s.cards → (l : Label) (sheet : List ℕ) → answer (putting l sheet) s ≡ good [] →
    get_from l (next (putting l sheet) s) ≡ good sheet
unfolding turn update is_good
put-there s ok l sheet e =
    let z = any_step s ok (putting l sheet) in
    let g : is_good (says (part_size s.text) (λ m. get_from m s) (putting l sheet) (is_full (answer (putting l sheet) s))) ≡ true = sym (ap is_good z.told-so) ∙ ap is_good e in
    z.seen.view l ∙ rw (g, for_is l (card_for l 0) refl refl refl) refl

run_on : (before run : List Call) (s : Shelf) → after_all (before ++ run) s ≡ after_all run (after_all before s)
unfolding after_all
run_on [] run s = refl
run_on (c ∷ before) run s = run_on before run (next c s)

many-left : (s : Shelf) → 16 < length s.cards → (run : List Call) → after_all run s ≡ s
unfolding after_all
many-left s l [] = refl
many-left s l (c ∷ run) = rw (all_left s l c) (many-left s l run)

pub gets_back : (cards bytes : ℕ) (before after : List Call) (l : Label) (sheet : List ℕ)
    → answer (putting l sheet) (after_all before (fresh cards bytes)) ≡ good [] → NeverDrops l after
    → get_from l (after_all (before ++ putting l sheet ∷ after) (fresh cards bytes)) ≡ good sheet
unfolding after_all
gets_back cards bytes before after l sheet e n = elim (dec_le cards 16) [
  | yes k ↦
      let s : Shelf = after_all before (fresh cards bytes) in
      let ok : Sound (part_size s.text) s.cards = runs-sound before (fresh cards bytes) (fresh-sound cards bytes k) in
      ap (get_from l) (run_on before (putting l sheet ∷ after) (fresh cards bytes))
      ∙ run-keeps after (next (putting l sheet) s) (any_step s ok (putting l sheet)).seen.ok l n (put-there s ok l sheet e)
  | no k ↦
      let m : 16 < length (fresh cards bytes).cards = many cards bytes (omega arith) in
      never (sym (all-refused (fresh cards bytes) m (putting l sheet)) ∙ ap (answer (putting l sheet)) (sym (many-left (fresh cards bytes) m before)) ∙ e)
]
