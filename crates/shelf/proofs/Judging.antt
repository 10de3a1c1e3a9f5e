-- How a call is judged: the ways to each refusal and to a card, and what is known of the card.
-- Assumes nothing.
use mathlib.Core.Path.{◌≡◌, refl, sym, ◌∙◌, ap}
use mathlib.Core.Bool.{Bool, true, false, cond, not, ◌&&◌, ◌||◌}
use mathlib.Core.List.{List, [], ◌∷◌}
use Prim.Native.Nat.{ℕ, zero, suc, ◌+◌, ◌<◌, ◌≤◌}
use native.Mathlib.Nat.{zero-add, not-suc-le-zero}
use native.Mathlib.Omega.{arith}
use lib.Dec.{ltb, eqb}
use lib.ListN.{length, get_or}
use borrow.Author.Tests.{lt-ltb, le-ltb, eq-eqb, ne_eqb, eqb-true, eqb-false, ltb-false, ltb-true}
use Rattle.room.specs.Room.{good, bad}
use Rattle.shelf.specs.Shelf.{fresh_card, is_free, is_for, label_of, some, first, faulty, is_damaged, found, place}
use Rattle.shelf.specs.declared.Card.{Card}
use Rattle.shelf.specs.declared.Label.{Label}
use Rattle.shelf.proofs.Search.{some_first}

pub never : {A : Type 0} {a : A} {n p : ℕ} {B : Type 0} → bad n p ≡ good a → B
never {A} {a} {n} {p} e = let z : ◌≡◌ {A = ℕ} 0 1 = cc in absurd (omega arith)

-- ---- damage

pub damaged_many : (part : ℕ) (cs : List Card) → 16 < length cs → true ≡ is_damaged part cs
unfolding is_damaged
damaged_many part cs l = sym (simp (lt-ltb _ _ l))

pub damaged_few : (part : ℕ) (cs : List Card) {b : Bool} → length cs ≤ 16 → b ≡ faulty part cs → b ≡ is_damaged part cs
unfolding is_damaged
damaged_few part cs l e = e ∙ sym (simp (le-ltb _ _ l))

or_left : (a b : Bool) → (a || b) ≡ false → a ≡ false
or_left true b e = e
or_left false b e = refl

or_right : (a b : Bool) → (a || b) ≡ false → b ≡ false
or_right true b e = let z : true ≡ false = e in cc
or_right false b e = e

pub few : (part : ℕ) (cs : List Card) → is_damaged part cs ≡ false → length cs ≤ 16
unfolding is_damaged
few part cs e = ltb-false 16 (length cs) (or_left _ _ e)

pub faultless : (part : ℕ) (cs : List Card) → is_damaged part cs ≡ false → faulty part cs ≡ false
unfolding is_damaged
faultless part cs e = or_right (ltb 16 (length cs)) _ e

-- the sheet of a taken card is no longer than a part
pub short : (part : ℕ) (cs : List Card) (i : ℕ) → faulty part cs ≡ false → i < length cs → is_free (get_or cs i fresh_card) ≡ false → (get_or cs i fresh_card).length ≤ part
unfolding faulty
short part [] i e l t = absurd (not-suc-le-zero l)
short part (c ∷ cs) zero e l t =
    ltb-false part c.length (or_left _ (some (is_for (label_of c)) cs)
    (simp t at (or_left (not (is_free c) && (ltb part c.length || some (is_for (label_of c)) cs)) (faulty part cs) e)))
short part (c ∷ cs) (suc i) e l t = short part cs i (or_right (not (is_free c) && (ltb part c.length || some (is_for (label_of c)) cs)) (faulty part cs) e) (omega arith) t

-- ---- looking for a card

pub some-there : (p : Card → Bool) (cs : List Card) {i : ℕ} → i ≡ first p cs → i < length cs → some p cs ≡ true
some-there p cs e l = some_first p cs ∙ lt-ltb (first p cs) (length cs) (omega arith)

pub some-not : (p : Card → Bool) (cs : List Card) {i : ℕ} → i ≡ first p cs → length cs ≤ i → some p cs ≡ false
some-not p cs e l = some_first p cs ∙ le-ltb (first p cs) (length cs) (omega arith)

pub there : (p : Card → Bool) (cs : List Card) → some p cs ≡ true → first p cs < length cs
there p cs e = ltb-true _ _ (sym (some_first p cs) ∙ e)

first_step : (p : Card → Bool) (c : Card) (cs : List Card) (b : Bool) → p c ≡ b → (first p cs < length cs → p (get_or cs (first p cs) fresh_card) ≡ true)
    → cond b 0 (suc (first p cs)) < suc (length cs) → p (get_or (c ∷ cs) (cond b 0 (suc (first p cs))) fresh_card) ≡ true
first_step p c cs true e h l = e
first_step p c cs false e h l = h (omega arith)

-- the first card of which a test holds
pub first-is : (p : Card → Bool) (cs : List Card) → first p cs < length cs → p (get_or cs (first p cs) fresh_card) ≡ true
unfolding first
first-is p [] l = absurd (not-suc-le-zero l)
first-is p (c ∷ cs) l = first_step p c cs (p c) refl (first-is p cs) l

and_left : (a b : Bool) → (a && b) ≡ true → a ≡ true
and_left true b e = refl
and_left false b e = e

and_right : (a b : Bool) → (a && b) ≡ true → b ≡ true
and_right true b e = e
and_right false b e = let z : false ≡ true = e in cc

module _ (l : Label) (c : Card) (e : is_for l c ≡ true) where
  pub for_desk_is : c.desk ≡ l.desk
  unfolding is_for
  for_desk_is = eqb-true _ _ (and_left _ (eqb c.call l.call && eqb c.boat l.boat) e)

  pub for_call_is : c.call ≡ l.call
  unfolding is_for
  for_call_is = eqb-true _ _ (and_left _ (eqb c.boat l.boat) (and_right (eqb c.desk l.desk) _ e))

  pub for_boat_is : c.boat ≡ l.boat
  unfolding is_for
  for_boat_is = eqb-true _ _ (and_right (eqb c.call l.call) _ (and_right (eqb c.desk l.desk) _ e))

-- ---- the ways to each answer

module _ (l : Label) (part : ℕ) (cs : List Card) where
  pub found-damaged : is_damaged part cs ≡ true → bad 39 0 ≡ found l part cs
  unfolding found
  found-damaged d = sym (simp d)

  pub place-damaged : (size : ℕ) → is_damaged part cs ≡ true → bad 39 0 ≡ place l size part cs
  unfolding place
  place-damaged size d = sym (simp d)

  module _ (d : is_damaged part cs ≡ false) where
    pub found-zero : l.call ≡ 0 → bad 27 0 ≡ found l part cs
    unfolding found
    found-zero z = sym (simp (d, eq-eqb _ _ z))

    pub place-zero : (size : ℕ) → l.call ≡ 0 → bad 27 0 ≡ place l size part cs
    unfolding place
    place-zero size z = sym (simp (d, eq-eqb _ _ z))

    module _ (t : l.call ≡ 0 → ⊥) where
      pub found_at : {i : ℕ} → i ≡ 0 + first (is_for l) cs → i < length cs → good i ≡ found l part cs
      unfolding found
      found_at {i} e h = let f : i ≡ first (is_for l) cs = e ∙ zero-add _ in sym (simp (d, ne_eqb _ _ t, some-there _ cs f h) (ap good (sym f)))

      pub found_none : {i : ℕ} → i ≡ 0 + first (is_for l) cs → length cs ≤ i → bad 27 0 ≡ found l part cs
      unfolding found
      found_none e h = sym (simp (d, ne_eqb _ _ t, some-not _ cs (e ∙ zero-add _) h))

      module _ (size : ℕ) where
        pub place-there : {i : ℕ} → i ≡ 0 + first (is_for l) cs → i < length cs → bad 29 0 ≡ place l size part cs
        unfolding place
        place-there e h = sym (simp (d, ne_eqb _ _ t, some-there _ cs (e ∙ zero-add _) h))

        module _ {i : ℕ} (e : i ≡ 0 + first (is_for l) cs) (h : length cs ≤ i) where
          pub place-long : part < size → bad 30 0 ≡ place l size part cs
          unfolding place
          place-long g = sym (simp (d, ne_eqb _ _ t, some-not _ cs (e ∙ zero-add _) h, lt-ltb _ _ g))

          pub place_at : size ≤ part → {k : ℕ} → k ≡ first is_free cs → k < length cs → good k ≡ place l size part cs
          unfolding place
          place_at g f m = sym (simp (d, ne_eqb _ _ t, some-not _ cs (e ∙ zero-add _) h, le-ltb _ _ g, some-there _ cs f m) (ap good (sym f)))

          pub place-full : size ≤ part → {k : ℕ} → k ≡ first is_free cs → length cs ≤ k → bad 28 0 ≡ place l size part cs
          unfolding place
          place-full g f m = sym (simp (d, ne_eqb _ _ t, some-not _ cs (e ∙ zero-add _) h, le-ltb _ _ g, some-not _ cs f m))

-- ---- what is known of the card

pub record Found (l : Label) (part : ℕ) (cs : List Card) (i : ℕ) : Type 0 where
  pub whole : is_damaged part cs ≡ false
  pub named : l.call ≡ 0 → ⊥
  pub is : i ≡ first (is_for l) cs
  pub within : i < length cs

pub record Place (l : Label) (size part : ℕ) (cs : List Card) (i : ℕ) : Type 0 where
  pub whole : is_damaged part cs ≡ false
  pub named : l.call ≡ 0 → ⊥
  pub new : some (is_for l) cs ≡ false
  pub fits : size ≤ part
  pub is : i ≡ first is_free cs
  pub within : i < length cs

module _ (l : Label) (part : ℕ) (cs : List Card) (i : ℕ) where
  found-by : (a b c : Bool) → is_damaged part cs ≡ a → eqb l.call 0 ≡ b → some (is_for l) cs ≡ c
      → cond a (bad 39 0) (cond b (bad 27 0) (cond c (good (first (is_for l) cs)) (bad 27 0))) ≡ good i → Found l part cs i
  found-by true b c d z s e = never e
  found-by false true c d z s e = never e
  found-by false false false d z s e = never e
  found-by false false true d z s e = let f : i ≡ first (is_for l) cs = cc in record { whole = d; named = eqb-false _ _ z; is = f; within = rw f (there _ cs s) }

  pub found-was : found l part cs ≡ good i → Found l part cs i
  unfolding found
  found-was e = found-by (is_damaged part cs) (eqb l.call 0) (some (is_for l) cs) refl refl refl e

  place-by : (size : ℕ) (a b c g f : Bool) → is_damaged part cs ≡ a → eqb l.call 0 ≡ b → some (is_for l) cs ≡ c → ltb part size ≡ g → some is_free cs ≡ f
      → cond a (bad 39 0) (cond b (bad 27 0) (cond c (bad 29 0) (cond g (bad 30 0) (cond f (good (first is_free cs)) (bad 28 0))))) ≡ good i → Place l size part cs i
  place-by size true b c g f d z s m r e = never e
  place-by size false true c g f d z s m r e = never e
  place-by size false false true g f d z s m r e = never e
  place-by size false false false true f d z s m r e = never e
  place-by size false false false false false d z s m r e = never e
  place-by size false false false false true d z s m r e =
      let k : i ≡ first is_free cs = cc in
      record { whole = d; named = eqb-false _ _ z; new = s; fits = ltb-false _ _ m; is = k; within = rw k (there _ cs r) }

  pub place-was : (size : ℕ) → place l size part cs ≡ good i → Place l size part cs i
  unfolding place
  place-was size e = place-by size (is_damaged part cs) (eqb l.call 0) (some (is_for l) cs) (ltb part size) (some is_free cs) refl refl refl refl refl e

  -- its sheet is no longer than a part
  pub found-short : Found l part cs i → (get_or cs i fresh_card).length ≤ part
  unfolding is_free
  found-short f =
      let w : first (is_for l) cs < length cs = let s = f.is in let t = f.within in omega arith in
      let b : is_for l (get_or cs i fresh_card) ≡ true = rw f.is (first-is _ cs w) in
      let n = f.named in let k = for_call_is l (get_or cs i fresh_card) b in
      short part cs i (faultless part cs f.whole) f.within (ne_eqb _ _ (λ (z : (get_or cs i fresh_card).call ≡ 0). n (sym k ∙ z)))
