-- From places to pieces: what `piece_end` finds is the next piece of the definition.
-- Assumes nothing.
use mathlib.Core.Path.{◌≡◌, refl, sym, ap, ap₂, ◌∙◌, subst}
use mathlib.Core.Bool.{Bool, true, false, cond}
use mathlib.Core.List.{List, [], ◌∷◌, ◌++◌, head-eq_of_cons-eq, tail-eq_of_cons-eq}
use Rattle.std.proofs.Common.{Option, Some, None, Result, Ok, Err, IsErrAnd}
use Rattle.std.specs.Option.{ok_or}
use Rattle.std.proofs.lemmas.Result.{err_from_is_err_and}
use Prim.Native.Nat.{ℕ, ◌+◌, ◌≤◌, ◌<◌}
use native.Mathlib.Omega.{arith}
use lib.Dec.{eqb}
use lib.ListN.{length, take, drop, length-append, length-drop}
use lib.Seq.{slice, take-add, drop_at, take_at, drop-drop, length-take-le}
use lib.ListN.{drop_of_length-le}
use Rattle.cursor.specs.Refusals.{bad_sheet}
use Rattle.room.specs.Room.{good, bad}
use Rattle.editions.specs.declared.State.{State}
use Rattle.editions.specs.Sheets.{Lines, parted, on_first, lead, same, kind, stands, after, judge}
use Rattle.editions.proofs.Bytes.{some-piece, split}

-- what a call answered, where its contract is a relation and the answer is known
pub as_told : {E : Type 0} (P : E → Type 0) {r r' : E} → P r → r ≡ r' → P r'
as_told P h e = subst P e h

pub absent : {A : Type 0} {o : Option A} → ((a : A) → o ≡ Some a → ⊥) → o ≡ None
absent {o = None} h = refl
absent {o = Some a} h = absurd (h a refl)

-- what `ok_or` was given, by what it answers
pub was_some : {A E : Type 0} (o : Option A) (e : E) {q : Result A E} {a : A} → q ≡ ok_or o e → q ≡ Ok a → o ≡ Some a
was_some None e k h = cc
was_some (Some y) e k h = cc

pub was_none : {A E : Type 0} (o : Option A) (e : E) {q : Result A E} {x : E} → q ≡ ok_or o e → q ≡ Err x → (o ≡ None) × (x ≡ e)
was_none None e k h = (refl, cc)
was_none (Some y) e k h = cc

-- what a `?` passes on
pub passed_on : {A E : Type 0} {q : Result A E} {x : E} → IsErrAnd q (λ y. y ≡ x) → q ≡ Err x
passed_on {q} h = let p = err_from_is_err_and q h in p.1 ∙ ap Err p.2

alone-on : (c b : ℕ) (u : List ℕ) → ((w : List ℕ) → parted c u ≡ w ∷ [] → u ≡ w) → (t : Bool) (ps : Lines) → parted c u ≡ ps →
    (w : List ℕ) → cond t ([] ∷ ps) (on_first b ps) ≡ w ∷ [] → b ∷ u ≡ w
alone-on c b u ih true ps p w h = absurd (some-piece c u (p ∙ tail-eq_of_cons-eq h))
alone-on c b u ih false [] p w h = absurd (some-piece c u p)
alone-on c b u ih false (t ∷ ts) p w h = ap (λ (v : List ℕ). b ∷ v) (ih t (p ∙ ap (λ (v : Lines). t ∷ v) (tail-eq_of_cons-eq h))) ∙ head-eq_of_cons-eq h

alone-back : (c : ℕ) (u w : List ℕ) → parted c u ≡ w ∷ [] → u ≡ w
unfolding parted
alone-back c [] w h = head-eq_of_cons-eq h
alone-back c (b ∷ u) w h = alone-on c b u (alone-back c u) (eqb b c) (parted c u) refl w h

pub slice-take : (at n : ℕ) (s : List ℕ) → at ≤ length s → slice at (at + n) s ≡ take n (drop at s)
slice-take at n s l = ap (drop at) (take-add at n s) ∙ drop_at (take at s) (take n (drop at s)) at (length-take-le at s l)

pub record Next (c : ℕ) (s : List ℕ) (at r : ℕ) : Type 0 where
  pub more : r < length s → parted c (drop at s) ≡ slice at r s ∷ parted c (drop (r + 1) s)
  pub last : length s ≤ r → parted c (drop at s) ≡ slice at r s ∷ []

lead_is : (w : List ℕ) (ps : Lines) → lead (w ∷ ps) ≡ w
unfolding lead
lead_is w ps = refl

next-on : (c : ℕ) (s : List ℕ) (at : ℕ) → at ≤ length s → (ps : Lines) → parted c (drop at s) ≡ ps → {r : ℕ} → r ≡ at + length (lead ps) → Next c s at r
next-on c s at l [] p e = absurd (some-piece c (drop at s) p)
next-on c s at l (w ∷ []) p {r} e =
    let u : drop at s ≡ w = alone-back c (drop at s) w p in let a = ap length u in let b = length-drop at s in
    let d = ap length (lead_is w []) in
    let q : r ≡ at + length w = omega arith in
    let z : slice at r s ≡ w = ap (λ (n : ℕ). slice at n s) q ∙ slice-take at (length w) s l ∙ ap (take (length w)) (u ∙ sym (no_more w)) ∙ take_at w [] (length w) refl in
    record { more = λ h. absurd (omega arith); last = λ h. p ∙ ap (λ (v : List ℕ). v ∷ []) (sym z) }
  where
    no_more : (w : List ℕ) → w ++ [] ≡ w
    no_more [] = refl
    no_more (b ∷ w) = ap (λ (v : List ℕ). b ∷ v) (no_more w)
next-on c s at l (w ∷ x ∷ rest) p {r} e =
    let k = split c (drop at s) w x rest p in let a = ap length k.whole in let f = length-append w (c ∷ k.tail) in
    let b = length-drop at s in let d = ap length (lead_is w (x ∷ rest)) in let q : r ≡ at + length w = omega arith in
    let z : slice at r s ≡ w = ap (λ (n : ℕ). slice at n s) q ∙ slice-take at (length w) s l ∙ ap (take (length w)) k.whole ∙ take_at w (c ∷ k.tail) (length w) refl in
    let g : r + 1 ≡ at + (length w + 1) = omega arith in
    let y : drop (r + 1) s ≡ k.tail = ap (λ (n : ℕ). drop n s) g ∙ sym (drop-drop (length w + 1) at s) ∙ ap (drop (length w + 1)) k.whole ∙
    sym (drop-drop 1 (length w) (w ++ c ∷ k.tail)) ∙ ap (drop 1) (drop_at w (c ∷ k.tail) (length w) refl) in
    record {
      more = λ h. p ∙ ap₂ (λ (v : List ℕ) (o : Lines). v ∷ o) (sym z) (sym k.then ∙ ap (parted c) (sym y));
      last = λ h. absurd (omega arith);
    }

-- what the contract of `piece_end` says of the definition's pieces
pub next-piece : (c : ℕ) (s : List ℕ) (at : ℕ) {r : ℕ} → at ≤ length s → r ≡ at + length (lead (parted c (drop at s))) → Next c s at r
next-piece c s at l e = next-on c s at l (parted c (drop at s)) refl e

-- ---- one turn of the loop that judges

judge-cons : (e : Bool) (t : State) (n : ℕ) (l : List ℕ) (ps : Lines) → (ps ≡ [] → ⊥) → judge e t n (l ∷ ps) ≡ cond (stands e t (kind l))
    (judge e (after e t (kind l)) (n + 1) ps) (bad bad_sheet n)
unfolding judge
judge-cons e t n l [] h = absurd (h refl)
judge-cons e t n l (m ∷ ps) h = refl

judge-one : (e : Bool) (t : State) (n : ℕ) (l : List ℕ) → judge e t n (l ∷ []) ≡ cond (same l []) (good t) (bad bad_sheet n)
unfolding judge
judge-one e t n l = refl

module _ (e : Bool) (t : State) (n : ℕ) (s : List ℕ) (at end : ℕ) (k : Next 0x0A s at end) where
  -- an ended line is judged, and then those behind it
  pub judge-turn : end < length s → judge e t n (parted 0x0A (drop at s)) ≡ cond (stands e t (kind (slice at end s)))
      (judge e (after e t (kind (slice at end s))) (n + 1) (parted 0x0A (drop (end + 1) s))) (bad bad_sheet n)
  judge-turn l = ap (judge e t n) (k.more l) ∙ judge-cons e t n (slice at end s) (parted 0x0A (drop (end + 1) s)) (some-piece 0x0A (drop (end + 1) s))

  -- an unended one fails at itself
  pub judge-unended : length s ≤ end → (slice at end s ≡ [] → ⊥) → judge e t n (parted 0x0A (drop at s)) ≡ bad bad_sheet n
  unfolding same
  judge-unended l h = ap (judge e t n) (k.last l) ∙ judge-one e t n (slice at end s) ∙ go (slice at end s) h
    where
      go : (x : List ℕ) → (x ≡ [] → ⊥) → cond (same x []) (good t) (bad bad_sheet n) ≡ bad bad_sheet n
      go [] h = absurd (h refl)
      go (b ∷ x) h = refl

-- nothing is left
pub judge-done : (e : Bool) (t : State) (n : ℕ) (s : List ℕ) (at : ℕ) → length s ≤ at → judge e t n (parted 0x0A (drop at s)) ≡ good t
unfolding judge parted same
judge-done e t n s at l = rw (drop_of_length-le s l) refl
