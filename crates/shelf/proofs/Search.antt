-- Cards looked for one by one.
-- Assumes nothing.
use mathlib.Core.Path.{◌≡◌, refl, sym, ◌∙◌, ap}
use mathlib.Core.Bool.{Bool, true, false, cond, not, ◌&&◌, ◌||◌}
use mathlib.Core.List.{List, [], ◌∷◌}
use Prim.Native.Nat.{ℕ, suc, ◌+◌, ◌<◌, ◌≤◌}
use native.Mathlib.Decide.{dec_lt}
use native.Mathlib.Numerals.{add-one}
use native.Mathlib.Omega.{arith}
use lib.Dec.{ltb, leb-suc-suc}
use lib.ListN.{length, get_or, drop, drop_of_length-le, length-drop}
use lib.Seq.{drop-cons}
use borrow.Author.Tests.{lt-ltb, le-ltb, eq-eqb, ne_eqb}
use Rattle.shelf.specs.Shelf.{fresh_card, is_free, is_for, label_of, some, first, faulty}
use Rattle.shelf.specs.declared.Card.{Card}

module _ (p : Card → Bool) where
  pub first-here : (cs : List Card) (i : ℕ) → i < length cs → p (get_or cs i fresh_card) ≡ true → first p (drop i cs) ≡ 0
  unfolding first
  first-here cs i l e = ap (first p) (drop-cons cs i fresh_card l) ∙ simp e

  pub first_on : (cs : List Card) (i : ℕ) → i < length cs → p (get_or cs i fresh_card) ≡ false → first p (drop i cs) ≡ suc (first p (drop (suc i) cs))
  unfolding first
  first_on cs i l e = ap (first p) (drop-cons cs i fresh_card l) ∙ simp e

  some-step : (c : Card) (cs : List Card) (b : Bool) → p c ≡ b → some p cs ≡ ltb (first p cs) (length cs) → some p (c ∷ cs) ≡ ltb (first p (c ∷ cs)) (suc (length cs))
  unfolding some first
  some-step c cs true e h = simp e (sym (lt-ltb 0 (suc (length cs)) (omega arith)))
  some-step c cs false e h = simp e (h ∙ sym (leb-suc-suc (suc (first p cs)) (length cs)))

  pub some_first : (cs : List Card) → some p cs ≡ ltb (first p cs) (length cs)
  unfolding some first
  some_first [] = refl
  some_first (c ∷ cs) = some-step c cs (p c) refl (some_first cs)

  most : (b : Bool) (k n : ℕ) → k ≤ n → cond b 0 (suc k) ≤ suc n
  most true k n h = omega arith
  most false k n h = omega arith

  pub first-most : (cs : List Card) → first p cs ≤ length cs
  unfolding first
  first-most [] = omega arith
  first-most (c ∷ cs) = most (p c) _ _ (first-most cs)

-- what is looked for, from card i on; none of those before it is it
pub record Looking (p : Card → Bool) (cs : List Card) (from i : ℕ) : Type 0 where
  pub within : i ≤ length cs
  pub left : from + first p (drop from cs) ≡ i + first p (drop i cs)

module _ {p : Card → Bool} {cs : List Card} {from : ℕ} where
  pub looking_begins : from ≤ length cs → Looking p cs from from
  looking_begins l = record { within = l; left = refl }

  pub looking_here : {i : ℕ} → Looking p cs from i → i < length cs → p (get_or cs i fresh_card) ≡ true → i ≡ from + first p (drop from cs)
  looking_here {i} k l e = let h = first-here p cs i l e in let o = k.left in omega arith

  pub looking_on : {i : ℕ} → Looking p cs from i → i < length cs → p (get_or cs i fresh_card) ≡ false → Looking p cs from (i + 1)
  looking_on {i} k l e = record {
    within = omega arith;
    left = let h = first_on p cs i l e in let o = k.left in rw (add-one i) (omega arith);
  }

  pub looking_ends : {i : ℕ} → Looking p cs from i → length cs ≤ i → i ≡ from + first p (drop from cs)
  unfolding first
  looking_ends {i} k l = let h : first p (drop i cs) ≡ 0 = rw (drop_of_length-le cs {i = i} l) in let o = k.left in omega arith

-- ---- tests

pub free_here : {c d : Card} → c ≡ d → c.call ≡ 0 → is_free d ≡ true
unfolding is_free
free_here e z = ap is_free (sym e) ∙ eq-eqb _ _ z

pub free_not : {c d : Card} → c ≡ d → (c.call ≡ 0 → ⊥) → is_free d ≡ false
unfolding is_free
free_not e z = ap is_free (sym e) ∙ ne_eqb _ _ z

-- ---- one card's faults

-- a taken card whose sheet is longer than a part, or with desk, call and boat of one of these
abbrev pub faulty_card : (size : ℕ) → Card → List Card → Bool
faulty_card size c cs = not (is_free c) && (ltb size c.length || some (is_for (label_of c)) cs)

module _ (size : ℕ) {c d : Card} (e : c ≡ d) (cs : List Card) where
  pub faulty-free : c.call ≡ 0 → false ≡ faulty_card size d cs
  faulty-free z = sym (simp (free_here e z))

  pub faulty-long : (c.call ≡ 0 → ⊥) → size < c.length → true ≡ faulty_card size d cs
  faulty-long z l = sym (simp (free_not e z, ap (λ (x : Card). ltb size x.length) (sym e) ∙ lt-ltb _ _ l))

  pub faulty-twice : (c.call ≡ 0 → ⊥) → c.length ≤ size → some (is_for (label_of c)) cs ≡ faulty_card size d cs
  faulty-twice z l = rw (← e) (simp (free_not {c = c} refl z, le-ltb _ _ l))

-- the same order, further on
pub ltb-on : (k a n r m : ℕ) → r ≡ k + a → m ≡ k + n → ltb r m ≡ ltb a n
ltb-on k a n r m e f = elim (dec_lt a n) [
  | yes l ↦ lt-ltb r m (omega arith) ∙ sym (lt-ltb a n l)
  | no l ↦ le-ltb r m (omega arith) ∙ sym (le-ltb a n (omega arith))
]

-- whether one of the cards from some number on is it
pub some-from : (p : Card → Bool) (cs : List Card) (from r : ℕ) → from ≤ length cs → r ≡ from + first p (drop from cs) → ltb r (length cs) ≡ some p (drop from cs)
some-from p cs from r l e =
    ltb-on from (first p (drop from cs)) (length (drop from cs)) r (length cs) e (rw length-drop (omega arith))
    ∙ sym (some_first p (drop from cs))

faulty-from : (size : ℕ) (cs : List Card) (i : ℕ) → i < length cs
    → faulty size (drop i cs) ≡ (faulty_card size (get_or cs i fresh_card) (drop (suc i) cs) || faulty size (drop (suc i) cs))
unfolding faulty
faulty-from size cs i l = ap (faulty size) (drop-cons cs i fresh_card l)

-- none of the cards before card i is at fault
pub record Sifting (size : ℕ) (cs : List Card) (i : ℕ) : Type 0 where
  pub within : i ≤ length cs
  pub left : faulty size cs ≡ faulty size (drop i cs)

module _ {size : ℕ} {cs : List Card} where
  pub sifting_begins : Sifting size cs 0
  sifting_begins = record { within = omega arith; left = refl }

  pub sifting_here : {i : ℕ} → Sifting size cs i → i < length cs → faulty_card size (get_or cs i fresh_card) (drop (i + 1) cs) ≡ true → true ≡ faulty size cs
  sifting_here {i} k l e = sym (k.left ∙ faulty-from size cs i l ∙ simp (rw add-one at e))

  pub sifting_on : {i : ℕ} → Sifting size cs i → i < length cs → faulty_card size (get_or cs i fresh_card) (drop (i + 1) cs) ≡ false → Sifting size cs (i + 1)
  sifting_on {i} k l e = record { within = omega arith; left = k.left ∙ faulty-from size cs i l ∙ rw add-one (simp (rw add-one at e)) }

  pub sifting_ends : {i : ℕ} → Sifting size cs i → length cs ≤ i → false ≡ faulty size cs
  unfolding faulty
  sifting_ends {i} k l = sym (k.left ∙ rw (drop_of_length-le cs {i = i} l))
