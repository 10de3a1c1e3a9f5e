-- Fields of a line, one after the other as the code reads them: tests that are passed, fail, or find no field.
-- Assumes nothing.
use mathlib.Core.Path.{◌≡◌, refl, sym, ap, ap₂, ◌∙◌}
use mathlib.Core.Logic.{inl, inr}
use mathlib.Core.Bool.{Bool, true, false, cond, not, ◌&&◌, ◌||◌}
use mathlib.Core.List.{List, [], ◌∷◌, ◌++◌}
use Prim.{tt}
use Prim.Native.Nat.{ℕ, suc, ◌+◌, ◌-◌, ◌%◌, ◌≤◌, ◌<◌}
use native.Mathlib.Decide.{ℕ_discrete}
use native.Mathlib.Omega.{arith}
use native.Mathlib.Numerals.{add-one}
use lib.Dec.{eqb, leb}
use lib.ListN.{length, get_or, drop, replicate, length-drop}
use lib.Seq.{slice, drop-cons, get_or-drop}
use borrow.Author.Tests.{eq-eqb, ne_eqb, eqb-true, leb-true}
use Rattle.std.proofs.Common.{Option, Some, None}
use Rattle.std.specs.Option.{is_some}
use Rattle.std.proofs.lemmas.Option.{cond_some}
use Rattle.room.specs.Decimal.{decimal, digits}
use Rattle.editions.specs.Sheets.{Lines, parted, fields, field, same, value, is_number, is_even, is_text, is_name, fits, node, item, other, is_node, is_item, kind, is_kind}
use Rattle.editions.specs.Reads.{number_of, fields_at, FieldIs, NoField, NumberIs, NameIs, LetterIs, is_tail, is_labelled, Known}
use Rattle.editions.proofs.Bytes.{piece, some-piece, split}
use Rattle.editions.proofs.Shape.{both_true}
use Rattle.editions.proofs.Back.{same-is}
use Rattle.editions.proofs.Numbers.{same_self}
use Rattle.editions.proofs.Places.{Next}

abbrev Tests : Type 0
Tests = List (List ℕ → Bool)

-- ---- truth values

pub and-false : (b : Bool) → (b && false) ≡ false
and-false true = refl
and-false false = refl

pub and-true : (b : Bool) → (b && true) ≡ b
and-true true = refl
and-true false = refl

or_false : (b : Bool) → (b || false) ≡ b
or_false true = refl
or_false false = refl

pub not-true : (b : Bool) → not b ≡ true → b ≡ false
not-true false e = refl
not-true true e = sym e

pub not-false : (b : Bool) → not b ≡ false → b ≡ true
not-false true e = refl
not-false false e = sym e

pub true-false : {A : Type 0} {b : Bool} → b ≡ true → b ≡ false → A
true-false {b = b} h k = absurd (go b h k)
  where
    go : (b : Bool) → b ≡ true → b ≡ false → ⊥
    go true h k = let z : ◌≡◌ {A = ℕ} 0 1 = cc in omega arith
    go false h k = let z : ◌≡◌ {A = ℕ} 0 1 = cc in omega arith

-- ---- one field

module _ (l : List ℕ) (at : ℕ) {r : ℕ} (k : Next 0x09 l at r) where
  pub field_is : r < length l → FieldIs l at (slice at r l) (r + 1)
  field_is h = record { inside = omega arith; next = k.more h }

  module _ (p : List ℕ → Bool) where
    pub no_other : length l ≤ r → NoField p l at
    unfolding fits
    no_other h q ps = rw (k.last h) (and-false (p (slice at r l)))

    pub fails : r < length l → p (slice at r l) ≡ false → NoField p l at
    unfolding fits
    fails h e q ps = rw (k.more h) (rw e refl)

    -- the last one
    pub fits_last : length l ≤ r → fits (p ∷ []) (fields_at l at) ≡ p (slice at r l)
    unfolding fits
    fits_last h = rw (k.last h) (and-true (p (slice at r l)))

    pub fits_more : r < length l → fits (p ∷ []) (fields_at l at) ≡ false
    unfolding fits
    fits_more h = rw (k.more h) (by (fields_at l (r + 1)) (some-piece 0x09 (drop (r + 1) l)))
      where
        by : (ts : Lines) → (ts ≡ [] → ⊥) → (p (slice at r l) && fits [] ts) ≡ false
        by [] n = absurd (n refl)
        by (t ∷ ts) n = and-false (p (slice at r l))

pub fits_on : (l : List ℕ) (at : ℕ) {t : List ℕ} {q : ℕ} → FieldIs l at t q → (p : List ℕ → Bool) (ps : Tests) → p t ≡ true → fits (p ∷ ps) (fields_at l at) ≡ fits ps (fields_at l q)
unfolding fits
fits_on l at f p ps e = rw f.next (rw e refl)

pub fits-step : (p : List ℕ → Bool) (ps : Tests) (t : List ℕ) (ts : Lines) → p t ≡ true → fits (p ∷ ps) (t ∷ ts) ≡ fits ps ts
unfolding fits
fits-step p ps t ts e = rw e refl

fits-fails : (p : List ℕ → Bool) (ps : Tests) (t : List ℕ) (ts : Lines) → p t ≡ false → fits (p ∷ ps) (t ∷ ts) ≡ false
unfolding fits
fits-fails p ps t ts e = rw e refl

-- ---- numbers

small : (t : List ℕ) → is_number t ≡ true → value 0 t ≤ 0xFFFFFFF
unfolding is_number
small t e = leb-true (value 0 t) 0xFFFFFFF (both_true (same t (decimal (value 0 t))) (leb (value 0 t) 0xFFFFFFF) e).1

pub number-test : (t : List ℕ) → is_some (number_of t) ≡ is_number t
unfolding number_of
number-test t = by (is_number t)
  where
    by : (b : Bool) → is_some (cond b (Some (value 0 t)) None) ≡ b
    by true = refl
    by false = refl

pub number-none : (t : List ℕ) → None ≡ number_of t → is_number t ≡ false
number-none t e = sym (number-test t) ∙ rw (← e) refl

pub number-some : (t : List ℕ) {v : ℕ} → Some v ≡ number_of t → (is_number t ≡ true) × (v ≡ value 0 t)
unfolding number_of
number-some t {v} e = let w = cond_some (is_number t) (value 0 t) v (sym e) in (w.0, sym w.1)

module _ (l : List ℕ) (at : ℕ) {r : ℕ} (k : Next 0x09 l at r) where
  pub number-no : r < length l → None ≡ number_of (slice at r l) → NoField is_number l at
  number-no h e = fails l at k is_number h (number-none (slice at r l) e)

  pub number_is : r < length l → {v : ℕ} → Some v ≡ number_of (slice at r l) → NumberIs l at v (r + 1)
  number_is h e = let w = number-some (slice at r l) e in record { text = slice at r l; field = field_is l at k h; spelled = w.0; says = w.1 }

-- `left` numbers, and nothing more
module _ (l : List ℕ) (from left : ℕ) where
  abbrev Are : Bool
  Are = fits (replicate left is_number) (fields_at l from)

  module _ (h : 1 < left) where
    two-more : left ≡ suc (suc (left - 2))
    two-more = omega arith

    pub numbers-no : NoField is_number l from → Are ≡ false
    numbers-no n = ap (λ k. fits (replicate k is_number) (fields_at l from)) two-more ∙ n is_number (replicate (left - 2) is_number)

    pub numbers_on : {v q : ℕ} → NumberIs l from v q → Are ≡ fits (replicate (left - 1) is_number) (fields_at l q)
    numbers_on {v} {q} n =
        let e : suc (left - 2) ≡ left - 1 = omega arith in
        ap (λ k. fits (replicate k is_number) (fields_at l from)) two-more
        ∙ fits_on l from n.field is_number (is_number ∷ replicate (left - 2) is_number) n.spelled
        ∙ ap (λ k. fits (replicate k is_number) (fields_at l q)) e

  module _ (h : left ≡ 1) {r : ℕ} (k : Next 0x09 l from r) where
    pub numbers_more : r < length l → Are ≡ false
    numbers_more m = rw h (fits_more l from k is_number m)

    pub numbers-last : length l ≤ r → {o : Option ℕ} → o ≡ number_of (slice from r l) → is_some o ≡ Are
    numbers-last m e = rw (e, h) (number-test (slice from r l) ∙ sym (fits_last l from k is_number m))

-- ---- a letter

-- a field that is these bytes begins with them, and a tab is behind it
pub prefix_no : (v u : List ℕ) → ((tail : List ℕ) → u ≡ v ++ 0x09 ∷ tail → ⊥) → (q : List ℕ → Bool) (ps : Tests) → (ts : Lines) → parted
    0x09 u ≡ ts → fits (same v ∷ q ∷ ps) ts ≡ false
unfolding fits
prefix_no v u h q ps [] e = refl
prefix_no v u h q ps (w ∷ []) e = and-false (same v w)
prefix_no v u h q ps (w ∷ y ∷ rest) e = by (same v w) refl
  where
    by : (b : Bool) → same v w ≡ b → (b && fits (q ∷ ps) (y ∷ rest)) ≡ false
    by false k = refl
    by true k = let r = split 0x09 u w y rest e in absurd (h r.tail (r.whole ∙ ap (λ (z : List ℕ). z ++ 0x09 ∷ r.tail) (sym (same-is v w k))))

module _ (l : List ℕ) (at : ℕ) (in-line : at ≤ length l) where
  pub letter-few : length l - at < 2 → LetterIs l at 0
  letter-few h = record {
    field = λ n m. absurd (n refl);
    no = λ x n q ps. prefix_no (x ∷ []) (drop at l) (λ t e. let a = ap length e in let b = length-drop at l in omega arith) q ps (fields_at l at) refl;
  }

  pub letter-apart : (get_or l (at + 1) 0 ≡ 0x09 → ⊥) → LetterIs l at 0
  letter-apart h = record {
    field = λ n m. absurd (n refl);
    no = λ x n q ps. prefix_no (x ∷ []) (drop at l) (λ t e. h (sym (get_or-drop at l 1 0) ∙ ap (λ (v : List ℕ). get_or v 1 0) e)) q ps (fields_at l at) refl;
  }

  module _ (h : 2 ≤ length l - at) (tab : get_or l (at + 1) 0 ≡ 0x09) where
    two-first : drop at l ≡ get_or l at 0 ∷ 0x09 ∷ drop (at + 2) l
    two-first =
        let a : at < length l = omega arith in let b : at + 1 < length l = omega arith in
        let c : suc (at + 1) ≡ at + 2 = omega arith in
        drop-cons l at 0 a
        ∙ ap (λ (v : List ℕ). get_or l at 0 ∷ v) (ap (λ n. drop n l) (sym (add-one at)) ∙ drop-cons l (at + 1) 0 b ∙ ap₂ (λ (x : ℕ) (n : ℕ). x ∷ drop n l) tab c)

    pub letter-is : {b : ℕ} → b ≡ get_or l at 0 → LetterIs l at b
    letter-is {b} e = record {
      field = λ n m. record {
        inside = omega arith;
        next = ap (parted 0x09) (two-first ∙ ap (λ (v : ℕ). v ∷ 0x09 ∷ drop (at + 2) l) (sym e)) ∙
            piece 0x09 (b ∷ []) (drop (at + 2) l) (ne_eqb b 0x09 m, tt);
      };
      no = λ x n q ps. prefix_no (x ∷ []) (drop at l) (λ t w. n (ap (λ (v : List ℕ). get_or v 0 0) (sym w ∙ two-first) ∙ sym e)) q ps (fields_at l at) refl;
    }

-- a letter leaves room for a field behind it
pub label-room : (l : List ℕ) (at : ℕ) {b x : ℕ} → LetterIs l at b → b ≡ x → 9 < x → 0 < x → at + 2 ≤ length l
label-room l at i e h z = (i.field (λ w. omega arith) (λ w. omega arith)).inside

-- ---- version, format, text

even-no : (ts : Lines) (p : List ℕ → Bool) (ps : Tests) → fits (is_number ∷ p ∷ ps) ts ≡ false → fits (is_even ∷ p ∷ ps) ts ≡ false
unfolding fits is_even
even-no [] p ps e = refl
even-no (t ∷ ts) p ps e = by (is_number t) (eqb (value 0 t % 2) 0) (fits (p ∷ ps) ts) e
  where
    by : (a b c : Bool) → (a && c) ≡ false → ((a && b) && c) ≡ false
    by true b c h = rw h (and-false b)
    by false b c h = refl

even_is : (t : List ℕ) → is_number t ≡ true → is_even t ≡ eqb (value 0 t % 2) 0
unfolding is_even
even_is t e = rw e refl

two-says : value 0 (0x32 ∷ []) ≡ 2
unfolding value
two-says = refl

two_digits : decimal 2 ≡ 0x32 ∷ []
unfolding decimal digits
two_digits = refl

-- format 2 is spelled `2`
two_is : (t : List ℕ) {v : ℕ} → is_number t ≡ true → v ≡ value 0 t → same t (0x32 ∷ []) ≡ eqb v 2
unfolding is_number
two_is t {v} n e = by (same t (0x32 ∷ [])) refl (eqb v 2) refl
  where
    spelled : t ≡ decimal (value 0 t)
    spelled = same-is t (decimal (value 0 t)) (both_true (same t (decimal (value 0 t))) (leb (value 0 t) 0xFFFFFFF) n).0

    by : (a : Bool) → same t (0x32 ∷ []) ≡ a → (b : Bool) → eqb v 2 ≡ b → a ≡ b
    by true x true y = refl
    by false x false y = refl
    by true x false y = true-false (eq-eqb v 2 (e ∙ ap (value 0) (same-is t (0x32 ∷ []) x) ∙ two-says)) y
    by false x true y = true-false (ap (λ (u : List ℕ). same u (0x32 ∷ [])) (spelled ∙ ap decimal (sym e ∙ eqb-true v 2 y) ∙ two_digits) ∙ same_self (0x32 ∷ [])) x

module _ (l : List ℕ) (at : ℕ) where
  pub tail-first : NoField is_number l at → false ≡ is_tail (fields_at l at)
  unfolding is_tail
  tail-first n = sym (n _ _)

  module _ {v q : ℕ} (n : NumberIs l at v q) where
    abbrev rest : List (List ℕ) → Tests
    rest ts = is_even ∷ is_text (same (get_or ts 0 []) (0x32 ∷ [])) ∷ []

    tail-on : is_tail (fields_at l at) ≡ fits (rest (fields_at l q)) (fields_at l q)
    unfolding is_tail fits
    tail-on = rw n.field.next (rw n.spelled refl)

    pub tail-second : NoField is_number l q → false ≡ is_tail (fields_at l at)
    tail-second m = sym (tail-on ∙ even-no (fields_at l q) _ _ (m _ _))

    module _ {w r : ℕ} (m : NumberIs l q w r) where
      pub tail-odd : (w % 2 ≡ 0 → ⊥) → false ≡ is_tail (fields_at l at)
      unfolding fits
      tail-odd z = sym (tail-on ∙ rw m.field.next (rw (even_is m.text m.spelled) (rw (← m.says) (rw (ne_eqb (w % 2) 0 z) refl))))

      module _ (even : w % 2 ≡ 0) where
        tail-third : is_tail (fields_at l at) ≡ fits (is_text (eqb w 2) ∷ []) (fields_at l r)
        tail-third =
            tail-on
            ∙ ap (λ ts. fits (rest ts) ts) m.field.next
            ∙ ap (λ b. fits (is_even ∷ is_text b ∷ []) (m.text ∷ fields_at l r)) (two_is m.text m.spelled m.says)
            ∙ fits-step is_even (is_text (eqb w 2) ∷ []) m.text (fields_at l r) (even_is m.text m.spelled ∙ rw (← m.says) (eq-eqb (w % 2) 0 even))

        module _ {end : ℕ} (k : Next 0x09 l r end) where
          pub tail_more : end < length l → false ≡ is_tail (fields_at l at)
          tail_more h = sym (tail-third ∙ fits_more l r k (is_text (eqb w 2)) h)

          pub tail-last : length l ≤ end → {b : Bool} → b ≡ is_text (eqb w 2) (slice r end l) → b ≡ is_tail (fields_at l at)
          tail-last h e = e ∙ sym (tail-third ∙ fits_last l r k (is_text (eqb w 2)) h)

-- ---- the label before them

-- the tests of version, format and text, by the format's field
abbrev tailed : List ℕ → Tests
tailed t = is_number ∷ is_even ∷ is_text (same t (0x32 ∷ [])) ∷ []

tail-is : (ts : Lines) → fits (tailed (get_or ts 1 [])) ts ≡ is_tail ts
unfolding is_tail
tail-is ts = refl

label_is : (ts : Lines) → is_labelled ts ≡ (fits (same (0x53 ∷ []) ∷ is_number ∷ tailed (get_or ts 3 [])) ts || fits (same (0x43 ∷ []) ∷ is_name ∷ tailed (get_or ts 3 [])) ts)
unfolding is_labelled
label_is ts = refl

same-letter : (x : ℕ) → same (x ∷ []) (x ∷ []) ≡ true
same-letter x = same_self (x ∷ [])

other-letter : (x y : ℕ) → (x ≡ y → ⊥) → same (x ∷ []) (y ∷ []) ≡ false
unfolding same
other-letter x y n = rw (ne_eqb x y n) refl

both : {a b c d : Bool} → a ≡ c → b ≡ d → (a || b) ≡ (c || d)
both e f = ap₂ (λ (x y : Bool). x || y) e f

module _ (l : List ℕ) (at : ℕ) {b : ℕ} (i : LetterIs l at b) where
  abbrev Labelled : Bool
  Labelled = is_labelled (fields_at l at)

  pub label-none : (b ≡ 0x53 → ⊥) → (b ≡ 0x43 → ⊥) → false ≡ Labelled
  label-none s c = sym (label_is (fields_at l at) ∙ both (i.no 0x53 (λ e. s (sym e)) _ _) (i.no 0x43 (λ e. c (sym e)) _ _))

  module _ (s : b ≡ 0x53) where
    of_s : FieldIs l at (0x53 ∷ []) (at + 2)
    of_s = rw s at (i.field (λ z. omega arith) (λ z. omega arith))

    standard-on : Labelled ≡ fits (is_number ∷ tailed (get_or (fields_at l (at + 2)) 2 [])) (fields_at l (at + 2))
    standard-on =
        ap is_labelled of_s.next
        ∙ label_is ((0x53 ∷ []) ∷ fields_at l (at + 2))
        ∙ both (fits-step (same (0x53 ∷ [])) (is_number ∷ tailed (get_or (fields_at l (at + 2)) 2 [])) (0x53 ∷ []) (fields_at l (at + 2)) (same-letter 0x53))
        (fits-fails (same (0x43 ∷ [])) (is_name ∷ tailed (get_or (fields_at l (at + 2)) 2 [])) (0x53 ∷ []) (fields_at l (at + 2)) (other-letter 0x43 0x53 (λ z. omega arith)))
        ∙ or_false _

    pub standard-no : NoField is_number l (at + 2) → false ≡ Labelled
    standard-no n = sym (standard-on ∙ n _ _)

    pub standard-is : {v q : ℕ} → NumberIs l (at + 2) v q → {a : Bool} → a ≡ is_tail (fields_at l q) → a ≡ Labelled
    standard-is {v} {q} n e =
        e
        ∙ sym (standard-on
        ∙ ap (λ ts. fits (is_number ∷ tailed (get_or ts 2 [])) ts) n.field.next
        ∙ fits-step is_number (tailed (get_or (fields_at l q) 1 [])) n.text (fields_at l q) n.spelled
        ∙ tail-is (fields_at l q))

  module _ (c : b ≡ 0x43) where
    of_c : FieldIs l at (0x43 ∷ []) (at + 2)
    of_c = rw c at (i.field (λ z. omega arith) (λ z. omega arith))

    custom-on : Labelled ≡ fits (is_name ∷ tailed (get_or (fields_at l (at + 2)) 2 [])) (fields_at l (at + 2))
    custom-on =
        ap is_labelled of_c.next
        ∙ label_is ((0x43 ∷ []) ∷ fields_at l (at + 2))
        ∙ both (fits-fails (same (0x53 ∷ [])) (is_number ∷ tailed (get_or (fields_at l (at + 2)) 2 [])) (0x43 ∷ []) (fields_at l (at + 2)) (other-letter 0x53 0x43 (λ z. omega arith)))
        (fits-step (same (0x43 ∷ [])) (is_name ∷ tailed (get_or (fields_at l (at + 2)) 2 [])) (0x43 ∷ []) (fields_at l (at + 2)) (same-letter 0x43))

    pub custom-no : NoField is_name l (at + 2) → false ≡ Labelled
    custom-no n = sym (custom-on ∙ n _ _)

    pub custom-is : {q : ℕ} → NameIs l (at + 2) q → {a : Bool} → a ≡ is_tail (fields_at l q) → a ≡ Labelled
    custom-is {q} n e =
        e
        ∙ sym (custom-on
        ∙ ap (λ ts. fits (is_name ∷ tailed (get_or ts 2 [])) ts) n.field.next
        ∙ fits-step is_name (tailed (get_or (fields_at l q) 1 [])) n.text (fields_at l q) n.spelled
        ∙ tail-is (fields_at l q))

-- ---- a line

kind-by : (l : List ℕ) (a b : Bool) (k : ℕ) → is_node l ≡ a → is_item l ≡ b → value 0 (field 1 l) ≡ k → kind l ≡ cond a (node k) (cond b (item k) other)
unfolding kind
kind-by l a b k e f g = rw (e, f, g) refl

abbrev six : Tests
six = is_number ∷ is_number ∷ is_number ∷ is_number ∷ is_number ∷ is_number ∷ []

node-tests : (l : List ℕ) → is_node l ≡ fits (same (0x4E ∷ []) ∷ six) (fields_at l 0)
unfolding is_node fields
node-tests l = refl

abbrev standard : List ℕ → Tests
standard t = same (0x53 ∷ []) ∷ is_number ∷ tailed t

abbrev custom : List ℕ → Tests
custom t = same (0x43 ∷ []) ∷ is_name ∷ tailed t

item-tests : (l : List ℕ) → is_item l ≡
    (fits (same (0x4D ∷ []) ∷ is_number ∷ standard (get_or (fields_at l 0) 5 [])) (fields_at l 0) || fits
    (same (0x4D ∷ []) ∷ is_number ∷ custom (get_or (fields_at l 0) 5 [])) (fields_at l 0))
unfolding is_item field fields
item-tests l = refl

second_is : (l : List ℕ) → field 1 l ≡ get_or (fields_at l 0) 1 []
unfolding field fields
second_is l = refl

module _ (l : List ℕ) {b : ℕ} (i : LetterIs l 0 b) where
  not-node : (b ≡ 0x4E → ⊥) → is_node l ≡ false
  not-node n = node-tests l ∙ i.no 0x4E (λ e. n (sym e)) _ _

  not-item : (b ≡ 0x4D → ⊥) → is_item l ≡ false
  not-item n = item-tests l ∙ both (i.no 0x4D (λ e. n (sym e)) _ _) (i.no 0x4D (λ e. n (sym e)) _ _)

  pub line-none : (b ≡ 0x4E → ⊥) → (b ≡ 0x4D → ⊥) → other ≡ kind l
  line-none n m = sym (kind-by l false false _ (not-node n) (not-item m) refl)

  -- the row or the node that it names
  row_is : {x : ℕ} → FieldIs l 0 (x ∷ []) 2 → {v q : ℕ} → NumberIs l 2 v q → value 0 (field 1 l) ≡ v
  row_is {x} f {v} {q} w =
      ap (value 0) (second_is l ∙ ap (λ ts. get_or ts 1 []) f.next ∙ ap (λ ts. get_or ((x ∷ []) ∷ ts) 1 []) w.field.next) ∙ sym w.says

  module _ (n : b ≡ 0x4E) where
    of_n : FieldIs l 0 (0x4E ∷ []) 2
    of_n = rw n at (i.field (λ z. omega arith) (λ z. omega arith))

    no_item : is_item l ≡ false
    no_item = not-item (λ e. omega arith)

    node-on : is_node l ≡ fits six (fields_at l 2)
    node-on = node-tests l ∙ fits_on l 0 of_n (same (0x4E ∷ [])) six (same-letter 0x4E)

    pub node-no : NoField is_number l 2 → other ≡ kind l
    node-no w = sym (kind-by l false false _ (node-on ∙ w _ _) no_item refl)

    module _ {v q : ℕ} (w : NumberIs l 2 v q) {a : Bool} (e : a ≡ fits (replicate 5 is_number) (fields_at l q)) where
      node-rest : is_node l ≡ a
      node-rest = node-on ∙ fits_on l 2 w.field is_number (replicate 5 is_number) w.spelled ∙ sym e

      pub node-bad : a ≡ false → other ≡ kind l
      node-bad f = sym (kind-by l false false _ (node-rest ∙ f) no_item refl)

      pub node-is : a ≡ true → node v ≡ kind l
      node-is f = sym (kind-by l true false v (node-rest ∙ f) no_item (row_is of_n w))

  module _ (m : b ≡ 0x4D) where
    of_m : FieldIs l 0 (0x4D ∷ []) 2
    of_m = rw m at (i.field (λ z. omega arith) (λ z. omega arith))

    no_node : is_node l ≡ false
    no_node = not-node (λ e. omega arith)

    item_on : is_item l ≡ (fits (is_number ∷ standard (get_or (fields_at l 2) 4 [])) (fields_at l 2) || fits (is_number ∷ custom (get_or (fields_at l 2) 4 [])) (fields_at l 2))
    item_on =
        item-tests l
        ∙ ap (λ ts. fits (same (0x4D ∷ []) ∷ is_number ∷ standard (get_or ts 5 [])) ts || fits (same (0x4D ∷ []) ∷ is_number ∷ custom (get_or ts 5 [])) ts) of_m.next
        ∙ both (fits-step (same (0x4D ∷ [])) (is_number ∷ standard (get_or (fields_at l 2) 4 [])) (0x4D ∷ []) (fields_at l 2) (same-letter 0x4D))
        (fits-step (same (0x4D ∷ [])) (is_number ∷ custom (get_or (fields_at l 2) 4 [])) (0x4D ∷ []) (fields_at l 2) (same-letter 0x4D))

    pub item-no : NoField is_number l 2 → other ≡ kind l
    item-no w = sym (kind-by l false false _ no_node (item_on ∙ both (w _ _) (w _ _)) refl)

    module _ {v q : ℕ} (w : NumberIs l 2 v q) {a : Bool} (e : a ≡ is_labelled (fields_at l q)) where
      item-rest : is_item l ≡ a
      item-rest =
          item_on
          ∙ ap (λ ts. fits (is_number ∷ standard (get_or ts 4 [])) ts || fits (is_number ∷ custom (get_or ts 4 [])) ts) w.field.next
          ∙ both (fits-step is_number (standard (get_or (fields_at l q) 3 [])) w.text (fields_at l q) w.spelled)
          (fits-step is_number (custom (get_or (fields_at l q) 3 [])) w.text (fields_at l q) w.spelled)
          ∙ sym (label_is (fields_at l q))
          ∙ sym e

      pub item-bad : a ≡ false → other ≡ kind l
      item-bad f = sym (kind-by l false false _ no_node (item-rest ∙ f) refl)

      pub item-is : a ≡ true → item v ≡ kind l
      item-is f = sym (kind-by l false true v no_node (item-rest ∙ f) (row_is of_m w))

-- ---- a line whose kind is known by its first letter

pub item-same : {n k : ℕ} → item n ≡ item k → n ≡ k
item-same e = cc

none-item : {A : Type 0} {k : ℕ} → other ≡ item k → A
none-item e = let z : ◌≡◌ {A = ℕ} 0 1 = cc in absurd (omega arith)

kind-cases : (l : List ℕ) {a b : Bool} → is_node l ≡ a → is_item l ≡ b → kind l ≡ cond a (node (value 0 (field 1 l))) (cond b (item (value 0 (field 1 l))) other)
kind-cases l e f = kind-by l _ _ _ e f refl

-- a blank line has no letter
known-here : (l : List ℕ) {x : ℕ} → FieldIs l 0 (x ∷ []) 2 → kind l ≡ other → Known l → {A : Type 0} → A
known-here l f e (inl z) = let a = f.inside in let b = ap length z in absurd (omega arith)
known-here l f e (inr h) = absurd (h e)

module _ (l : List ℕ) {b : ℕ} (i : LetterIs l 0 b) (k : Known l) where
  pub item-letter : {c : Bool} → c ≡ true → eqb b 0x4D ≡ is_kind c (kind l)
  item-letter h = rw h (elim (ℕ_discrete b 0x4D) [
    | yes m ↦ eq-eqb b 0x4D m ∙ by m (is_item l) refl
    | no n ↦ ne_eqb b 0x4D n ∙ none (is_node l) (kind-cases l refl (not-item l i n))
  ])
    where
      by : b ≡ 0x4D → (c : Bool) → is_item l ≡ c → true ≡ is_kind true (kind l)
      by m true e = rw (kind-cases l (no_node l i m) e) refl
      by m false e = known-here l (of_m l i m) (kind-cases l (no_node l i m) e) k

      none : (c : Bool) → kind l ≡ cond c (node (value 0 (field 1 l))) other → false ≡ is_kind true (kind l)
      none true e = rw e refl
      none false e = rw e refl

  pub node-letter : {c : Bool} → c ≡ false → eqb b 0x4E ≡ is_kind c (kind l)
  node-letter h = rw h (elim (ℕ_discrete b 0x4E) [
    | yes n ↦ eq-eqb b 0x4E n ∙ by n (is_node l) refl
    | no m ↦ ne_eqb b 0x4E m ∙ none (is_item l) (kind-cases l (not-node l i m) refl)
  ])
    where
      by : b ≡ 0x4E → (c : Bool) → is_node l ≡ c → true ≡ is_kind false (kind l)
      by n true e = rw (kind-cases l e (no_item l i n)) refl
      by n false e = known-here l (of_n l i n) (kind-cases l e (no_item l i n)) k

      none : (c : Bool) → kind l ≡ cond c (item (value 0 (field 1 l))) other → false ≡ is_kind false (kind l)
      none true e = rw e refl
      none false e = rw e refl

-- the node that an item line names
module _ (l : List ℕ) {b : ℕ} (i : LetterIs l 0 b) where
  pub node-of_none : (b ≡ 0x4D → ⊥) → {n k : ℕ} → kind l ≡ item k → n ≡ k
  node-of_none n e = by (is_node l) (kind-cases l refl (not-item l i n))
    where
      by : (c : Bool) → kind l ≡ cond c (node (value 0 (field 1 l))) other → {n k : ℕ} → n ≡ k
      by true h = let z : ◌≡◌ {A = ℕ} 0 1 = cc in absurd (omega arith)
      by false h = none-item (sym h ∙ e)

  pub node-of_no : b ≡ 0x4D → NoField is_number l 2 → {n k : ℕ} → kind l ≡ item k → n ≡ k
  node-of_no m w e = none-item (item-no l i m w ∙ e)

  pub node-of_is : b ≡ 0x4D → {v q : ℕ} → NumberIs l 2 v q → {k : ℕ} → kind l ≡ item k → v ≡ k
  node-of_is m {v} {q} w {k} e = by (is_labelled (fields_at l q)) refl
    where
      by : (c : Bool) → c ≡ is_labelled (fields_at l q) → v ≡ k
      by true f = item-same (item-is l i m w f refl ∙ e)
      by false f = none-item (item-bad l i m w f refl ∙ e)
