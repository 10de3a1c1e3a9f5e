-- The bytes of the events of each kind are the places of that kind, and sum to the file's length. Of any events that share no byte.
-- Assumes nothing.
use mathlib.Core.Path.{◌≡◌, refl, sym, ap, ap₂, ◌∙◌}
use mathlib.Core.Bool.{Bool, true, false, cond, not, ◌&&◌}
use mathlib.Core.Logic.{◌⊎◌, inl, inr}
use mathlib.Core.List.{[], ◌∷◌}
use Prim.Native.Nat.{ℕ, zero, suc, ◌+◌, ◌-◌, ◌≤◌, ◌<◌, min}
use native.Mathlib.Nat.{lt_of_not-le}
use native.Mathlib.Decide.{dec_le, dec_lt}
use native.Mathlib.Omega.{arith}
use borrow.Author.Tests.{ne_eqb, ltb-true, leb-true, le-leb, lt-leb, lt-ltb, le-ltb}
use lib.Dec.{T, eqb, ltb, leb}
use Rattle.machine.specs.Machine.{Event, seen, passed}
use Rattle.cursor.specs.Rows.{Frame, file_frame, node_frame, meta_frame, unpack_frame, reference_frame, language, name, uri, Part, node_row, item_row, plain, Events}
use Rattle.file.specs.Hidden.{is_hidden}
use Rattle.account.specs.Account.{kind, first, size, has_byte, kind_at, Had, IsOf, places, places_of}
use Rattle.machine.proofs.Stable.{Has, Covers, Separate}

-- the bytes of events whose kind passes the test
unfoldable pub count : (ℕ → Bool) → Events → ℕ
count t [] = 0
count t (e ∷ es) = cond (t (kind e)) (size e) 0 + count t es

-- ---- one event

-- of the n first places those that the event has
module _ (a s : ℕ) (b : Bool) (q : ℕ → Bool) (none : (k : ℕ) → a ≤ k → k < a + s → q k ≡ false) where
  one-event : (n : ℕ) → places (λ k. cond (leb a k && ltb k (a + s)) b (q k)) n ≡ (cond b (min n (a + s) - a) 0) + places q n
  unfolding places
  one-event zero = by b
    where
      by : (b : Bool) → 0 ≡ (cond b (min 0 (a + s) - a) 0) + 0
      by true = omega arith
      by false = refl
  one-event (suc n) =
      let h = one-event n in
      elim (dec_le a n) [
        | yes l ↦ elim (dec_lt n (a + s)) [
          | yes m ↦ (let z = none n l m in simp (le-leb _ _ l, lt-ltb _ _ m, z) (inside b _ _ l m h))
          | no m ↦ (let m' : a + s ≤ n = omega arith in simp (le-leb _ _ l, le-ltb _ _ m') (outside b _ _ _ (inr m') h))
        ]
        | no l ↦ (let l' : n < a = lt_of_not-le l in simp (lt-leb _ _ l') (outside b _ _ _ (inl l') h))
      ]
    where
      inside : (b : Bool) (x y : ℕ) → a ≤ n → n < a + s → x ≡ (cond b (min n (a + s) - a) 0) + y → (cond b 1 0) + x ≡ (cond b (min (suc n) (a + s) - a) 0) + (0 + y)
      inside true x y l m h = omega arith
      inside false x y l m h = omega arith

      outside : (b : Bool) (x y c : ℕ) → (n < a) ⊎ (a + s ≤ n) → x ≡ (cond b (min n (a + s) - a) 0) + y → c + x ≡ (cond b (min (suc n) (a + s) - a) 0) + (c + y)
      outside true x y c (inl l) h = omega arith
      outside true x y c (inr l) h = omega arith
      outside false x y c l h = omega arith

-- ---- all events

event_has : (e : Event Frame Part) (k : ℕ) → first e ≤ k → k < first e + size e → Has e k
event_has (seen κ p) k l m = (l, m)
event_has (passed w p n) k l m = (l, m)

pub in_event : (e : Event Frame Part) (k : ℕ) → T (has_byte e k) → Has e k
in_event e k t = by (leb (first e) k) (ltb k (first e + size e)) refl refl t
  where
    by : (b c : Bool) → leb (first e) k ≡ b → ltb k (first e + size e) ≡ c → T (b && c) → Has e k
    by true true x y t = event_has e k (leb-true _ _ x) (ltb-true _ _ y)
    by true false x y t = absurd t
    by false c x y t = absurd t

uncovered : (es : Events) (k : ℕ) → (Covers es k → ⊥) → kind_at es k ≡ 8
unfolding kind_at
uncovered [] k h = refl
uncovered (e ∷ es) k h = by (leb (first e) k) (ltb k (first e + size e)) refl refl (uncovered es k (λ z. h (inr z)))
  where
    by : (b c : Bool) → leb (first e) k ≡ b → ltb k (first e + size e) ≡ c → kind_at es k ≡ 8 → (cond (b && c) (kind e) (kind_at es k)) ≡ 8
    by true true x y r = absurd (h (inl (event_has e k (leb-true _ _ x) (ltb-true _ _ y))))
    by true false x y r = r
    by false true x y r = r
    by false false x y r = r

places_same : (p q : ℕ → Bool) (n : ℕ) → ((k : ℕ) → p k ≡ q k) → places p n ≡ places q n
unfolding places
places_same p q zero h = refl
places_same p q (suc n) h = ap₂ (λ (c : Bool) (v : ℕ). (cond c 1 0) + v) (h n) (places_same p q n h)

test_if : (t : ℕ → Bool) (c : Bool) (a b : ℕ) → t (cond c a b) ≡ (cond c (t a) (t b))
test_if t true a b = refl
test_if t false a b = refl

no-places : (b : Bool) → b ≡ false → (n : ℕ) → places (λ k. b) n ≡ 0
unfolding places
no-places b z zero = refl
no-places b z (suc n) = let h = no-places b z n in by b z h
  where
    by : (c : Bool) → c ≡ false → places (λ k. b) n ≡ 0 → (cond c 1 0) + places (λ k. b) n ≡ 0
    by true e h = let y : ◌≡◌ {A = ℕ} 0 1 = cc in absurd (omega arith)
    by false e h = omega arith

-- the bytes of the events whose kind passes the test are the places whose kind does
pub counted : (t : ℕ → Bool) → t 8 ≡ false → (n : ℕ) (es : Events) → Separate es → ((k : ℕ) → Covers es k → k < n) → count t es ≡ places (λ k. t (kind_at es k)) n
unfolding kind_at count
counted t z n [] s l = sym (no-places (t 8) z n)
counted t z n (e ∷ es) s l =
    let h = counted t z n es s.1 (λ k x. l k (inr x)) in
    let none : (k : ℕ) → first e ≤ k → k < first e + size e → t (kind_at es k) ≡ false = λ k a b. ap t (uncovered es k (s.0 k (event_has e k a b))) ∙ z in
    let w = one-event (first e) (size e) (t (kind e)) (λ k. t (kind_at es k)) none n in
    let v = places_same (λ k. t (cond (has_byte e k) (kind e) (kind_at es k))) (λ k. cond (has_byte e k) (t (kind e)) (t (kind_at es k))) n
    (λ k. test_if t (has_byte e k) (kind e) (kind_at es k)) in
    by (t (kind e)) _ _ _ (first e) (size e) (fits e (size e) refl (λ k x. l k (inl x))) h (v ∙ w)
  where
    fits : (e : Event Frame Part) (s : ℕ) → size e ≡ s → ((k : ℕ) → Has e k → k < n) → (s ≡ 0) ⊎ (first e + s ≤ n)
    fits (seen κ p) s q h = inr (let m = h p (omega arith) in omega arith)
    fits (passed w p zero) s q h = inl (sym q)
    fits (passed w p (suc r)) s q h = inr (let m = h (p + r) (omega arith) in omega arith)

    by : (b : Bool) (x y u a r : ℕ) → (r ≡ 0) ⊎ (a + r ≤ n) → x ≡ y → u ≡ (cond b (min n (a + r) - a) 0) + y → (cond b r 0) + x ≡ u
    by true x y u a r (inl k) p q = omega arith
    by true x y u a r (inr k) p q = omega arith
    by false x y u a r k p q = omega arith

-- ---- the nine counts

-- every event is of one of the eight kinds
eight : (e : Event Frame Part) (s : ℕ) → (cond (eqb 0 (kind e)) s 0) + (cond (eqb 1 (kind e)) s 0) + (cond (eqb 2 (kind e)) s 0) + (cond (eqb 3 (kind e)) s 0)
    + (cond (eqb 4 (kind e)) s 0) + (cond (eqb 5 (kind e)) s 0) + (cond (eqb 6 (kind e)) s 0) + (cond (eqb 7 (kind e)) s 0) ≡ s
eight (seen file_frame p) s = omega arith
eight (seen node_frame p) s = omega arith
eight (seen meta_frame p) s = omega arith
eight (seen unpack_frame p) s = omega arith
eight (seen reference_frame p) s = omega arith
eight (passed (node_row r) p n) s = omega arith
eight (passed (item_row r) p n) s = by (is_hidden r)
  where
    by : (b : Bool) → (cond (eqb 0 (cond b 4 3)) s 0) + (cond (eqb 1 (cond b 4 3)) s 0) + (cond (eqb 2 (cond b 4 3)) s 0) + (cond (eqb 3 (cond b 4 3)) s 0)
        + (cond (eqb 4 (cond b 4 3)) s 0) + (cond (eqb 5 (cond b 4 3)) s 0) + (cond (eqb 6 (cond b 4 3)) s 0) + (cond (eqb 7 (cond b 4 3)) s 0) ≡ s
    by true = omega arith
    by false = omega arith
eight (passed (plain language) p n) s = omega arith
eight (passed (plain name) p n) s = omega arith
eight (passed (plain uri) p n) s = omega arith

pub eight-kinds : (es : Events) → count (eqb 0) es + count (eqb 1) es + count (eqb 2) es + count (eqb 3) es + count (eqb 4) es + count
    (eqb 5) es + count (eqb 6) es + count (eqb 7) es ≡ count (λ κ. true) es
unfolding count
eight-kinds [] = refl
eight-kinds (e ∷ es) = let h = eight-kinds es in let k = eight e (size e) in omega arith

-- ---- all else, and the sum

places-not : (p : ℕ → Bool) (n : ℕ) → places p n + places (λ k. not (p k)) n ≡ n
unfolding places
places-not p zero = refl
places-not p (suc n) = let h = places-not p n in by (p n) h
  where
    by : (b : Bool) → places p n + places (λ k. not (p k)) n ≡ n → (cond b 1 0) + places p n + ((cond (not b) 1 0) + places (λ k. not (p k)) n) ≡ suc n
    by true h = omega arith
    by false h = omega arith

some-kind : (e : Event Frame Part) (s : ℕ) → (cond (not (eqb 8 (kind e))) s 0) ≡ s
some-kind (seen file_frame p) s = refl
some-kind (seen node_frame p) s = refl
some-kind (seen meta_frame p) s = refl
some-kind (seen unpack_frame p) s = refl
some-kind (seen reference_frame p) s = refl
some-kind (passed (node_row r) p n) s = refl
some-kind (passed (item_row r) p n) s = by (is_hidden r)
  where
    by : (b : Bool) → (cond (not (eqb 8 (cond b 4 3))) s 0) ≡ s
    by true = refl
    by false = refl
some-kind (passed (plain language) p n) s = refl
some-kind (passed (plain name) p n) s = refl
some-kind (passed (plain uri) p n) s = refl

all_kinds : (es : Events) → count (λ κ. true) es ≡ count (λ κ. not (eqb 8 κ)) es
unfolding count
all_kinds [] = refl
all_kinds (e ∷ es) = let h = all_kinds es in let k = some-kind e (size e) in omega arith

-- of events in a file of n bytes
pub record Counted (n : ℕ) (es : Events) : Type 0 where
  pub each : (κ : ℕ) → κ < 8 → count (eqb κ) es ≡ places_of κ es n
  pub all-else : n - count (λ κ. true) es ≡ places_of 8 es n
  pub total : count (eqb 0) es + count (eqb 1) es + count (eqb 2) es + count (eqb 3) es + count (eqb 4) es + count (eqb 5) es + count (eqb 6)
      es + count (eqb 7) es + (n - count (λ κ. true) es) ≡ n

pub all-counted : (n : ℕ) (es : Events) → Separate es → ((k : ℕ) → Covers es k → k < n) → Counted n es
all-counted n es s l =
    let c = counted (λ κ. not (eqb 8 κ)) refl n es s l in let a = all_kinds es in
    let b = places-not (λ k. eqb 8 (kind_at es k)) n in let e = eight-kinds es in
    record { each = λ κ h. counted (eqb κ) (ne_eqb κ 8 (λ z. omega arith)) n es s l; all-else = omega arith; total = omega arith }

-- ---- each place has exactly one kind

pub had_covers : (es : Events) (k κ : ℕ) → Had es k κ → Covers es k
had_covers [] k κ h = absurd h
had_covers (e ∷ es) k κ (inl x) = inl (in_event e k x.0)
had_covers (e ∷ es) k κ (inr y) = inr (had_covers es k κ y)

pub kind-is : (es : Events) (k : ℕ) → IsOf es k (kind_at es k)
unfolding kind_at
kind-is [] k = inr (refl, λ κ h. h)
kind-is (e ∷ es) k = by (has_byte e k) refl (kind-is es k)
  where
    by : (b : Bool) → has_byte e k ≡ b → IsOf es k (kind_at es k) → IsOf (e ∷ es) k (cond b (kind e) (kind_at es k))
    by true x r = inl (inl (rw x tt, refl))
    by false x (inl h) = inl (inr h)
    by false x (inr (z, n)) = inr (z, λ κ h. elim h [ inl y ↦ absurd (rw x at y.0) | inr y ↦ n κ y ])

pub kind-only : (es : Events) → Separate es → (k κ : ℕ) → IsOf es k κ → κ ≡ kind_at es k
unfolding kind_at
kind-only [] s k κ (inl h) = absurd h
kind-only [] s k κ (inr x) = x.0
kind-only (e ∷ es) s k κ w = by (has_byte e k) refl (kind-only es s.1 k κ) w
  where
    by : (b : Bool) → has_byte e k ≡ b → (IsOf es k κ → κ ≡ kind_at es k) → IsOf (e ∷ es) k κ → κ ≡ (cond b (kind e) (kind_at es k))
    by true x h (inl (inl y)) = sym y.1
    by true x h (inl (inr y)) = absurd (s.0 k (in_event e k (rw x tt)) (had_covers es k κ y))
    by true x h (inr (z, n)) = absurd (n (kind e) (inl (rw x tt, refl)))
    by false x h (inl (inl y)) = absurd (rw x at y.0)
    by false x h (inl (inr y)) = h (inl y)
    by false x h (inr (z, n)) = h (inr (z, λ κ' y. n κ' (inr y)))

kind-below : (e : Event Frame Part) → kind e < 9
kind-below (seen file_frame p) = omega arith
kind-below (seen node_frame p) = omega arith
kind-below (seen meta_frame p) = omega arith
kind-below (seen unpack_frame p) = omega arith
kind-below (seen reference_frame p) = omega arith
kind-below (passed (node_row r) p n) = omega arith
kind-below (passed (item_row r) p n) = by (is_hidden r)
  where
    by : (b : Bool) → (cond b 4 3) < 9
    by true = omega arith
    by false = omega arith
kind-below (passed (plain language) p n) = omega arith
kind-below (passed (plain name) p n) = omega arith
kind-below (passed (plain uri) p n) = omega arith

pub one-of_nine : (es : Events) (k : ℕ) → kind_at es k < 9
unfolding kind_at
one-of_nine [] k = omega arith
one-of_nine (e ∷ es) k = by (has_byte e k) (kind-below e) (one-of_nine es k)
  where
    by : (b : Bool) → kind e < 9 → kind_at es k < 9 → (cond b (kind e) (kind_at es k)) < 9
    by true x y = x
    by false x y = y
