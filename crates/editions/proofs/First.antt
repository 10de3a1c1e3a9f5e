-- The first line, as the code reads it.
-- Assumes nothing.
use mathlib.Core.Path.{◌≡◌, refl, sym, ap, ◌∙◌}
use mathlib.Core.Bool.{Bool, true, false, ◌&&◌, ◌||◌}
use mathlib.Core.List.{List, [], ◌∷◌, ◌++◌}
use Prim.Native.Nat.{ℕ, ◌+◌, ◌≤◌, ◌<◌}
use native.Mathlib.Omega.{arith}
use lib.Dec.{eqb}
use lib.ListN.{length, get_or, take, drop}
use lib.Seq.{slice}
use Rattle.std.proofs.Common.{Some, None}
use Rattle.std.specs.Cmp.Lexicographic.{pointwise}
use Rattle.std.proofs.lemmas.List.{append_assoc}
use Rattle.std.proofs.lemmas.Bool.{false≢true}
use Rattle.std.proofs.lemmas.Bool.Decides.{Decides-eqb}
use Rattle.std.proofs.lemmas.Slice.Eq.{starts_is}
use Rattle.room.specs.Decimal.{decimal, digits}
use Rattle.text.specs.Text.{version_text}
use Rattle.editions.specs.Sheets.{parted, fields, field, same, value, is_number, is_version, fits, word, is_first}
use Rattle.editions.specs.Reads.{number_of, fields_at, FieldIs, NoField, NumberIs}
use Rattle.editions.specs.Told.{LeadIs}
use Rattle.editions.proofs.Bytes.{piece}
use Rattle.editions.proofs.Back.{same-is}
use Rattle.editions.proofs.Numbers.{same_self}
use Rattle.editions.proofs.Places.{Next}
use Rattle.editions.proofs.Fields.{and-false, and-true, prefix_no, field_is, no_other, fails, fits_on, fits_more, fits_last, number-none, number-some}

-- ---- a version

same-long : (t v : List ℕ) → (length t ≡ length v → ⊥) → same t v ≡ false
same-long t v n = by (same t v) refl
  where
    by : (b : Bool) → same t v ≡ b → b ≡ false
    by false e = refl
    by true e = absurd (n (ap length (same-is t v e)))

-- the three
abbrev one-zero : List ℕ
one-zero = 0x31 ∷ 0x2E ∷ 0x30 ∷ 0x30 ∷ []

abbrev one-one : List ℕ
one-one = 0x31 ∷ 0x2E ∷ 0x30 ∷ 0x31 ∷ []

abbrev two-zero : List ℕ
two-zero = 0x32 ∷ 0x2E ∷ 0x30 ∷ 0x30 ∷ []

versions : (t : List ℕ) → is_version t ≡ (same t one-zero || same t one-one || same t two-zero)
unfolding is_version version_text decimal digits
versions t = refl

-- two texts, byte by byte
points-same : (t v : List ℕ) → pointwise eqb t v ≡ same t v
unfolding same
points-same [] [] = refl
points-same [] (y ∷ v) = refl
points-same (x ∷ t) [] = refl
points-same (x ∷ t) (y ∷ v) = ap (λ b. eqb x y && b) (points-same t v)

-- the tests of a version, one after the other
module _ (t : List ℕ) {a : Bool} {u : List ℕ} (e : a ≡ pointwise eqb t u) (ue : u ≡ one-zero) where
  at_first : same t one-zero ≡ a
  at_first = sym (points-same t one-zero) ∙ ap (pointwise eqb t) (sym ue) ∙ sym e

  pub version-one : a ≡ true → true ≡ is_version t
  version-one h = sym (versions t ∙ rw (at_first, h) refl)

  module _ (n : a ≡ false) {b : Bool} {v : List ℕ} (f : b ≡ pointwise eqb t v) (ve : v ≡ one-one) where
    at_next : same t one-one ≡ b
    at_next = sym (points-same t one-one) ∙ ap (pointwise eqb t) (sym ve) ∙ sym f

    pub version-next : b ≡ true → true ≡ is_version t
    version-next h = sym (versions t ∙ rw (at_first, n, at_next, h) refl)

    pub version-last : b ≡ false → {d : Bool} {w : List ℕ} → d ≡ pointwise eqb t w → w ≡ two-zero → d ≡ is_version t
    version-last m {d} {w} g we =
        let k : same t two-zero ≡ d = sym (points-same t two-zero) ∙ ap (pointwise eqb t) (sym we) ∙ sym g in
        sym (versions t ∙ rw (at_first, n, at_next, m, k) refl)

-- ---- the word

-- what a line begins with that begins with an edition's word and a tab
abbrev pub begun : Bool → List ℕ
begun e = word e ++ 0x09 ∷ []

module _ (l : List ℕ) where
  begins : (e : Bool) {b : Bool} → b ≡ pointwise eqb (begun e) (take (length (begun e)) l) → (b ≡ true → l ≡ begun e ++ drop (length (begun e)) l) × ((rest : List ℕ) → l ≡ begun e ++ rest → b ≡ true)
  begins e {b} = starts_is Decides-eqb l (begun e) b

  pub word-here : (e : Bool) {b : Bool} → b ≡ pointwise eqb (begun e) (take (length (begun e)) l) → b ≡ true → FieldIs l 0 (word e) (length (begun e))
  word-here e w t = by e ((begins e w).0 t)
    where
      by : (e : Bool) → l ≡ begun e ++ drop (length (begun e)) l → FieldIs l 0 (word e) (length (begun e))
      by false h = record { inside = let a = ap length h in omega arith; next = ap (parted 0x09) h ∙ piece 0x09 (word false) (drop 4 l) (refl, (refl, (refl, tt))) }
      by true h = record { inside = let a = ap length h in omega arith; next = ap (parted 0x09) h ∙ piece 0x09 (word true) (drop 5 l) (refl, (refl, (refl, (refl, tt)))) }

  word_no : (e : Bool) {b : Bool} → b ≡ pointwise eqb (begun e) (take (length (begun e)) l) → b ≡ false → NoField (same (word e)) l 0
  word_no e w f q ps = prefix_no (word e) l (λ t h. false≢true (sym f ∙ (begins e w).1 t (h ∙ sym (append_assoc (word e) (0x09 ∷ []) t)))) q ps (fields_at l 0) refl

  pub word-none : {a b : Bool} → a ≡ pointwise eqb (begun false) (take 4 l) → b ≡ pointwise eqb (begun true) (take 5 l) → a ≡ false → b ≡ false → (e : Bool) → NoField (same (word e)) l 0
  word-none v w f g false = word_no false v f
  word-none v w f g true = word_no true w g

-- ---- version, length, counts

abbrev tests : List (List ℕ → Bool)
tests = is_version ∷ is_number ∷ is_number ∷ is_number ∷ []

first-tests : (e : Bool) (l : List ℕ) → is_first e l ≡ fits (same (word e) ∷ tests) (fields_at l 0)
unfolding is_first fields
first-tests e l = refl

at_field : (i : ℕ) (l : List ℕ) → field i l ≡ get_or (fields_at l 0) i []
unfolding field fields
at_field i l = refl

-- no edition's word
pub lead-none : (l : List ℕ) → ((e : Bool) → NoField (same (word e)) l 0) → (e : Bool) → is_first e l ≡ false
lead-none l n e = first-tests e l ∙ n e _ _

module _ (l : List ℕ) (second : Bool) (at : ℕ) (w : FieldIs l 0 (word second) at) where
  first_by : (e : Bool) → is_first e l ≡ (same (word e) (word second) && fits tests (fields_at l at))
  unfolding fits
  first_by e = first-tests e l ∙ ap (fits (same (word e) ∷ tests)) w.next

  lead-no : fits tests (fields_at l at) ≡ false → (e : Bool) → is_first e l ≡ false
  lead-no h e = first_by e ∙ rw h (and-false (same (word e) (word second)))

  module _ {end : ℕ} (k : Next 0x09 l at end) where
    pub lead-short : length l ≤ end → (e : Bool) → is_first e l ≡ false
    lead-short h = lead-no (no_other l at k is_version h _ _)

    module _ (h : end < length l) {v : Bool} (ve : v ≡ is_version (slice at end l)) where
      pub lead-version : v ≡ false → (e : Bool) → is_first e l ≡ false
      lead-version f = lead-no (fails l at k is_version h (sym ve ∙ f) _ _)

      module _ (vt : v ≡ true) where
        after-version : fits tests (fields_at l at) ≡ fits (is_number ∷ is_number ∷ is_number ∷ []) (fields_at l (end + 1))
        after-version = fits_on l at (field_is l at k h) is_version (is_number ∷ is_number ∷ is_number ∷ []) (sym ve ∙ vt)

        pub lead-length : NoField is_number l (end + 1) → (e : Bool) → is_first e l ≡ false
        lead-length n = lead-no (after-version ∙ n _ _)

        module _ {s b : ℕ} (n₁ : NumberIs l (end + 1) s b) where
          after-length : fits tests (fields_at l at) ≡ fits (is_number ∷ is_number ∷ []) (fields_at l b)
          after-length = after-version ∙ fits_on l (end + 1) n₁.field is_number (is_number ∷ is_number ∷ []) n₁.spelled

          pub lead-nodes : NoField is_number l b → (e : Bool) → is_first e l ≡ false
          lead-nodes n = lead-no (after-length ∙ n _ _)

          module _ {nodes c : ℕ} (n₂ : NumberIs l b nodes c) {last : ℕ} (k₂ : Next 0x09 l c last) where
            after-nodes : fits tests (fields_at l at) ≡ fits (is_number ∷ []) (fields_at l c)
            after-nodes = after-length ∙ fits_on l b n₂.field is_number (is_number ∷ []) n₂.spelled

            pub lead-more : last < length l → (e : Bool) → is_first e l ≡ false
            lead-more m = lead-no (after-nodes ∙ fits_more l c k₂ is_number m)

            module _ (m : length l ≤ last) where
              pub lead-items : None ≡ number_of (slice c last l) → (e : Bool) → is_first e l ≡ false
              lead-items z = lead-no (after-nodes ∙ fits_last l c k₂ is_number m ∙ number-none (slice c last l) z)

              module _ {items : ℕ} (some : Some items ≡ number_of (slice c last l)) where
                all_fit : fits tests (fields_at l at) ≡ true
                all_fit = after-nodes ∙ fits_last l c k₂ is_number m ∙ (number-some (slice c last l) some).0

                -- the fields
                all-fields : fields_at l 0 ≡ word second ∷ slice at end l ∷ n₁.text ∷ n₂.text ∷ slice c last l ∷ []
                all-fields = w.next ∙ ap (λ ts. word second ∷ ts)
                    (k.more h ∙ ap (λ ts. slice at end l ∷ ts)
                    (n₁.field.next ∙ ap (λ ts. n₁.text ∷ ts) (n₂.field.next ∙ ap (λ ts. n₂.text ∷ ts) (k₂.last m))))

                pub lead_is : LeadIs l second nodes items
                lead_is = record {
                  right = first_by second ∙ rw (same_self (word second), all_fit) refl;
                  says = first_by true ∙ rw all_fit (and-true (same (word true) (word second))) ∙ edition second;
                  nodes-are = n₂.says ∙ ap (value 0) (sym (at_field 3 l ∙ ap (λ ts. get_or ts 3 []) all-fields));
                  items-are = (number-some (slice c last l) some).1 ∙ ap (value 0) (sym (at_field 4 l ∙ ap (λ ts. get_or ts 4 []) all-fields));
                }
                  where
                    edition : (e : Bool) → same (word true) (word e) ≡ e
                    edition true = same_self (word true)
                    edition false = same-long (word true) (word false) (λ z. omega arith)
