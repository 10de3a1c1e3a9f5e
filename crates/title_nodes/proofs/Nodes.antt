-- The bytes of a node, as the code puts them.
-- Assumes nothing.
use mathlib.Core.Path.{◌≡◌, refl, sym, ap, ◌∙◌}
use mathlib.Core.Bool.{Bool, true, false, cond}
use mathlib.Core.List.{List, [], ◌∷◌}
use Prim.Native.Nat.{ℕ, ◌+◌, ◌≤◌, ◌<◌, min}
use native.Mathlib.Omega.{arith}
use native.Mathlib.Decide.{dec_lt}
use lib.Dec.{eqb}
use lib.ListN.{length}
use borrow.Author.Tests.{eq-eqb, ne_eqb}
use Rattle.room.specs.Parts.{part}
use Rattle.vlq.specs.Vlq.{least, vlq, sized}
use Rattle.cursor.specs.declared.Node.{Node}
use Rattle.vlq.proofs.Least.{vlq-length}
use Rattle.room.proofs.Lies.{joined_length}
use Rattle.title_text.specs.Description.{Content, Shape, shape}
use Rattle.title_text.specs.Text.{reference_text, items_text, header_size, length_bytes, header_of, framed, own_text, node_text}
use Rattle.title_text.proofs.Sizes.{framed-length, framed-most}
use Rattle.title_text.proofs.Counted.{counts-number, counts-part, counts-sized}
use Rattle.room.specs.Counts.{Counts, too_many}
use Rattle.room.proofs.Counting.{counts-as, counts-then, put_two, part_length}
use Rattle.vlq.proofs.Sized.{put-block}
use Rattle.title_nodes.specs.Passes.{size_stop, body_size, rest_text, Framed}
use Rattle.title_nodes.specs.declared.Frame.{Frame}
use Rattle.title_nodes.proofs.Lengths.{few}

-- ---- what follows the header

body-most : (r : Node) → body_size r ≤ r.extent
body-most r = by (eqb r.contained 0)
  where
    by : (b : Bool) → cond b r.extent 0 ≤ r.extent
    by true = omega arith
    by false = omega arith

pub body-inside : (f : List ℕ) (r : Node) → r.target + r.extent ≤ length f → {size : ℕ} → size ≡ body_size r → r.target + size ≤ length f
body-inside f r l e = omega (arith, body-most r)

body_is : (f : List ℕ) (r : Node) → part f r.target (body_size r) ≡ (shape f r).body
unfolding shape
body_is f r = by (eqb r.contained 0)
  where
    by : (b : Bool) → part f r.target (cond b r.extent 0) ≡ cond b (part f r.target r.extent) []
    by true = refl
    by false = refl

module _ (f : List ℕ) (reference place size : ℕ) {o o₁ : List ℕ} {s s₁ : ℕ} (p : Counts o o₁ s (vlq reference) s₁) where
  pub reference-uri : place + size ≤ length f → reference ≡ 4 → {o₂ o₃ : List ℕ} {s₂ s₃ : ℕ} → Counts o₁ o₂ s₁ (vlq size) s₂ → Counts o₂ o₃ s₂
      (part f place size) s₃ → Counts o o₃ s (reference_text reference (part f place size)) s₃
  reference-uri inside uri p₂ p₃ =
      rw (eq-eqb reference 4 uri) (put_two (vlq reference) (sized (part f place size)) p (put-block (part f place size) size (part_length f place size inside) p₂ p₃))

  pub reference-inline : (reference ≡ 4 → ⊥) → {o₂ : List ℕ} {s₂ : ℕ} → Counts o₁ o₂ s₁ (part f place size) s₂ → Counts o o₂ s (reference_text reference (part f place size)) s₂
  reference-inline other p₂ = rw (ne_eqb reference 4 other) (put_two (vlq reference) (part f place size) p p₂)

pub own_put : (f : List ℕ) (r : Node) {size : ℕ} → size ≡ body_size r → {o o' : List ℕ} {s n : ℕ} → Counts o o' s
    (reference_text r.reference (part f r.target size)) n → Counts o o' s (own_text (shape f r)) n
unfolding own_text shape
own_put f r e p = counts-as (ap (reference_text r.reference) (ap (part f r.target) e ∙ body_is f r)) p

-- ---- what is only counted

-- a number's bytes, from the first on
first-number : (v : ℕ) {n : ℕ} → n ≡ least (λ _. v) → Counts [] [] 0 (vlq v) n
first-number v e = counts-number v e (omega (arith, few v e))

module _ (f : List ℕ) (reference place size : ℕ) (inside : place + size ≤ length f) {a : ℕ} (ea : a ≡ least (λ _. reference)) where
  pub uri_counted : reference ≡ 4 → {b c d : ℕ} → b ≡ least (λ _. size) → c ≡ min (a + b) too_many → d ≡ min (c + size) too_many → Counts [] []
      0 (reference_text reference (part f place size)) d
  uri_counted uri eb ec ed = reference-uri f reference place size (first-number reference ea) inside uri (counts-number size eb ec) (counts-part f place size inside ed)

  pub inline_counted : (reference ≡ 4 → ⊥) → {c : ℕ} → c ≡ min (a + size) too_many → Counts [] [] 0 (reference_text reference (part f place size)) c
  inline_counted other ec = reference-inline f reference place size (first-number reference ea) other (counts-part f place size inside ec)

pub unpackers-counted : (s : List ℕ) {n a b : ℕ} → Counts [] [] 0 s n → a ≡ least (λ _. n) → b ≡ min (a + n) too_many → Counts [] [] 0 (sized s) b
unpackers-counted s {n} p ea eb = counts-sized s (omega (arith, p.after)) ea (omega (arith, few n ea)) eb

-- ---- its two lengths

-- a size that was measured, stopped
pub stopped_length : {z z₁ : List ℕ} {t : List ℕ} {n m : ℕ} → Counts z z₁ 0 t n → m ≡ min n size_stop → m ≡ min (length t) size_stop
stopped_length p e = omega (arith, p.after)

-- a block's bytes
sized-length : (s : List ℕ) → length (sized s) ≡ least (λ _. length s) + length s
unfolding sized
sized-length s = omega (arith, joined_length (vlq (length s) ∷ s ∷ []), vlq-length (length s))

module _ (s : Shape) (cs : List Content) (n : ℕ) where
  abbrev own : ℕ
  own = length (own_text s)

  abbrev texts : ℕ
  texts = length (items_text cs)

  abbrev packed : ℕ
  packed = length (sized s.unpackers)

  -- what a node's header has but for the two lengths
  abbrev fixed : ℕ
  fixed = length (vlq s.contained) + length (rest_text s cs)

  rest-length : length (rest_text s cs) ≡ least (λ _. texts) + texts + packed
  rest-length = omega (arith, joined_length (sized (items_text cs) ∷ sized s.unpackers ∷ []), sized-length (items_text cs))

  node-most : length (rest_text s cs) + own ≤ length (node_text s cs n)
  unfolding node_text framed
  node-most =
      let c : ℕ = own + n in let h : ℕ = header_of s.contained (rest_text s cs) c in
      omega (arith, joined_length (vlq (h + c) ∷ vlq s.contained ∷ vlq h ∷ rest_text s cs ∷ own_text s ∷ []))

  pub texts-within : texts ≤ length (node_text s cs n)
  texts-within = omega (arith, node-most, rest-length)

  header-least : (k a : ℕ) → k ≤ header_size k a
  unfolding header_size
  header-least k a = omega arith

  -- each of the three measured, and stopped where it is too large
  module _ {m : ℕ} (em : m ≡ min texts size_stop) {u w : ℕ} (eu : u ≡ min packed size_stop) (ew : w ≡ min own size_stop) {a b : ℕ}
      (ea : a ≡ least (λ _. s.contained)) (eb : b ≡ least (λ _. m)) {h : ℕ}
      (eh : h ≡ header_size (a + b + m + u) (length_bytes (a + b + m + u) (w + n))) {size : ℕ} (es : size ≡ min (h + (w + n)) size_stop) where
    abbrev k : ℕ
    k = a + b + m + u

    exact : texts < size_stop → packed < size_stop → own < size_stop → Framed s cs n (record { header = h; size = size })
    unfolding header_of node_text
    exact l₁ l₂ l₃ =
        let i : m ≡ texts = omega arith in
        let b : least (λ _. m) ≡ least (λ _. texts) = ap (λ v. least (λ _. v)) i in
        let c : w + n ≡ own + n = omega arith in
        let d : k ≡ fixed = omega (arith, vlq-length s.contained, rest-length) in
        let e : h ≡ header_of s.contained (rest_text s cs) (own + n) = eh ∙ rw (d, c) refl in
        let t : header_of s.contained (rest_text s cs) (own + n) + (own + n) ≤ length (node_text s cs n) + n = framed-most s.contained (rest_text s cs) (own_text s) n in
        let g : header_of s.contained (rest_text s cs) (own + n) + (own + n) < size_stop → length (node_text s cs n) + n ≡ header_of s.contained
        (rest_text s cs) (own + n) + (own + n) = framed-length s.contained (rest_text s cs) (own_text s) n in
        record {
          stops = elim (dec_lt (header_of s.contained (rest_text s cs) (own + n) + (own + n)) size_stop) [
            | yes l ↦ let i = g l in omega arith
            | no l ↦ omega arith
          ];
          size = λ l. omega arith;
          header = λ l. e;
        }

    large : size_stop ≤ length (rest_text s cs) + own → size_stop ≤ k + w → Framed s cs n (record { header = h; size = size })
    large l i =
        let t = node-most in let j = header-least k (length_bytes k (w + n)) in
        record { stops = omega arith; size = λ z. absurd (omega arith); header = λ z. absurd (omega arith) }

    pub framed-by : Framed s cs n (record { header = h; size = size })
    framed-by = elim (dec_lt texts size_stop) [
      | no l ↦ large (omega (arith, rest-length)) (omega arith)
      | yes l₁ ↦ elim (dec_lt packed size_stop) [
        | no l ↦ large (omega (arith, rest-length)) (omega arith)
        | yes l₂ ↦ elim (dec_lt own size_stop) [
          | no l ↦ large (omega arith) (omega arith)
          | yes l₃ ↦ exact l₁ l₂ l₃
        ]
      ]
    ]

-- ---- the whole, but for the nodes in it

module _ (s : Shape) (cs : List Content) (n : ℕ) {r : Frame} (w : Framed s cs n r) (small : length (node_text s cs n) + n < size_stop) where
  within : r.size < size_stop
  within = omega (arith, w.stops)

  pub node-put : {m : ℕ} → m ≡ length (items_text cs) → {o o₁ o₂ o₃ o₄ o₅ o₆ o₇ : List ℕ} {t t₁ t₂ t₃ t₄ t₅ t₆ t₇ : ℕ} → Counts o o₁ t
      (vlq r.size) t₁ → Counts o₁ o₂ t₁ (vlq s.contained) t₂ → Counts o₂ o₃ t₂ (vlq r.header) t₃
      → Counts o₃ o₄ t₃ (vlq m) t₄ → Counts o₄ o₅ t₄ (items_text cs) t₅ → Counts o₅ o₆ t₅ (sized s.unpackers) t₆ → Counts o₆ o₇ t₆ (own_text s)
      t₇ → Counts o o₇ t (node_text s cs n) t₇
  unfolding node_text framed
  node-put {m} e p₁ p₂ p₃ p₄ p₅ p₆ p₇ =
      counts-then (counts-as (ap vlq (w.size within)) p₁)
      (counts-then p₂
      (counts-then (counts-as (ap vlq (w.header within)) p₃)
      (put_two (rest_text s cs) (own_text s) (put_two (sized (items_text cs)) (sized s.unpackers) (put-block (items_text cs) m (sym e) p₄ p₅) p₆) p₇)))
