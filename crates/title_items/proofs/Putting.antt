-- The bytes of contents and items, step by step as the code puts them.
-- Assumes nothing.
use mathlib.Core.Path.{◌≡◌, refl, sym, ap, ◌∙◌, subst}
use mathlib.Core.Logic.{inl, inr}
use mathlib.Core.Bool.{Bool, true, false, cond}
use mathlib.Core.List.{List, [], ◌∷◌, ◌++◌, append_assoc, append-nil}
use Prim.Native.Nat.{ℕ, suc, ◌+◌, ◌*◌, ◌-◌, ◌≤◌, ◌<◌, min}
use native.Mathlib.Omega.{arith}
use lib.Dec.{eqb, leb}
use lib.ListN.{length, take, drop, length-append}
use borrow.Author.Tests.{eq-eqb, ne_eqb, le-leb, lt-leb, lt-ltb, le-ltb}
use Rattle.room.specs.Parts.{part, joined}
use Rattle.vlq.specs.Vlq.{least, vlq, sized}
use Rattle.cursor.specs.declared.Item.{Item}
use Rattle.rows.specs.Rows.{item_width, item_from, ItemIn}
use Rattle.title_text.specs.Description.{Content, content, titled}
use Rattle.title_text.specs.Text.{further, field_text, item_text, universal_text, version_text, content_text, items_text}
use Rattle.vlq.proofs.Least.{vlq-length}
use Rattle.room.specs.Counts.{Counts, too_many}
use Rattle.room.proofs.Counting.{counts-as, put_two, part_length, lent-part}
use Rattle.vlq.proofs.Sized.{put-block, put-counted}
use Rattle.title_items.specs.Contents.{content_at, contents_from, row_of, row_text}

-- ---- a content with given data

-- string format and data, whose length was counted
pub text-sized : (format : ℕ) (bytes : List ℕ) {o o₁ o₂ : List ℕ} {m n s s₁ s₂ : ℕ} → m ≡ least (λ _. format) → n ≡ min (m + length bytes)
    too_many → Counts o o₁ s (vlq n) s₁ → Counts o₁ o₂ s₁ (joined (vlq format ∷ bytes ∷ [])) s₂
    → Counts o o₂ s (sized (joined (vlq format ∷ bytes ∷ []))) s₂
text-sized format bytes a b p q =
    let v = vlq-length format in
    let x = length-append (vlq format) (bytes ++ []) in
    let y = length-append bytes [] in
    put-counted (joined (vlq format ∷ bytes ∷ [])) (omega arith) p q

module _ (f : List ℕ) {r x : Item} (is : r ≡ x) (bytes : List ℕ) {o o' : List ℕ} {s n : ℕ} where
  pub content-universal : r.version ≡ 0 → Counts o o' s (sized (joined (vlq r.format ∷ bytes ∷ []))) n → Counts o o' s (content_text (titled bytes (content f x))) n
  unfolding content_text universal_text titled content
  content-universal e p = rw (← is, eq-eqb r.version 0 e) p

  pub content-version : (r.version ≡ 0 → ⊥) → Counts o o' s (joined (vlq r.declared ∷ sized bytes ∷ [])) n → Counts o o' s (content_text (titled bytes (content f x))) n
  unfolding content_text version_text titled content
  content-version e p = rw (← is, ne_eqb r.version 0 e) p

-- ---- a content by its row

pub row_inside : {size : ℕ} {r q : Item} → r ≡ q → ItemIn size q → ItemIn size r
row_inside {size} e i = subst (ItemIn size) (sym e) i

-- a title changes the data alone
same-field : (b : Bool) (t : List ℕ) (c : Content) → field_text (cond b (titled t c) c) ≡ field_text c
unfolding titled field_text
same-field true t c = refl
same-field false t c = refl

same_version : (b : Bool) (t : List ℕ) (c : Content) → (cond b (titled t c) c).version ≡ c.version
unfolding titled
same_version true t c = refl
same_version false t c = refl

module _ (f : List ℕ) (row : ℕ) (title us : List ℕ) (k : ℕ) {r : Item} (e : r ≡ item_from us (k * item_width)) where
  content-at : content_at f row title us k ≡ cond (eqb k row) (titled title (content f r)) (content f r)
  unfolding content_at
  content-at = ap (λ q. cond (eqb k row) (titled title (content f q)) (content f q)) (sym e)

  pub at_version : (content_at f row title us k).version ≡ r.version
  unfolding content
  at_version = ap (λ (c : Content). c.version) content-at ∙ same_version (eqb k row) title (content f r)

  -- the field is the file's
  at_field : field_text (content_at f row title us k) ≡ field_text (content f r)
  at_field = ap field_text content-at ∙ same-field (eqb k row) title (content f r)

  module _ {o o' : List ℕ} {s n : ℕ} where
    pub content-title : k ≡ row → Counts o o' s (content_text (titled title (content f (item_from us (k * item_width))))) n → Counts o o' s
        (content_text (content_at f row title us k)) n
    content-title h p = rw (content-at, eq-eqb k row h) (rw (← e) at p)

    pub content-file : (k ≡ row → ⊥) → {end : ℕ} → end ≡ r.place + r.size → Counts o o' s
        (content_text (titled (take (end - r.place) (drop r.place f)) (content f (item_from us (k * item_width))))) n → Counts o o' s
        (content_text (content_at f row title us k)) n
    unfolding titled content
    content-file h {end} l p =
        let q = subst (λ (x : Item). Counts o o' s (content_text (titled (take (end - r.place) (drop r.place f)) (content f x))) n) (sym e) p in
        rw (content-at, ne_eqb k row h) (rw (lent-part f r.place r.size l) at q)

-- ---- the field

module _ (f : List ℕ) (r : Item) {o o₁ o₂ : List ℕ} {s s₁ s₂ : ℕ} where
  pub field-custom : ItemIn (length f) r → r.kind ≡ 1 → Counts o o₁ s (vlq r.name_length) s₁ → Counts o₁ o₂ s₁
      (part f r.field r.name_length) s₂ → Counts o o₂ s (field_text (content f r)) s₂
  unfolding field_text content
  field-custom (a, inl z) e p q = absurd (omega arith)
  field-custom (a, inr l) e p q = rw (eq-eqb r.kind 1 e) (put-block (part f r.field r.name_length) r.name_length (part_length f r.field r.name_length l) p q)

  pub field-standard : (r.kind ≡ 1 → ⊥) → Counts o o₁ s (vlq 0) s₁ → Counts o₁ o₂ s₁ (vlq r.field) s₂ → Counts o o₂ s (field_text (content f r)) s₂
  unfolding field_text content
  field-standard e p q = rw (ne_eqb r.kind 1 e) (put_two (vlq 0) (vlq r.field) p q)

-- ---- further versions

module _ (f : List ℕ) (row : ℕ) (title us : List ℕ) where
  contents-on : (k end : ℕ) → k < end → contents_from f row title us k (end - k) ≡ content_at f row title us k ∷ contents_from f row title us (k + 1) (end - (k + 1))
  unfolding contents_from
  contents-on k end l = let e : end - k ≡ suc (end - (k + 1)) = omega arith in rw e refl

  contents-end : (k end : ℕ) → end ≤ k → contents_from f row title us k (end - k) ≡ []
  unfolding contents_from
  contents-end k end l = let e : end - k ≡ 0 = omega arith in rw e refl

  further_cons : (k : ℕ) (cs : List Content) {r : Item} → r ≡ item_from us (k * item_width) → 1 < r.version → further (content_at f row title us k ∷ cs) ≡ suc (further cs)
  unfolding further
  further_cons k cs e l = rw (lt-ltb 1 (content_at f row title us k).version (rw (at_version f row title us k e) l)) refl

  further-no : (k : ℕ) (cs : List Content) {r : Item} → r ≡ item_from us (k * item_width) → r.version ≤ 1 → further (content_at f row title us k ∷ cs) ≡ 0
  unfolding further
  further-no k cs e l = rw (le-ltb 1 (content_at f row title us k).version (rw (at_version f row title us k e) l)) refl

  further-none : further [] ≡ 0
  unfolding further
  further-none = refl

-- rows `first` to k are further versions
pub record Counting (us : List ℕ) (first end k : ℕ) : Type 0 where
  pub within : (first ≤ k) × (k ≤ end)
  pub same : (f : List ℕ) (row : ℕ) (title : List ℕ) → further (contents_from f row title us first (end - first)) ≡ k - first + further (contents_from f row title us k (end - k))

pub counting_start : (us : List ℕ) (first end : ℕ) → first ≤ end → Counting us first end first
counting_start us first end l = record { within = (omega arith, l); same = λ f row title. omega arith }

pub counting_on : {us : List ℕ} {first end k : ℕ} → k < end → {r : Item} → r ≡ item_from us (k * item_width) → 1 < r.version → Counting us
    first end k → Counting us first end (k + 1)
counting_on {us} {first} {end} {k} l e v c =
    let w = c.within in
    record {
      within = (omega arith, omega arith);
      same = λ f row title. omega (
        arith,
        c.same f row title,
        ap further (contents-on f row title us k end l),
        further_cons f row title us k
            (contents_from f row title us (k + 1) (end - (k + 1))) e v,
      );
    }

pub counting_stop : {us : List ℕ} {first end k : ℕ} → k < end → {r : Item} → r ≡ item_from us (k * item_width) → r.version ≤ 1 → Counting us
    first end k → (f : List ℕ) (row : ℕ) (title : List ℕ) → k - first ≡ further (contents_from f row title us first (end - first))
counting_stop {us} {first} {end} {k} l e v c f row title = omega (
  arith,
  c.same f row title,
  ap further (contents-on f row title us k end l),
  further-no f row title us k
      (contents_from f row title us (k + 1) (end - (k + 1))) e v,
)

pub counting_end : {us : List ℕ} {first end k : ℕ} → end ≤ k → Counting us first end k → (f : List ℕ) (row : ℕ) (title : List ℕ) → k - first
    ≡ further (contents_from f row title us first (end - first))
counting_end {us} {first} {end} {k} l c f row title = omega (arith, c.same f row title, ap further (contents-end f row title us k end l), further-none f row title us)

-- ---- an item

module _ (f : List ℕ) (row : ℕ) (title us : List ℕ) (k : ℕ) {r : Item} (e : r ≡ item_from us (k * item_width)) where
  module _ (cs : List Content) {o o₁ o₂ : List ℕ} {s s₁ s₂ : ℕ} (p : Counts o o₁ s (field_text (content f r)) s₁) where
    pub start-universal : r.version ≡ 0 → Counts o₁ o₂ s₁ (vlq 0) s₂ → Counts o o₂ s (item_text (content_at f row title us k) (suc (further cs))) s₂
    unfolding item_text
    start-universal z q = rw (eq-eqb (content_at f row title us k).version 0 (at_version f row title us k e ∙ z), at_field f row title us k e)
        (put_two (field_text (content f r)) (vlq 0) p q)

    pub start-versions : (r.version ≡ 0 → ⊥) → {n : ℕ} → n ≡ further cs → Counts o₁ o₂ s₁ (vlq (1 + n)) s₂ → Counts o o₂ s
        (item_text (content_at f row title us k) (suc (further cs))) s₂
    unfolding item_text
    start-versions z {n} h q =
        let m : 1 + n ≡ suc (further cs) = omega arith in
        rw (ne_eqb (content_at f row title us k).version 0 (λ w. z (sym (at_version f row title us k e) ∙ w)), at_field f row title us k e)
        (put_two (field_text (content f r)) (vlq (suc (further cs))) p (counts-as (ap vlq m) q))

  abbrev behind : ℕ → List Content
  behind end = contents_from f row title us (k + 1) (end - (k + 1))

  module _ (end : ℕ) {o o₂ : List ℕ} {s s₂ : ℕ} where
    pub row_first : r.version ≤ 1 → {o₁ : List ℕ} {s₁ : ℕ} → Counts o o₁ s (item_text (content_at f row title us k) (suc (further (behind end))))
        s₁ → Counts o₁ o₂ s₁ (content_text (content_at f row title us k)) s₂ → Counts o o₂ s (row_text f row title us k end) s₂
    unfolding row_text row_of
    row_first l p q = rw (le-leb (content_at f row title us k).version 1 (rw (at_version f row title us k e) l))
        (put_two (item_text (content_at f row title us k) (suc (further (behind end)))) (content_text (content_at f row title us k)) p q)

    pub row-further : 1 < r.version → Counts o o₂ s (content_text (content_at f row title us k)) s₂ → Counts o o₂ s (row_text f row title us k end) s₂
    unfolding row_text row_of
    row-further l p = rw (lt-leb (content_at f row title us k).version 1 (rw (at_version f row title us k e) l))
        (counts-as (sym (append-nil (content_text (content_at f row title us k)))) p)

module _ (f : List ℕ) (row : ℕ) (title us : List ℕ) (end : ℕ) where
  rows-cons : (c : Content) (cs : List Content) → items_text (c ∷ cs) ≡ row_of c cs ++ items_text cs
  unfolding items_text row_of
  rows-cons c cs =
      let a : List ℕ = cond (leb c.version 1) (item_text c (suc (further cs))) [] in
      sym (append_assoc a (content_text c ++ []) (items_text cs) ∙ rw (append_assoc (content_text c) [] (items_text cs), append-nil (items_text cs)) refl)

  rows_none : items_text [] ≡ []
  unfolding items_text
  rows_none = refl

  pub rows_on : (k : ℕ) → k < end → items_text (contents_from f row title us k (end - k)) ≡ row_text f row title us k end ++ items_text
      (contents_from f row title us (k + 1) (end - (k + 1)))
  unfolding row_text
  rows_on k l = ap items_text (contents-on f row title us k end l) ∙ rows-cons (content_at f row title us k) (contents_from f row title us (k + 1) (end - (k + 1)))

  pub rows_end : (k : ℕ) → end ≤ k → items_text (contents_from f row title us k (end - k)) ≡ []
  rows_end k l = ap items_text (contents-end f row title us k end l) ∙ rows_none
