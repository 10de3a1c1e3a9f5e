-- Where each part of the metadata ends: after it began, and not past the part that holds it. What is shown of everything that is passed.
-- Assumes nothing.
use mathlib.Core.Path.{◌≡◌, refl, ◌∙◌}
use mathlib.Core.Logic.{◌⊎◌, inl, inr}
use Prim.Native.Nat.{ℕ, ◌+◌, ◌-◌, ◌≤◌, ◌<◌}
use native.Mathlib.Omega.{arith}
use lib.Dec.{T}
use Rattle.cursor.specs.Rows.{Part, node_row, item_row, plain, Plain, language, name, uri, has_inline, inline_size}
use Rattle.machine.proofs.Wp.{Wp, Rule, Free, wp_after, wp_weaken, wp_ret, wp_refuse, wp_if, wp_check, wp_place, wp_skip, wp_many, wp_times}
use Rattle.cursor.proofs.Leaves.{number-on, block_on}
use Rattle.header.specs.Types.{Known, known, unknown, format_of}
use Rattle.metadata.specs.Metadata.{Context, field, contents, item_frame, kind_of, field_of, name_length_of, row_of, universal, declared_format, version, rows_for, item, next_item, meta_items, metadata}
use Rattle.metadata.specs.declared.Made.{Made}
use Rattle.metadata.specs.declared.Label.{Label}
use Rattle.metadata.specs.declared.Field.{Field}
use Rattle.metadata.specs.declared.Field.TheVariants.{Standard, Name}
use Rattle.metadata.specs.declared.Contents.{Contents}
use Rattle.metadata.specs.declared.Contents.TheVariants.{Universal, Versions}

-- what is known of a custom name, by its place and length
abbrev pub OfNames : Type 1
OfNames = ℕ → ℕ → Type 0

-- What is shown of each thing that is passed, in a tree that ends at `top`, in a file of `size` bytes: a node's inline data and an item's
-- data are where their rows say, and an item's custom name was passed, so that what N gives of a name that is passed holds of it.
abbrev Shown : OfNames → (top size : ℕ) → Part → ℕ → ℕ → Type 0
Shown N top size (node_row r) p n = (r.header ≤ r.size) × (r.start + r.size ≤ top) ×
    ((r.reference ≡ 3) ⊎ (r.target + r.extent ≤ size)) × (n ≡ inline_size r) × (T (has_inline r) → r.target ≡ p)
Shown N top size (item_row r) p n = (r.place ≡ p) × (r.size ≡ n) × (p + n ≤ top) × ((r.kind ≡ 0) ⊎ ((r.field + r.name_length ≤ top) × N r.field r.name_length))
Shown N top size (plain x) p n = p + n ≤ top

abbrev OfPlain : OfNames → Plain → ℕ → ℕ → Type 0
OfPlain N name p n = N p n
OfPlain N language p n = Unit {0}
OfPlain N uri p n = Unit {0}

abbrev pub Given : OfNames → Part → ℕ → ℕ → Type 0
Given N (node_row r) p n = Unit {0}
Given N (item_row r) p n = Unit {0}
Given N (plain x) p n = OfPlain N x p n

abbrev pub Inside : OfNames → (top size : ℕ) → Rule Part
Inside N top size = record { asks = Shown N top size; gets = Given N }

-- nothing is known of names
abbrev pub Nothing : OfNames
Nothing p n = Unit {0}

pub inside-free : (top size : ℕ) → Free (Inside Nothing top size)
inside-free top size (node_row r) p n = tt
inside-free top size (item_row r) p n = tt
inside-free top size (plain name) p n = tt
inside-free top size (plain language) p n = tt
inside-free top size (plain uri) p n = tt

-- rows of nodes are made by nodes alone, and no row is taken back
abbrev pub Since : Made → Made → Type 0
Since m m' = (m'.nodes ≡ m.nodes) × (m.items ≤ m'.items)

-- a custom name lies before `end`, and is known
abbrev pub FieldIn : OfNames → ℕ → Field → Type 0
FieldIn N end (Standard k) = Unit {0}
FieldIn N end (Name p n) = (p.0 + n ≤ end) × N p.0 n

named_in : (N : OfNames) (end top : ℕ) (f : Field) → end ≤ top → FieldIn N end f → (kind_of f ≡ 0) ⊎ ((field_of f + name_length_of f ≤ top) × N (field_of f) (name_length_of f))
named_in N end top (Standard k) o h = inl refl
named_in N end top (Name p n) o h = let l = h.0 in inr (omega arith, h.1)

format-on : {U : Rule Part} (p : ℕ) (k : Known) (at : ℕ) → Wp U (declared_format p k) (λ _ q. q ≡ at) at
unfolding declared_format
format-on p (known f) at = wp_ret refl
format-on p unknown at = wp_refuse

-- whatever is to be shown of a row whose data lies before `end`
module _ {U : Rule Part} (x : Context) (l : Label) (end : ℕ) (holds : (v d f p n : ℕ) → p + n ≤ end → U.asks (item_row (row_of l v d f p n)) p n) where
  pub universal-on : (m : Made) (at : ℕ) → Wp U (universal x l end m) (λ m' q. Since m m' × (at < q) × (q ≤ end)) at
  unfolding universal
  universal-on m at =
      wp_place _ at (wp_check _ _ λ t.
      wp_after (block_on _ _ end at) λ n q y. wp_check _ _ λ u.
      wp_place _ q
      (wp_after (number-on _ _ (q + n) q) λ format r z.
      wp_place _ r (wp_skip _ _ (holds 0 0 format r (q + n - r) (omega arith))
      (λ _. wp_ret ((refl, omega arith), omega arith, omega arith)))))

  pub version-on : (before : ℕ) (m : Made) (at : ℕ) → Wp U (version x l end before m) (λ m' q. Since m m' × (at < q) × (q ≤ end)) at
  unfolding version
  version-on before m at =
      wp_place _ at (wp_check _ _ λ t.
      wp_after (number-on _ _ end at) λ k q y.
      wp_after (format-on at (format_of x.types k) q) λ format r z.
      wp_after (block_on _ _ end r) λ n s w.
      wp_place _ s (wp_skip _ _ (holds (m.items + 1 - before) k format s n (omega arith))
      (λ _. wp_ret ((refl, omega arith), omega arith, omega arith))))

module _ (N : OfNames) (top size : ℕ) where
  pub field-on : (end at : ℕ) → end ≤ top → Wp (Inside N top size) (field end) (λ f q. (at < q) × (q ≤ end) × FieldIn N end f) at
  unfolding field
  field-on end at o =
      wp_after (block_on _ _ end at) λ n q x.
      wp_if
      (λ t. wp_after (number-on _ _ end q) λ k r y. wp_ret (omega arith, omega arith, tt))
      (λ t. wp_place _ q (wp_skip _ _ (omega arith) (λ known. wp_ret (omega arith, omega arith, (omega arith, known)))))

  contents-on : (end at : ℕ) → Wp (Inside N top size) (contents end) (λ _ q. (at < q) × (q ≤ end)) at
  unfolding contents
  contents-on end at = wp_after (number-on _ _ end at) λ n q x. wp_if (λ t. wp_ret (omega arith)) (λ t. wp_ret (omega arith))

  pub frame_on : (end at : ℕ) → end ≤ top → Wp (Inside N top size) (item_frame end) (λ i q. (at < q) × (q ≤ end) × FieldIn N end i.field) at
  unfolding item_frame
  frame_on end at o =
      wp_after (field-on end at o) λ f q x.
      wp_after (contents-on end q) λ c r y.
      wp_ret (omega arith, omega arith, x.2)

  module _ (x : Context) (l : Label) (end : ℕ) (o : end ≤ top) (named : FieldIn N end l.field) where
    row_in : (v d f p n : ℕ) → p + n ≤ end → Shown N top size (item_row (row_of l v d f p n)) p n
    row_in v d f p n h = (refl, refl, omega arith, named_in N end top l.field o named)

    pub rows_on : (k : Contents) (m : Made) (at : ℕ) → at ≤ end → Wp (Inside N top size) (rows_for x l end k m) (λ m' q. Since m m' × (at ≤ q) × (q ≤ end)) at
    unfolding rows_for
    rows_on Universal m at h = wp_weaken (universal-on x l end row_in m at) (λ m' q y. (y.0, omega arith, omega arith))
    rows_on (Versions n) m at h =
        wp_times (Since m) n m (λ m' p k i. wp_weaken (version-on x l end row_in m.items m' p)
        (λ m'' q y. ((y.0.0 ∙ i.0, omega arith), omega arith, omega arith))) (refl, omega arith) h

  pub item_on : (x : Context) (node index end : ℕ) → end ≤ top → (m : Made) (at : ℕ) → Wp (Inside N top size) (item x node index end m)
      (λ m' q. Since m m' × (at < q) × (q ≤ end)) at
  unfolding item
  item_on x node index end o m at =
      wp_after (frame_on end at o) λ i q y.
      wp_weaken (rows_on x (record { node = node; item = index; field = i.field }) end o y.2 i.contents m q (omega arith)) (λ m' r z. (z.0, omega arith, omega arith))

  pub items-on : (x : Context) (node end : ℕ) → end ≤ top → (m : Made) (at : ℕ) → at ≤ end → Wp (Inside N top size) (meta_items x node end m) (λ m' q. Since m m' × (q ≡ end)) at
  unfolding meta_items next_item
  items-on x node end o m at h =
      wp_after
      (wp_many (λ k. Since m k.made) _
      (λ k p l i. wp_after (item_on x node k.index end o k.made p) λ m' q y. wp_ret ((y.0.0 ∙ i.0, omega arith), omega arith, omega arith)) (refl, omega arith) h)
      λ k q y. wp_ret (y.0, y.1)

  pub metadata-on : (x : Context) (node end : ℕ) → end ≤ top → (m : Made) (at : ℕ) → Wp (Inside N top size) (metadata x node end m) (λ m' q. Since m m' × (at < q) × (q ≤ end)) at
  unfolding metadata
  metadata-on x node end o m at =
      wp_after (block_on _ _ end at) λ n q y.
      wp_place _ q
      (wp_weaken (items-on x node (q + n) (omega arith) m q (omega arith)) (λ m' r z. (z.0, omega arith, omega arith)))
