-- What accepted metadata says is made of entries: the other half of reading it back. A content may be said with other data.
-- Assumes nothing.
use mathlib.Core.Path.{◌≡◌, refl, sym, ap, ◌∙◌, subst}
use mathlib.Core.Logic.{◌⊎◌, inl, inr}
use mathlib.Core.Bool.{false, cond}
use mathlib.Core.List.{List, [], ◌∷◌, ◌++◌, append_assoc, append-nil}
use Prim.Native.Nat.{ℕ, zero, suc, ◌+◌, ◌-◌, ◌^◌, ◌≤◌, ◌<◌}
use native.Mathlib.Omega.{arith}
use lib.Dec.{eqb}
use lib.ListN.{length, length-append}
use borrow.Author.Tests.{ltb-true, eqb-true, eqb-false}
use Rattle.machine.specs.Machine.{ok, run, times}
use Rattle.cursor.specs.Rows.{meta_frame}
use Rattle.cursor.specs.Leaves.{number, block}
use Rattle.room.specs.Parts.{part, joined}
use Rattle.vlq.specs.Vlq.{vlq, sized}
use Rattle.cursor.specs.declared.FilePlace.{FilePlace}
use Rattle.cursor.specs.declared.Item.{Item}
use Rattle.machine.proofs.Wp.{Wp, at_end, wp_after, wp_ret, wp_if, wp_place, wp_skip}
use Rattle.cursor.proofs.Leaves.{Any, any_free, number-on, block_on, number-inside, block_inside}
use Rattle.cursor.proofs.Quiet.{number-quiet, block-quiet}
use Rattle.room.proofs.Counting.{part_length}
use Rattle.cursor.proofs.Runs.{nothing, nothing-quiet, Holds, post_ran}
use Rattle.cursor.proofs.Post.{Post, post_if, post_after, post_step, post_weaken, post_ret, post_refuse, post_check, post_place, post_skip, post_many}
use Rattle.header.specs.Types.{Declared, Known, known, unknown, format_of}
use Rattle.metadata.specs.Metadata.{Context, kind_of, field_of, name_length_of, row_of, field, contents, item_frame, universal, declared_format, version, rows_for, item, next_item, meta_items, metadata}
use Rattle.metadata.specs.declared.Made.{Made}
use Rattle.metadata.specs.declared.Label.{Label}
use Rattle.metadata.specs.declared.Field.{Field}
use Rattle.metadata.specs.declared.Field.TheVariants.{Standard, Name}
use Rattle.metadata.specs.declared.Contents.{Contents}
use Rattle.metadata.specs.declared.Contents.TheVariants as contents
use Rattle.metadata.proofs.Quiet.{frame-quiet}
use Rattle.metadata.proofs.Ends.{Nothing, inside-free, items-on}
use Rattle.title_text.specs.Description.{Content, content}
use Rattle.title_text.specs.Text.{field_text, universal_text, version_text, items_text}
use Rattle.title_text.proofs.Covers.{Covers, covers-none, covers-on, covers-as, covers-to, covers-last, covers-part, number-covers, block-covers, sized-covers}
use Rattle.title_text.proofs.Collecting.{Collected, collect_as, collect-ignores, with_items, post_known}
use Rattle.title_text.proofs.Items.{SameItem, Versions, version_texts, plus_items, FieldOk, Entry, one, several, entry_text, Entries, none, more, entry_texts, flat, items-text}

-- ---- what is said of a row: all but the data is what the file has

pub record Like (c d : Content) : Type 0 where
  pub node : c.node ≡ d.node
  pub item : c.item ≡ d.item
  pub kind : c.kind ≡ d.kind
  pub field : c.field ≡ d.field
  pub name : c.name ≡ d.name
  pub version : c.version ≡ d.version
  pub declared : c.declared ≡ d.declared
  pub format : c.format ≡ d.format

abbrev pub Keeps : List ℕ → (ℕ → Item → Content) → Type 0
Keeps f say = (k : ℕ) (r : Item) → Like (content f r) (say k r)

-- each content is said with the data that its row has; then the bytes that were read hold what is said
abbrev pub Plain : List ℕ → (ℕ → Item → Content) → Type 0
Plain f say = (k : ℕ) (r : Item) → part f r.place r.size ≡ (say k r).bytes

pub plainly : (f : List ℕ) → Plain f (λ k r. content f r)
unfolding content
plainly f k r = refl

-- a content of the labelled item, whatever its version
abbrev base : List ℕ → Label → Content
base f l = content f (row_of l 0 0 0 0 0)

module _ (f : List ℕ) (l : Label) (v t fm p n : ℕ) {c : Content} (h : Like (content f (row_of l v t fm p n)) c) where
  like_same : SameItem (base f l) c
  unfolding content
  like_same = record { node = h.node; item = h.item; kind = h.kind; field = h.field; name = h.name }

  like_version : v ≡ c.version
  unfolding content
  like_version = h.version

  like_declared : t ≡ c.declared
  unfolding content
  like_declared = h.declared

  like_format : fm ≡ c.format
  unfolding content
  like_format = h.format

-- ---- an item's field and the number of its versions

-- a standard number that four bytes hold, or a name in the file that is not empty
abbrev pub FieldIs : List ℕ → Field → Type 0
FieldIs f (Standard k) = k < 2 ^ 28
FieldIs f (Name p n) = (0 < n) × (p.0 + n ≤ length f)

abbrev Some : Contents → Type 0
Some contents.Universal = Unit {0}
Some (contents.Versions n) = (0 < n) × (n < 2 ^ 28)

some : (n : ℕ) → eqb n 0 ≡ false → 0 < n
some zero t = absurd (eqb-false 0 0 t refl)
some (suc n) t = omega arith

field_is : (f : List ℕ) (end at : ℕ) → end ≤ length f → Wp Any (field end) (λ g q. FieldIs f g) at
unfolding field
field_is f end at o =
    wp_after (block_on _ _ end at) λ n q x.
    wp_if (λ t. wp_after (number-on _ _ end q) λ k r y. wp_ret y.3) (λ t. wp_place _ q (wp_skip _ _ tt (λ _. wp_ret (some n t, omega arith))))

contents-is : (end at : ℕ) → Wp Any (contents end) (λ c q. Some c) at
unfolding contents
contents-is end at = wp_after (number-on _ _ end at) λ n q x. wp_if (λ t. wp_ret tt) (λ t. wp_ret (some n t, x.3))

frame_is : (f : List ℕ) (end at : ℕ) → end ≤ length f → Wp Any (item_frame end) (λ i q. FieldIs f i.field × Some i.contents) at
unfolding item_frame
frame_is f end at o = wp_after (field_is f end at o) λ g q y. wp_after (contents-is end q) λ c r z. wp_ret (y, z)

field_fits : (f : List ℕ) (g : Field) → FieldIs f g
    → ((kind_of g ≡ 0) × (cond (eqb (kind_of g) 1) 0 (field_of g) < 2 ^ 28) × (part f (field_of g) (name_length_of g) ≡ []))
    ⊎ ((kind_of g ≡ 1) × (cond (eqb (kind_of g) 1) 0 (field_of g) ≡ 0) × (0 < length (part f (field_of g) (name_length_of g))))
field_fits f (Standard k) h = inl (refl, h, refl)
field_fits f (Name p n) h = inr (refl, refl, omega (arith, part_length f p.0 n h.1))

field-ok : (f : List ℕ) (l : Label) → FieldIs f l.field → FieldOk (base f l)
unfolding content
field-ok f l h = field_fits f l.field h

same-field : {c d : Content} → SameItem c d → FieldOk c → FieldOk d
same-field s (inl (a, b, e)) = inl (sym s.kind ∙ a, rw s.field at b, sym s.name ∙ e)
same-field s (inr (a, b, e)) = inr (sym s.kind ∙ a, sym s.field ∙ b, rw s.name at e)

-- ---- what was read holds what is said

same_text : {c d : Content} → SameItem c d → field_text c ≡ field_text d
unfolding field_text
same_text s = rw (s.kind, s.field, s.name) refl

abbrev count_of : Contents → ℕ
count_of contents.Universal = 0
count_of (contents.Versions n) = n

module _ (f : List ℕ) (node index end at : ℕ) where
  -- what is said of a field
  abbrev field_said : Field → List ℕ
  field_said g = field_text (base f (record { node = node; item = index; field = g }))

  standard-said : (k : ℕ) → field_said (Standard k) ≡ joined (vlq 0 ∷ vlq k ∷ [])
  unfolding field_text content
  standard-said k = refl

  name-said : (p : FilePlace) (n : ℕ) → field_said (Name p n) ≡ sized (part f p.0 n)
  unfolding field_text content
  name-said p n = refl

  field-covers : Post nothing f (field end) (Holds (λ g q. Covers f at (field_said g) q)) at tt
  unfolding field
  field-covers =
      post_step nothing-quiet λ n q b.
      post_if
      (λ t. post_step nothing-quiet λ k r e. post_ret
      (covers-as (sym (standard-said k))
      (covers-on (covers-as (ap vlq (eqb-true n 0 t)) (block-covers meta_frame 3 end f at b))
      (covers-last (number-covers meta_frame 3 end f q e)))))
      (λ t. post_place _ q (post_skip _ _ (post_ret (covers-as (sym (name-said (record { 0 = q }) n)) (sized-covers meta_frame 3 end f at b (covers-part f q n))))))

  contents-covers : (p : ℕ) → Post nothing f (contents end) (Holds (λ c q. Covers f p (vlq (count_of c)) q)) p tt
  unfolding contents
  contents-covers p =
      post_step nothing-quiet λ n q e.
      post_if (λ t. post_ret (covers-as (ap vlq (eqb-true n 0 t)) (number-covers meta_frame 3 end f p e))) (λ t. post_ret (number-covers meta_frame 3 end f p e))

  frame-covers : Post nothing f (item_frame end) (Holds (λ i q. (p : ℕ) × Covers f at (field_said i.field) p × Covers f p (vlq (count_of i.contents)) q)) at tt
  unfolding item_frame
  frame-covers = post_after field-covers λ g q _ a. post_after (contents-covers q) λ c r _ b. post_ret (q, a, b)

  universal-covers : {n q format r : ℕ} → run (block meta_frame 3 end) f at ≡ ok n q → run (number meta_frame 3 (q + n)) f q ≡ ok format r →
      (c : Content) → format ≡ c.format → part f r (q + n - r) ≡ c.bytes
      → Covers f at (universal_text c) (r + (q + n - r))
  unfolding universal_text
  universal-covers {n} {q} {format} {r} b e c i l =
      let j = number-inside meta_frame 3 (q + n) f q e in let z : r + (q + n - r) ≡ q + n = omega arith in
      covers-to (sym z) (sized-covers meta_frame 3 end f at b
      (covers-on (covers-as (ap vlq i) (number-covers meta_frame 3 (q + n) f q e))
      (covers-last (covers-to z (covers-as l (covers-part f r (q + n - r)))))))

  version-covers : {t q n r : ℕ} → run (number meta_frame 3 end) f at ≡ ok t q → run (block meta_frame 3 end) f q ≡ ok n r → (c : Content) → t ≡
      c.declared → part f r n ≡ c.bytes → Covers f at (version_text c) (r + n)
  unfolding version_text
  version-covers {n = n} {r} e b c i l = covers-on (covers-as (ap vlq i) (number-covers meta_frame 3 end f at e))
      (covers-last (sized-covers meta_frame 3 end f _ b (covers-as l (covers-part f r n))))

versions_joined : (cs ds : List Content) → joined (version_texts (cs ++ ds)) ≡ joined (version_texts cs) ++ joined (version_texts ds)
versions_joined [] ds = refl
versions_joined (c ∷ cs) ds = ap (λ v. version_text c ++ v) (versions_joined cs ds) ∙ sym (append_assoc (version_text c) (joined (version_texts cs)) (joined (version_texts ds)))

entries-joined : (css : List (List Content)) (cs : List Content) → joined (entry_texts (css ++ cs ∷ [])) ≡ joined (entry_texts css) ++ entry_text cs
entries-joined [] cs = append-nil (entry_text cs)
entries-joined (ds ∷ css) cs = ap (λ v. entry_text ds ++ v) (entries-joined css cs) ∙ sym (append_assoc (entry_text ds) (joined (entry_texts css)) (entry_text cs))

one-said : (c : Content) → 0 ≡ c.version → entry_text (c ∷ []) ≡ joined (field_text c ∷ vlq 0 ∷ universal_text c ∷ [])
one-said c v = let v' : c.version ≡ 0 = sym v in rw v' refl

several_said : (c : Content) (cs : List Content) → 1 ≡ c.version → entry_text (c ∷ cs) ≡ joined (field_text c ∷ vlq (suc (length cs)) ∷ joined (version_texts (c ∷ cs)) ∷ [])
several_said c cs v = let v' : c.version ≡ 1 = sym v in rw v' refl

-- ---- contents that were added: of these, and of where they end, Are holds

pub record Added (x : Context) (m : Made) (σ : Collected) (Are : List Content → ℕ → Type 0) (m' : Made) (q : ℕ) (τ : Collected) : Type 0 where
  pub contents : List Content
  pub are : Are contents q
  pub room : m.items + length contents ≤ x.limits.items
  pub made : m' ≡ plus_items (length contents) m
  pub left : τ ≡ with_items σ contents

added_none : {x : Context} {m : Made} {σ : Collected} {A : List Content → ℕ → Type 0} {q : ℕ} → A [] q → m.items ≤ x.limits.items → Added x m σ A m q σ
added_none {m = m} {σ = σ} a l = record {
  contents = [];
  are = a;
  room = omega arith;
  made = (let e : m.items + 0 ≡ m.items = omega arith in rw e refl);
  left = rw (append-nil σ.items) refl;
}

-- and then others
added-on : {x : Context} {m m₁ m₂ : Made} {σ τ υ : Collected} {A B C : List Content → ℕ → Type 0} {p q : ℕ} (s : Added x m σ A m₁ p τ)
    (t : Added x m₁ τ B m₂ q υ) → C (s.contents ++ t.contents) q → Added x m σ C m₂ q υ
added-on {m = m} {m₁ = m₁} {σ = σ} s t c =
    let z = length-append s.contents t.contents in
    let k : m₁.items ≡ m.items + length s.contents = ap (λ (w : Made). w.items) s.made in
    record {
      contents = s.contents ++ t.contents;
      are = c;
      room = omega (arith, t.room);
      made = t.made ∙ ap (plus_items (length t.contents)) s.made ∙
          (let e : m.items + length s.contents + length t.contents ≡ m.items + length (s.contents ++ t.contents) = omega arith in rw e
          refl);
      left = t.left ∙ ap (λ w. with_items w t.contents) s.left ∙ rw (append_assoc σ.items s.contents t.contents) refl;
    }

added-room : {x : Context} {m m₁ : Made} {σ τ : Collected} {A : List Content → ℕ → Type 0} {p : ℕ} → Added x m σ A m₁ p τ → m₁.items ≤ x.limits.items
added-room s = omega (arith, s.room, ap (λ (w : Made). w.items) s.made)

added-count : {x : Context} {m m₁ : Made} {σ τ : Collected} {A : List Content → ℕ → Type 0} {p : ℕ} (s : Added x m σ A m₁ p τ) → m₁.items ≡ m.items + length s.contents
added-count s = ap (λ (w : Made). w.items) s.made

added-by : {x : Context} {m m₁ : Made} {σ τ : Collected} {A B : List Content → ℕ → Type 0} {p : ℕ} (s : Added x m σ A m₁ p τ) → B s.contents p → Added x m σ B m₁ p τ
added-by s b = record { contents = s.contents; are = b; room = s.room; made = s.made; left = s.left }

-- ---- a universal content; versions

versions_on : (types : List Declared) (b : Content) (k : ℕ) (cs ds : List Content) → Versions types b k cs → Versions types b (k + length cs) ds → Versions types b k (cs ++ ds)
versions_on types b k [] ds v w = let e : k + 0 ≡ k = omega arith in subst (λ j. Versions types b j ds) e w
versions_on types b k (c ∷ cs) ds v w =
    let e : k + suc (length cs) ≡ k + 1 + length cs = omega arith in
    (v.0, v.1, v.2, v.3, versions_on types b (k + 1) cs ds v.4 (subst (λ j. Versions types b j ds) e w))

abbrev IsUniversal : List ℕ → (ℕ → Item → Content) → Label → ℕ → List Content → ℕ → Type 0
IsUniversal f say l at cs q = (c : Content) × (cs ≡ c ∷ []) × SameItem (base f l) c × (0 ≡ c.version) × (0 ≡ c.declared) ×
    (c.format < 2 ^ 28) × (Plain f say → Covers f at (universal_text c) q)

abbrev AreVersions : List ℕ → (ℕ → Item → Content) → List Declared → Content → (n k at : ℕ) → List Content → ℕ → Type 0
AreVersions f say types b n k at cs q = (length cs ≡ n) × Versions types b k cs × (Plain f say → Covers f at (joined (version_texts cs)) q)

module _ {f : List ℕ} {say : ℕ → Item → Content} (keeps : Keeps f say) (x : Context) (l : Label) (end : ℕ) where
  universal-says : (m : Made) (at : ℕ) (σ : Collected) → Post (collect_as say f) f (universal x l end m) (Added x m σ (IsUniversal f say l at)) at σ
  unfolding universal
  universal-says m at σ =
      post_place _ at
      (post_check _ _ λ room.
      post_step (block-quiet meta_frame 3 end) λ n q b.
      post_check _ _ λ some.
      post_place _ q
      (post_step (number-quiet meta_frame 3 (q + n)) λ format r e.
      post_place _ r
      (post_skip _ _ (post_ret (
      let c : Content = say (length σ.items) (row_of l 0 0 format r (q + n - r)) in
      let h = keeps (length σ.items) (row_of l 0 0 format r (q + n - r)) in
      let s = number-inside meta_frame 3 (q + n) f q e in let i = like_format f l 0 0 format r (q + n - r) h in
      record {
        contents = c ∷ [];
        are = (
          c,
          refl,
          like_same f l 0 0 format r (q + n - r) h,
          like_version f l 0 0 format r (q + n - r) h,
          like_declared f l 0 0 format r
              (q + n - r) h,
          omega arith,
          λ plain. universal-covers f l.node l.item end at b e c i
              (plain (length σ.items) (row_of l 0 0 format r (q + n - r))),
        );
        room = omega (arith, ltb-true m.items x.limits.items room);
        made = refl;
        left = refl;
      })))))

  format-says : (p : ℕ) (k : Known) (at : ℕ) (σ : Collected) → Post (collect_as say f) f (declared_format p k) (λ fm q τ. (k ≡ known fm) × (τ ≡ σ) × (at ≡ q)) at σ
  unfolding declared_format
  format-says p (known fm) at σ = post_ret (refl, refl, refl)
  format-says p unknown at σ = post_refuse

  version-says : (before : ℕ) (m : Made) (at : ℕ) (σ : Collected)
      → Post (collect_as say f) f (version x l end before m) (Added x m σ (AreVersions f say x.types (base f l) 1 (m.items + 1 - before) at)) at σ
  unfolding version
  version-says before m at σ =
      post_place _ at
      (post_check _ _ λ room.
      post_step (number-quiet meta_frame 3 end) λ t q a.
      post_after (format-says at (format_of x.types t) q σ) λ format q₁ σ₁ b.
      let b₂ = b.2 in
      post_step (block-quiet meta_frame 3 end) λ n r e.
      post_place _ r
      (post_skip _ _ (post_ret (
      let v : ℕ = m.items + 1 - before in
      let c : Content = say (length σ₁.items) (row_of l v t format r n) in
      let h = keeps (length σ₁.items) (row_of l v t format r n) in
      let s = number-inside meta_frame 3 end f at a in let j = like_declared f l v t format r n h in
      let k = like_format f l v t format r n h in
      record {
        contents = c ∷ [];
        are = (
          refl,
          (like_same f l v t format r n h, like_version f l v t format r n h, rw (← j, ← k) b.0, omega arith, tt),
          λ plain. covers-last (version-covers f l.node l.item end at a (subst (λ p. run (block meta_frame 3 end) f p ≡ ok n r) (sym b₂) e) c j
              (plain (length σ₁.items) (row_of l v t format r n))),
        );
        room = omega (arith, ltb-true m.items x.limits.items room);
        made = refl;
        left = ap (λ w. with_items w (c ∷ [])) b.1;
      }))))

  versions_say : (before n : ℕ) (m : Made) (at : ℕ) (σ : Collected) → before ≤ m.items → m.items ≤ x.limits.items
      → Post (collect_as say f) f (times n (version x l end before) m) (Added x m σ (AreVersions f say x.types (base f l) n (m.items + 1 - before) at)) at σ
  unfolding times
  versions_say before zero m at σ o r = post_ret (added_none (refl, tt, λ plain. covers-none at) r)
  versions_say before (suc n) m at σ o r =
      post_after (version-says before m at σ) λ m₁ q τ s.
      let k = added-count s in let i = s.are.0 in
      post_weaken (versions_say before n m₁ q τ (omega arith) (added-room s)) λ m₂ v υ t.
      let z = length-append s.contents t.contents in
      let e : m₁.items + 1 - before ≡ m.items + 1 - before + length s.contents = omega arith in
      added-on s t (
        omega (arith, t.are.0),
        versions_on x.types (base f l) (m.items + 1 - before) s.contents t.contents s.are.1
            (subst (λ j. Versions x.types (base f l) j t.contents) e t.are.1),
        λ plain. covers-as (sym (versions_joined s.contents t.contents)) (covers-on (s.are.2 plain) (t.are.2 plain)),
      )

-- ---- an item

same-flip : {b c d : Content} → SameItem b c → SameItem b d → SameItem c d
same-flip s t = record {
  node = sym s.node ∙ t.node;
  item = sym s.item ∙ t.item;
  kind = sym s.kind ∙ t.kind;
  field = sym
      s.field ∙ t.field;
  name = sym s.name ∙ t.name;
}

versions_of : (types : List Declared) {b c : Content} → SameItem b c → (k : ℕ) (cs : List Content) → Versions types b k cs → Versions types c k cs
versions_of types s k [] v = tt
versions_of types s k (d ∷ cs) v = (same-flip s v.0, v.1, v.2, v.3, versions_of types s (k + 1) cs v.4)

base-label : (f : List ℕ) (node index : ℕ) (g : Field) → (node ≡ (base f (record { node = node; item = index; field = g })).node) ×
    (index ≡ (base f (record { node = node; item = index; field = g })).item)
unfolding content
base-label f node index g = (refl, refl)

entry-several : (types : List Declared) (f : List ℕ) (node index : ℕ) (g : Field) (cs : List Content) → FieldIs f g → 0 < length cs → length
    cs < 2 ^ 28 → Versions types (base f (record { node = node; item = index; field = g })) 1 cs → Entry types node index cs
entry-several types f node index g [] h s few v = absurd (omega arith)
entry-several types f node index g (c ∷ cs) h s few v =
    let i = base-label f node index g in
    several (same-field v.0 (field-ok f (record { node = node; item = index; field = g }) h)) (i.0 ∙ v.0.node) (i.1 ∙ v.0.item) (versions_of types v.0 1 (c ∷ cs) v) few

entry-one : (types : List Declared) (f : List ℕ) (node index : ℕ) (g : Field) (c : Content) → FieldIs f g → SameItem
    (base f (record { node = node; item = index; field = g })) c → 0 ≡ c.version → 0 ≡ c.declared → c.format < 2 ^ 28 → Entry types node
    index (c ∷ [])
entry-one types f node index g c h s v d fm =
    let i = base-label f node index g in
    one (same-field s (field-ok f (record { node = node; item = index; field = g }) h)) (i.0 ∙ s.node) (i.1 ∙ s.item) v d fm

several_is : (f : List ℕ) (types : List Declared) (node index : ℕ) (g : Field) (cs : List Content) → Versions types
    (base f (record { node = node; item = index; field = g })) 1 cs → 0 < length cs
    → entry_text cs ≡ joined (field_text (base f (record { node = node; item = index; field = g })) ∷ vlq (length cs) ∷ joined (version_texts cs) ∷ [])
several_is f types node index g [] v s = absurd (omega arith)
several_is f types node index g (c ∷ cs) v s = several_said c cs v.1 ∙ ap
    (λ t. joined (t ∷ vlq (suc (length cs)) ∷ joined (version_texts (c ∷ cs)) ∷ [])) (sym (same_text v.0))

-- the contents of an item that began at `start`
abbrev IsEntry : List ℕ → (ℕ → Item → Content) → List Declared → (node index start : ℕ) → List Content → ℕ → Type 0
IsEntry f say types node index start cs q = Entry types node index cs × (Plain f say → Covers f start (entry_text cs) q)

module _ {f : List ℕ} {say : ℕ → Item → Content} (keeps : Keeps f say) (x : Context) (node end : ℕ) (o : end ≤ length f) where
  rows-say : (index : ℕ) (g : Field) → FieldIs f g → (c : Contents) → Some c → (m : Made) (start p at : ℕ) (σ : Collected) → m.items ≤ x.limits.items
      → Covers f start (field_text (base f (record { node = node; item = index; field = g }))) p → Covers f p (vlq (count_of c)) at
      → Post (collect_as say f) f (rows_for x (record { node = node; item = index; field = g }) end c m) (Added x m σ (IsEntry f say x.types node index start)) at σ
  unfolding rows_for
  rows-say index g h contents.Universal s m start p at σ r a₁ b =
      post_weaken (universal-says keeps x (record { node = node; item = index; field = g }) end m at σ) λ m₁ q τ a.
      let (c, e, same, v, d, fm, covers) = a.are in
      added-by a (
        subst (Entry x.types node index) (sym e) (entry-one x.types f node index g c h same v d fm),
        λ plain. covers-as (sym (ap entry_text e ∙ one-said c v)) (covers-on (covers-as (same_text same) a₁) (covers-on b (covers-last (covers plain)))),
      )
  rows-say index g h (contents.Versions n) s m start p at σ r a₁ b =
      post_weaken (versions_say keeps x (record { node = node; item = index; field = g }) end m.items n m at σ (omega arith) r) λ m₁ q τ a.
      let k = a.are.0 in let e : m.items + 1 - m.items ≡ 1 = omega arith in
      let v = subst (λ j. Versions x.types (base f (record { node = node; item = index; field = g })) j a.contents) e a.are.1 in
      added-by a (
        entry-several x.types f node index g a.contents h (omega arith) (omega arith) v,
        λ plain. covers-as (sym (several_is f x.types node index g a.contents v (omega arith)))
            (covers-on a₁ (covers-on (covers-as (ap vlq (sym k)) b) (covers-last (a.are.2 plain)))),
      )

  item-says : (index : ℕ) (m : Made) (at : ℕ) (σ : Collected) → m.items ≤ x.limits.items → Post (collect_as say f) f
      (item x node index end m) (Added x m σ (IsEntry f say x.types node index at)) at σ
  unfolding item
  item-says index m at σ r =
      post_step (frame-quiet (collect-ignores say f) end) λ i q e.
      let w = at_end any_free f (frame_is f end at o) e in
      let (p, a, b) = post_ran (frame-covers f node index end at) e in
      rows-say index i.field w.0 i.contents w.1 m at p q σ r a b

-- ---- items end to end

entries-more : {types : List Declared} {node index : ℕ} {css : List (List Content)} → Entries types node index css → (k : ℕ)
    (cs : List Content) → k ≡ index + length css → Entry types node k cs → Entries types node index (css ++ cs ∷ [])
entries-more {types} {node} {index} none k cs e n = more {index = index} (subst (λ j. Entry types node j cs) (e ∙ (omega arith)) n) none
entries-more (more {css = css} x xs) k cs e n = more x (entries-more xs k cs (omega arith) n)

flat-more : (css : List (List Content)) (cs : List Content) → flat (css ++ cs ∷ []) ≡ flat css ++ cs
flat-more [] cs = append-nil cs
flat-more (ds ∷ css) cs = ap (λ v. ds ++ v) (flat-more css cs) ∙ sym (append_assoc ds (flat css) cs)

count-more : (css : List (List Content)) (cs : List Content) → length (css ++ cs ∷ []) ≡ length css + 1
count-more css cs = length-append css (cs ∷ [])

abbrev pub Grouped : List Declared → ℕ → List Content → Type 0
Grouped types node cs = (css : List (List Content)) × Entries types node 0 css × (flat css ≡ cs)

abbrev SoFar : List ℕ → (ℕ → Item → Content) → List Declared → (node index at : ℕ) → List Content → ℕ → Type 0
SoFar f say types node index at cs q = (css : List (List Content)) × Entries types node 0 css × (flat css ≡ cs) × (index ≡ length css) ×
    (Plain f say → Covers f at (joined (entry_texts css)) q)

-- items end to end; with their length before them
abbrev AreGrouped : List ℕ → (ℕ → Item → Content) → List Declared → (node at : ℕ) → List Content → ℕ → Type 0
AreGrouped f say types node at cs q = Grouped types node cs × (Plain f say → Covers f at (items_text cs) q)

abbrev pub AreMetadata : List ℕ → (ℕ → Item → Content) → List Declared → (node at : ℕ) → List Content → ℕ → Type 0
AreMetadata f say types node at cs q = Grouped types node cs × (Plain f say → Covers f at (sized (items_text cs)) q)

module _ {f : List ℕ} {say : ℕ → Item → Content} (keeps : Keeps f say) (x : Context) (node : ℕ) where
  items-say : (end : ℕ) → end ≤ length f → (m : Made) (at : ℕ) (σ : Collected) → m.items ≤ x.limits.items → Post (collect_as say f) f
      (meta_items x node end m) (Added x m σ (AreGrouped f say x.types node at)) at σ
  unfolding meta_items next_item
  items-say end o m at σ r =
      post_after
      (post_many (λ k q τ. Added x m σ (SoFar f say x.types node k.index at) k.made q τ) end (record { made = m; index = 0 })
      (λ k p τ s.
      post_after (item-says keeps x node end o k.index k.made p τ (added-room s)) λ m₁ q υ t.
      post_ret (
      let (css, es, e, i, covers) = s.are in let y = count-more css t.contents in
      added-on s t (
        css ++ t.contents ∷ [],
        entries-more es k.index t.contents (omega arith) t.are.0,
        flat-more css t.contents ∙ ap
            (λ v. v ++ t.contents) e,
        omega arith,
        λ plain. covers-as (sym (entries-joined css t.contents))
            (covers-on (covers plain) (t.are.1 plain)),
      )))
      (added_none ([], none, refl, refl, λ plain. covers-none at) r))
      λ k q τ s. post_ret (let (css, es, e, i, covers) = s.are in added-by s ((css, es, e), λ plain. covers-as (sym (sym (ap items_text e) ∙ items-text es)) (covers plain)))

  pub metadata-says : (end : ℕ) → end ≤ length f → (m : Made) (at : ℕ) (σ : Collected) → m.items ≤ x.limits.items → Post (collect_as say f)
      f (metadata x node end m) (Added x m σ (AreMetadata f say x.types node at)) at σ
  unfolding metadata
  metadata-says end o m at σ r =
      post_step (block-quiet meta_frame 8 end) λ n q b.
      let i = block_inside meta_frame 8 end f at b in
      post_place _ q (post_weaken (post_known (items-say (q + n) (omega arith) m q σ r)) λ m' p τ s.
      let e = (at_end (inside-free (q + n) (q + n)) f (items-on Nothing (q + n) (q + n) x node (q + n) (omega arith) m q (omega arith)) s.1).1 in
      added-by s.0 (s.0.are.0, λ plain. covers-to (sym e) (sized-covers meta_frame 8 end f at b (covers-to e (s.0.are.1 plain)))))
