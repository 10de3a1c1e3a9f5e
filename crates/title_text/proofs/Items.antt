-- Metadata that was written is read back, and says what was written.
-- Assumes nothing.
use mathlib.Core.Path.{◌≡◌, refl, sym, ◌∙◌, subst}
use mathlib.Core.Bool.{cond}
use mathlib.Core.Logic.{◌⊎◌, inl, inr}
use mathlib.Core.List.{List, [], ◌∷◌, ◌++◌, append_assoc, append-nil}
use Prim.Native.Nat.{ℕ, suc, ◌+◌, ◌-◌, ◌^◌, ◌≤◌, ◌<◌}
use native.Mathlib.Omega.{arith}
use lib.Dec.{eqb}
use lib.ListN.{length, length-append}
use borrow.Author.Tests.{lt-ltb, le-ltb, eq-eqb, ne_eqb, lt-leb, le-leb}
use Rattle.machine.specs.Machine.{ok, run, exec, turns, times}
use Rattle.cursor.specs.Rows.{meta_frame}
use Rattle.room.specs.Parts.{part, joined}
use Rattle.vlq.specs.Vlq.{vlq, sized}
use Rattle.machine.proofs.Laws.{running, executing, exec-turn, exec-turned, exec-many}
use Rattle.cursor.proofs.Quiet.{still, exec-number, exec-block}
use Rattle.vlq.proofs.Least.{vlq-some}
use Rattle.room.proofs.Lies.{Lies, lies_part, lies_left, lies_right, stand, joined_length}
use Rattle.vlq.proofs.Sized.{stand_sized, sized-length}
use Rattle.vlq.proofs.Back.{number-back, block_back}
use Rattle.header.specs.Types.{Declared, known, format_of}
use Rattle.metadata.specs.Tables.{plus_item}
use Rattle.metadata.specs.Metadata.{Context, kind_of, field_of, name_length_of, row_of, field, item_frame, universal, declared_format, version, rows_for, item, next_item, meta_items, metadata}
use Rattle.metadata.specs.declared.Made.{Made}
use Rattle.metadata.specs.declared.Label.{Label}
use Rattle.metadata.specs.declared.Field.{Field}
use Rattle.metadata.specs.declared.Field.TheVariants.{Standard, Name}
use Rattle.metadata.proofs.Quiet.{frame-quiet}
use Rattle.metadata.proofs.Ways.{contents-universal, contents-versions, frame-all}
use Rattle.title_text.specs.Description.{Content, content}
use Rattle.title_text.specs.Text.{further, field_text, item_text, universal_text, version_text, content_text, items_text}
use Rattle.title_text.proofs.Collecting.{Collected, collect, collect-ignores, with_items}

-- ---- a content

-- the label is the content's, in g
pub record Labels (g : List ℕ) (l : Label) (c : Content) : Type 0 where
  pub node : l.node ≡ c.node
  pub item : l.item ≡ c.item
  pub kind : kind_of l.field ≡ c.kind
  pub field : cond (eqb (kind_of l.field) 1) 0 (field_of l.field) ≡ c.field
  pub name : part g (field_of l.field) (name_length_of l.field) ≡ c.name

row-says : (g : List ℕ) (l : Label) (c : Content) (v d fm p n : ℕ) → Labels g l c → v ≡ c.version → d ≡ c.declared → fm ≡ c.format → part
    g p n ≡ c.bytes → content g (row_of l v d fm p n) ≡ c
unfolding content
row-says g l c v d fm p n h a b e k = rw (h.field, h.name, h.kind, h.node, h.item, a, b, e, k)

module _ (x : Context) (l : Label) (end : ℕ) (m : Made) (g : List ℕ) (p : ℕ) (σ : Collected) (c : Content) (lab : Labels g l c)
    (room : m.items < x.limits.items) (big : length g < 2 ^ 28) where
  pub universal-back : 0 ≡ c.version → 0 ≡ c.declared → c.format < 2 ^ 28 → Lies g p (universal_text c) → p + length (universal_text c) ≤ end
      → exec (collect g) (universal x l end m) g p σ ≡ ok (plus_item m, with_items σ (c ∷ [])) (p + length (universal_text c))
  unfolding universal universal_text
  universal-back v d fm h i =
      let k : ℕ = length (vlq c.format) in
      let ss : List (List ℕ) = vlq c.format ∷ c.bytes ∷ [] in
      let n : ℕ = length (joined ss) in let q : ℕ = p + length (vlq n) in let t = stand_sized (joined ss) h in
      let s = stand ss t.1 in let y = sized-length (joined ss) in let z = joined_length ss in
      let some = vlq-some c.format in
      let e₁ = block_back meta_frame 3 end n t.0 (omega (arith, h.inside)) (omega arith) in
      let e₂ = number-back meta_frame 3 (q + n) c.format s.0 fm (omega arith) in
      let e₃ : q + n - (q + k) ≡ length c.bytes = omega arith in
      let e₄ = row-says g l c 0 0 c.format (q + k) (length c.bytes) lab v d refl (lies_part s.1.0) in
      let e₅ : q + k + length c.bytes ≡ p + length (sized (joined ss)) = omega arith in
      rw (← e₅) (simp (executing, exec-block, exec-number, lt-ltb _ _ room, e₁, lt-ltb 0 n (omega arith), e₂, e₃, e₄))

  pub version-back : (before : ℕ) → m.items + 1 - before ≡ c.version → format_of x.types c.declared ≡ known c.format → c.declared < 2 ^ 28
      → Lies g p (version_text c) → p + length (version_text c) ≤ end
      → exec (collect g) (version x l end before m) g p σ ≡ ok (plus_item m, with_items σ (c ∷ [])) (p + length (version_text c))
  unfolding version version_text declared_format
  version-back before v fm d h i =
      let n : ℕ = length c.bytes in let q : ℕ = p + length (vlq c.declared) in
      let ss : List (List ℕ) = vlq c.declared ∷ sized c.bytes ∷ [] in
      let s = stand ss h in let t = stand_sized c.bytes s.1.0 in let y = sized-length c.bytes in
      let z = joined_length ss in
      let e₁ = number-back meta_frame 3 end c.declared s.0 d (omega arith) in
      let e₂ = block_back meta_frame 3 end n t.0 (omega (arith, h.inside)) (omega arith) in
      let e₄ = row-says g l c (m.items + 1 - before) c.declared c.format (q + length (vlq n)) n lab v refl refl (lies_part t.1) in
      let e₅ : q + length (vlq n) + n ≡ p + length (joined ss) = omega arith in
      rw (← e₅) (simp (executing, exec-block, exec-number, lt-ltb _ _ room, e₁, fm, e₂, e₄))

-- ---- versions

-- contents that are the versions from k on of the labelled item, with types that are declared
pub record SameItem (c d : Content) : Type 0 where
  pub node : c.node ≡ d.node
  pub item : c.item ≡ d.item
  pub kind : c.kind ≡ d.kind
  pub field : c.field ≡ d.field
  pub name : c.name ≡ d.name

pub same-label : {g : List ℕ} {l : Label} {c d : Content} → Labels g l c → SameItem c d → Labels g l d
same-label h s = record { node = h.node ∙ s.node; item = h.item ∙ s.item; kind = h.kind ∙ s.kind; field = h.field ∙ s.field; name = h.name ∙ s.name }

abbrev pub Versions : List Declared → Content → ℕ → List Content → Type 0
Versions types b k [] = Unit {0}
Versions types b k (c ∷ cs) =
    SameItem b c × (k ≡ c.version) × (format_of types c.declared ≡ known c.format) × (c.declared < 2 ^ 28) × Versions types b (k + 1) cs

abbrev pub plus_items : ℕ → Made → Made
plus_items n m = record { nodes = m.nodes; items = m.items + n }

abbrev pub version_texts : List Content → List (List ℕ)
version_texts [] = []
version_texts (c ∷ cs) = version_text c ∷ version_texts cs

module _ (x : Context) (l : Label) (end before : ℕ) (g : List ℕ) (big : length g < 2 ^ 28) (b : Content) (lab : Labels g l b) where
  pub versions_back : (cs : List Content) (m : Made) (p : ℕ) (σ : Collected) → Versions x.types b (m.items + 1 - before) cs → before ≤
      m.items → m.items + length cs ≤ x.limits.items
      → Lies g p (joined (version_texts cs)) → p + length (joined (version_texts cs)) ≤ end
      → exec (collect g) (times (length cs) (version x l end before) m) g p σ ≡ ok (plus_items (length cs) m, with_items σ cs) (p + length (joined (version_texts cs)))
  unfolding times
  versions_back [] m p σ v o r h i =
      let e : m.items + 0 ≡ m.items = omega arith in let k : p + 0 ≡ p = omega arith in
      rw (e, k, append-nil σ.items) (simp executing)
  versions_back (c ∷ cs) m p σ v o r h i =
      let z = length-append (version_text c) (joined (version_texts cs)) in
      let e₁ = version-back x l end m g p σ c (same-label lab v.0) (omega arith) big before v.1 v.2 v.3
      (lies_left (version_text c) (joined (version_texts cs)) h) (omega arith) in
      let k : m.items + 1 - before + 1 ≡ m.items + 1 + 1 - before = omega arith in
      let e₂ = versions_back cs (plus_item m) (p + length (version_text c)) (with_items σ (c ∷ [])) (rw k at v.4) (omega arith) (omega arith)
      (lies_right (version_text c) (joined (version_texts cs)) h) (omega arith) in
      let q : m.items + suc (length cs) ≡ m.items + 1 + length cs = omega arith in
      let t : p + length (version_text c ++ joined (version_texts cs)) ≡ p + length (version_text c) + length (joined (version_texts cs)) = omega arith in
      rw (q, t, ← append_assoc σ.items (c ∷ []) cs) (simp (executing, e₁, e₂))

-- ---- an item's field and the number of its versions

-- a standard number, or a name that is not empty
abbrev pub FieldOk : Content → Type 0
FieldOk c = ((c.kind ≡ 0) × (c.field < 2 ^ 28) × (c.name ≡ [])) ⊎ ((c.kind ≡ 1) × (c.field ≡ 0) × (0 < length c.name))

pub record FieldBack (g : List ℕ) (end p : ℕ) (c : Content) : Type 0 where
  pub is : Field
  pub ran : run (field end) g p ≡ ok is (p + length (field_text c))
  pub labels : (node item : ℕ) → node ≡ c.node → item ≡ c.item → Labels g (record { node = node; item = item; field = is }) c

module _ (g : List ℕ) (big : length g < 2 ^ 28) (end p : ℕ) (c : Content) where
  pub field_back : FieldOk c → Lies g p (field_text c) → p + length (field_text c) ≤ end → FieldBack g end p c
  unfolding field_text field
  field_back (inl (k, small, none)) h i =
      let ss : List (List ℕ) = vlq 0 ∷ vlq c.field ∷ [] in
      let t : cond (eqb c.kind 1) (sized c.name) (joined ss) ≡ joined ss = rw k refl in
      let h' : Lies g p (joined ss) = rw t at h in let i' : p + length (joined ss) ≤ end = rw t at i in
      let s = stand ss h' in let z = joined_length ss in
      let e₁ = block_back meta_frame 3 end 0 s.0 (omega arith) (omega arith) in
      let e₂ = number-back meta_frame 3 end c.field s.1.0 small (omega arith) in
      let e₃ : p + length (joined ss) ≡ p + length (vlq 0) + length (vlq c.field) = omega arith in
      record {
        is = Standard c.field;
        ran = rw (t, e₃) (simp (running, e₁, e₂));
        labels = λ node item a b. record { node = a; item = b; kind = sym k; field = refl; name = sym none };
      }
  field_back (inr (k, nil, some)) h i =
      let n : ℕ = length c.name in
      let t : cond (eqb c.kind 1) (sized c.name) (joined (vlq 0 ∷ vlq c.field ∷ [])) ≡ sized c.name = rw k refl in
      let h' : Lies g p (sized c.name) = rw t at h in
      let i' : p + length (sized c.name) ≤ end = rw t at i in
      let s = stand_sized c.name h' in let z = sized-length c.name in
      let e₁ = block_back meta_frame 3 end n s.0 (omega (arith, h'.inside)) (omega arith) in
      let e₃ : p + length (sized c.name) ≡ p + length (vlq n) + n = omega arith in
      record {
        is = Name (record { 0 = p + length (vlq n) }) n;
        ran = rw (t, e₃) (simp (running, e₁, ne_eqb n 0 (λ z. omega arith)));
        labels = λ node item a b. record { node = a; item = b; kind = sym k; field = sym nil; name = lies_part s.1 };
      }

exec-frame : (g : List ℕ) (end : ℕ) (f : List ℕ) (at : ℕ) (σ : Collected) → exec (collect g) (item_frame end) f at σ ≡ still (run (item_frame end) f at) σ
exec-frame g end f at σ = (frame-quiet (collect-ignores (λ k r. content g r) g) end).quiet f at σ

-- ---- an item

-- the contents of one item, as a node of that row and an item of that number have them
pub data Entry (types : List Declared) (node index : ℕ) : List Content → Type 0 where
  one : {c : Content} → FieldOk c → node ≡ c.node → index ≡ c.item → 0 ≡ c.version → 0 ≡ c.declared → c.format < 2 ^ 28 → Entry types node index (c ∷ [])
  several : {c : Content} {cs : List Content} → FieldOk c → node ≡ c.node → index ≡ c.item → Versions types c 1 (c ∷ cs) → suc (length cs) <
      2 ^ 28 → Entry types node index (c ∷ cs)

abbrev pub entry_text : List Content → List ℕ
entry_text [] = []
entry_text (c ∷ cs) = joined (field_text c ∷ vlq (cond (eqb c.version 0) 0 (suc (length cs))) ∷ cond (eqb c.version 0) (universal_text c) (joined (version_texts (c ∷ cs))) ∷ [])

module _ (x : Context) (node index end : ℕ) (m : Made) (g : List ℕ) (big : length g < 2 ^ 28) (p : ℕ) (σ : Collected) where
  pub item_back : {cs : List Content} → Entry x.types node index cs → Lies g p (entry_text cs) → p + length (entry_text cs) ≤ end → m.items + length cs ≤ x.limits.items
      → exec (collect g) (item x node index end m) g p σ ≡ ok (plus_items (length cs) m, with_items σ cs) (p + length (entry_text cs))
  unfolding item rows_for
  item_back (one {c} f a b v d fm) h i r =
      let v' : c.version ≡ 0 = sym v in
      let ss : List (List ℕ) = field_text c ∷ vlq 0 ∷ universal_text c ∷ [] in
      let t : entry_text (c ∷ []) ≡ joined ss = rw v' refl in
      let s = stand ss (rw t at h) in let z = joined_length ss in let i' : p + length (joined ss) ≤ end = rw t at i in
      let fb = field_back g big end p c f s.0 (omega arith) in
      let e₂ = number-back meta_frame 3 end 0 s.1.0 (omega arith) (omega arith) in
      let e₃ = universal-back x (record { node = node; item = index; field = fb.is }) end m g (p + length (field_text c) + length (vlq 0)) σ c
      (fb.labels node index a b) (omega arith) big v d fm s.1.1.0 (omega arith) in
      let e₄ : p + length (joined ss) ≡ p + length (field_text c) + length (vlq 0) + length (universal_text c) = omega arith in
      let e₁ = sym (frame-all end g p fb.ran (sym (contents-universal end g (p + length (field_text c)) e₂ refl))) in
      rw (t, e₄) (simp (executing, exec-frame, e₁, e₃))
  item_back (several {c} {cs} f a b v few) h i r =
      let n : ℕ = suc (length cs) in let v' : c.version ≡ 1 = sym v.1 in
      let ss : List (List ℕ) = field_text c ∷ vlq n ∷ joined (version_texts (c ∷ cs)) ∷ [] in
      let t : entry_text (c ∷ cs) ≡ joined ss = rw v' refl in let s = stand ss (rw t at h) in let z = joined_length ss in
      let i' : p + length (joined ss) ≤ end = rw t at i in
      let fb = field_back g big end p c f s.0 (omega arith) in
      let e₂ = number-back meta_frame 3 end n s.1.0 few (omega arith) in
      let k : 1 ≡ m.items + 1 - m.items = omega arith in
      let e₃ = versions_back x (record { node = node; item = index; field = fb.is }) end m.items g big c (fb.labels node index a b) (c ∷ cs)
      m (p + length (field_text c) + length (vlq n)) σ (subst (λ j. Versions x.types c j (c ∷ cs)) k v) (omega arith) r s.1.1.0
      (omega arith) in
      let e₄ : p + length (joined ss) ≡ p + length (field_text c) + length (vlq n) + length (joined (version_texts (c ∷ cs))) = omega arith in
      let e₁ = sym (frame-all end g p fb.ran (sym (contents-versions end g (p + length (field_text c)) e₂ (λ z. omega arith)))) in
      rw (t, e₄) (simp (executing, exec-frame, e₁, e₃))

-- ---- items end to end

pub data Entries (types : List Declared) (node : ℕ) : ℕ → List (List Content) → Type 0 where
  none : {index : ℕ} → Entries types node index []
  more : {index : ℕ} {cs : List Content} {css : List (List Content)} → Entry types node index cs → Entries types node (index + 1) css → Entries types node index (cs ∷ css)

abbrev pub entry_texts : List (List Content) → List (List ℕ)
entry_texts [] = []
entry_texts (cs ∷ css) = entry_text cs ∷ entry_texts css

abbrev pub flat : List (List Content) → List Content
flat [] = []
flat (cs ∷ css) = cs ++ flat css

pub entry-some : {types : List Declared} {node index : ℕ} {cs : List Content} → Entry types node index cs → 0 < length (entry_text cs)
entry-some {cs = cs} (one {c} f a b v d fm) = let z = joined_length
    (field_text c ∷ vlq (cond (eqb c.version 0) 0 1) ∷ cond (eqb c.version 0) (universal_text c) (joined (version_texts (c ∷ []))) ∷ [])
    in omega (arith, vlq-some (cond (eqb c.version 0) 0 1))
entry-some (several {c} {cs} f a b v few) = let z = joined_length
    (field_text c ∷ vlq (cond (eqb c.version 0) 0 (suc (length cs))) ∷ cond (eqb c.version 0) (universal_text c)
    (joined (version_texts (c ∷ cs))) ∷ []) in omega (arith, vlq-some (cond (eqb c.version 0) 0 (suc (length cs))))

module _ (x : Context) (node end : ℕ) (g : List ℕ) (big : length g < 2 ^ 28) where
  pub turns-back : {index : ℕ} {css : List (List Content)} → Entries x.types node index css → (k : ℕ) (m : Made) (p : ℕ) (σ : Collected) →
      Lies g p (joined (entry_texts css)) → p + length (joined (entry_texts css)) ≡ end
      → end ≤ p + k → m.items + length (flat css) ≤ x.limits.items
      → exec (collect g) (turns k end (next_item x node end) (record { made = m; index = index })) g p σ ≡ ok
      (record { made = plus_items (length (flat css)) m; index = index + length css }, with_items σ (flat css)) end
  unfolding next_item
  turns-back {index} none k m p σ h i l r =
      let a : m.items + 0 ≡ m.items = omega arith in let b : p ≡ end = omega arith in
      let c : index + 0 ≡ index = omega arith in
      exec-turned (collect g) g k end p _ _ σ (omega arith) ∙ rw (a, b, c, append-nil σ.items) refl
  turns-back {index} (more {cs = cs} {css = css} e es) k m p σ h i l r =
      let t : List ℕ = entry_text cs in let z = length-append t (joined (entry_texts css)) in
      let y = length-append cs (flat css) in let s = entry-some e in
      let e₁ = item_back x node index end m g big p σ e (lies_left t (joined (entry_texts css)) h) (omega arith) (omega arith) in
      let e₂ = turns-back es (k - 1) (plus_items (length cs) m) (p + length t) (with_items σ cs) (lies_right t (joined (entry_texts css)) h)
      (omega arith) (omega arith) (omega arith) in
      let a : m.items + length (cs ++ flat css) ≡ m.items + length cs + length (flat css) = omega arith in
      let b : index + suc (length css) ≡ index + 1 + length css = omega arith in
      exec-turn (collect g) g k end p _ _ σ (omega arith) l ∙ rw (a, b, ← append_assoc σ.items cs (flat css)) (simp (executing, e₁, e₂))

-- the metadata of a node
pub metadata-back : (x : Context) (node end : ℕ) (g : List ℕ) (big : length g < 2 ^ 28) {css : List (List Content)} → Entries x.types
    node 0 css → (m : Made) (p : ℕ) (σ : Collected) → Lies g p (sized (joined (entry_texts css)))
    → p + length (sized (joined (entry_texts css))) ≤ end → m.items + length (flat css) ≤ x.limits.items
    → exec (collect g) (metadata x node end m) g p σ ≡ ok (plus_items (length (flat css)) m, with_items σ (flat css)) (p + length (sized (joined (entry_texts css))))
unfolding metadata meta_items
metadata-back x node end g big {css} es m p σ h i r =
    let t : List ℕ = joined (entry_texts css) in let n : ℕ = length t in let q : ℕ = p + length (vlq n) in
    let s = stand_sized t h in let z = sized-length t in
    let e₁ = block_back meta_frame 8 end n s.0 (omega (arith, h.inside)) (omega arith) in
    let e₂ = exec-many (collect g) g (q + n) q (next_item x node (q + n)) (record { made = m; index = 0 }) σ ∙ turns-back x node (q + n) g big es
    (q + n - q) m q σ s.1 refl (omega arith) r in
    let e₃ : p + length (sized t) ≡ q + n = omega arith in
    rw e₃ (simp (executing, exec-block, e₁, e₂))

-- ---- contents in a row, and the same by items

-- no content at the front is a further version
abbrev pub Opens : List Content → Type 0
Opens [] = Unit {0}
Opens (c ∷ cs) = c.version ≤ 1

pub further-none : (cs : List Content) → Opens cs → further cs ≡ 0
unfolding further
further-none [] o = refl
further-none (c ∷ cs) o = simp (le-ltb _ _ o)

further-are : (types : List Declared) (b : Content) (k : ℕ) (cs ds : List Content) → 1 < k → Versions types b k cs → Opens ds → further (cs ++ ds) ≡ length cs
unfolding further
further-are types b k [] ds l v o = further-none ds o
further-are types b k (c ∷ cs) ds l v o = let h : 1 < c.version = omega (arith, v.1) in simp (lt-ltb _ _ h, further-are types b (k + 1) cs ds (omega arith) v.4 o)

versions_text : (types : List Declared) (b : Content) (k : ℕ) (cs ds : List Content) → 1 < k → Versions types b k cs → items_text (cs ++ ds)
    ≡ joined (version_texts cs) ++ items_text ds
unfolding items_text content_text
versions_text types b k [] ds l v = refl
versions_text types b k (c ∷ cs) ds l v =
    let h : 1 < c.version = omega (arith, v.1) in let n : (c.version ≡ 0) → ⊥ = λ z. omega arith in
    simp (lt-leb _ _ h, ne_eqb _ _ n, versions_text types b (k + 1) cs ds (omega arith) v.4, append-nil, append_assoc)

entries-open : {types : List Declared} {node index : ℕ} {css : List (List Content)} → Entries types node index css → Opens (flat css)
entries-open none = tt
entries-open (more (one f a b v d fm) es) = omega arith
entries-open (more (several f a b v few) es) = omega (arith, v.1)

-- the contents of a node are written item by item
pub items-text : {types : List Declared} {node index : ℕ} {css : List (List Content)} → Entries types node index css → items_text (flat css) ≡ joined (entry_texts css)
unfolding items_text content_text item_text
items-text none = refl
items-text (more {css = css} (one {c} f a b v d fm) es) =
    let v' : c.version ≡ 0 = sym v in let l : c.version ≤ 1 = omega arith in
    simp (le-leb _ _ l, eq-eqb _ _ v', items-text es, append-nil, append_assoc)
items-text {types} (more {css = css} (several {c} {cs} f a b v few) es) =
    let v' : c.version ≡ 1 = sym v.1 in let l : c.version ≤ 1 = omega arith in
    let n : (c.version ≡ 0) → ⊥ = λ z. omega arith in
    simp (
      le-leb _ _ l,
      ne_eqb _ _ n,
      further-are types c 2 cs (flat css) (omega arith) v.4 (entries-open es),
      versions_text types c 2 cs
          (flat css) (omega arith) v.4,
      items-text es,
      append-nil,
      append_assoc,
    )
