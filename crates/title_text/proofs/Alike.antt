-- Two written files that differ in copied bytes alone, but for unpackers and types, read alike: places and lengths are the same.
-- Assumes nothing.
use mathlib.Core.Path.{◌≡◌, refl, sym, ap, ap₂, ◌∙◌, subst}
use mathlib.Core.Logic.{◌⊎◌, inl, inr}
use mathlib.Core.Bool.{Bool, true, false, cond, not, ◌&&◌, ◌||◌}
use mathlib.Core.List.{List, [], ◌∷◌, ◌++◌, append_assoc, append-nil}
use Prim.Native.Nat.{ℕ, zero, suc, ◌+◌, ◌-◌, ◌^◌, ◌%◌, ◌≤◌, ◌<◌}
use native.Mathlib.Omega.{arith}
use lib.Dec.{T, eqb}
use lib.ListN.{length, take, drop, length-append}
use lib.Seq.{take_at, drop_at}
use borrow.Author.Tests.{lt-ltb, le-ltb, lt-leb, le-leb, eq-eqb, ne_eqb}
use Rattle.machine.specs.Machine.{ret, here, Out, ok, refused, seen, passed, run, trace, ◌>>=◌, ◌>>◌, when◌then◌else◌, place, skip, check, turns, many, times}
use Rattle.cursor.specs.Rows.{Frame, Part, P, Events, has_inline, size_if, inline_size, meta_frame, reference_frame}
use Rattle.cursor.specs.Leaves as leaves
use Rattle.room.specs.Parts.{joined}
use Rattle.vlq.specs.Vlq.{vlq, sized}
use Rattle.cursor.specs.declared.Node.{Node}
use Rattle.cursor.specs.declared.Item.{Item}
use Rattle.machine.proofs.Laws.{running, ran, afterwards, trace-bind}
use Rattle.machine.proofs.Stable.{chain, ends, Held, Kept, kept}
use Rattle.room.proofs.Lies.{Lies, lies_left, lies_right, lies_at, lies_as, stand, joined_length}
use Rattle.vlq.proofs.Sized.{stand_sized, sized-length}
use Rattle.vlq.proofs.Back.{number-back, block_back}
use Rattle.machine.proofs.Agree.{Agree, AgreeUpTo, agree_on}
use Rattle.header.specs.Types.{Declared, Known, known, unknown, format_of}
use Rattle.metadata.specs.Tables.{plus_item, plus_node}
use Rattle.metadata.specs.Metadata.{Context, kind_of, field_of, row_of, field, contents, item_frame, universal, declared_format, version, rows_for, item, next_item, meta_items, metadata}
use Rattle.metadata.specs.declared.Made.{Made}
use Rattle.metadata.specs.declared.Label.{Label}
use Rattle.metadata.specs.declared.Limits.{Limits}
use Rattle.metadata.specs.declared.Contents.TheVariants as contents
use Rattle.metadata.proofs.Ways.{contents-universal, contents-versions, frame-all}
use Rattle.tree.specs.Tree.{folder, node, tree}
use Rattle.file.specs.Hidden.{is_hidden}
use Rattle.file_laws.specs.Private.{may_differ}
use Rattle.file_laws.proofs.Demand.{private_data}
use Rattle.title_text.specs.Description.{Content, content, Shape}
use Rattle.title_text.specs.Text.{further, field_text, item_text, universal_text, version_text, content_text, items_text, header_of, framed, own_text, node_text, whole_text, outer}
use Rattle.node.specs.Node.{in_tree, uri_place, target, reference, rest, front}
use Rattle.title_text.proofs.Collecting.{Collected, collect}
use Rattle.title_text.proofs.Sizes.{framed-length, framed-header, framed-most}
use Rattle.title_text.proofs.Unpackers.{packs_back}
use Rattle.title_text.proofs.Head.{head-back}
use Rattle.title_text.proofs.Nodes as nodes
use Rattle.title_text.proofs.Nodes.{Nodes, AllStay, stay_left, stay_right, alone, whole_length, inner_lies, nodes-length, nodes-outer, node-back, nodes-back}
use Rattle.title_text.proofs.Fronts.{own-inline, own-uri, Stays, Front, front-back, meta_back}
use Rattle.title_text.proofs.Items as entries
use Rattle.title_text.proofs.Items.{Labels, same-label, Versions, version_texts, version-back, FieldOk, field_back, Entry, one, several, Opens, further-none, entry-some, entry_text, Entries, entry_texts, flat, plus_items, items-text, item_back}
use Rattle.title_text.proofs.Pairs.{Each, none, more, each-length, each_take, AsLong, alike, long-on, outer-pair, fields, number, chosen, block, own_pair, items-pair, header-pair, node-pair, ContentPair, ShapePair, version-pair, universal-pair, field-pair}

ok_same : {A : Type 0} {a b : A} {p q : ℕ} → ok a p ≡ ok b q → (a ≡ b) × (p ≡ q)
ok_same e = (cc, cc)

-- m runs alike on g and k from `at` on: they agree on all that it reads and passes there but for private data
pub record Runs {A : Type 0} (g k : List ℕ) (m : P A) (at : ℕ) : Type 0 where
  pub keeps : Kept private_data g k (trace m g at)

held_on : (B : ℕ → Type 0) (es fs : Events) → Held private_data B es → Held private_data B fs → Held private_data B (es ++ fs)
held_on B [] fs x y = y
held_on B (seen κ p ∷ es) fs x y = (x.0, held_on B es fs x.1 y)
held_on B (passed w p n ∷ es) fs x y = (x.0, held_on B es fs x.1 y)

module _ {g k : List ℕ} where
  -- what was read agrees
  pub runs-chunk : {A : Type 0} {m : P A} {at : ℕ} {a : A} {q : ℕ} → run m g at ≡ ok a q → AgreeUpTo g k at q → Runs g k m at
  runs-chunk {m = m} {at = at} e h = let z = ends m g at e in record { keeps = kept private_data g k (trace m g at) at (chain m g at) (λ j lo hi n. h j lo (omega arith)) }

  -- a program that runs alike, and then one that does wherever that ended
  runs_on_lem : {A C : Type 0} {m : P A} {h : A → P C} {at : ℕ} → Runs g k m at → ((a : A) (q : ℕ) → run m g at ≡ ok a q → Runs g k (h a) q) → Runs g k (m >>= h) at
  unfolding afterwards
  runs_on_lem {A} {C} {m} {h} {at} x y = record { keeps = rw (trace-bind m h g at) (held_on _ (trace m g at) (afterwards h g (run m g at)) x.keeps (by (run m g at) refl)) }
    where
      by : (o : Out A) → run m g at ≡ o → Kept private_data g k (afterwards h g o)
      by (ok a q) e = (y a q e).keeps
      by (refused n p) e = tt

  -- and then another, where the answer is known
  runs_then : {A C : Type 0} {m : P A} (h : A → P C) {at : ℕ} {a : A} {q : ℕ} → run m g at ≡ ok a q → Runs g k m at → Runs g k (h a) q → Runs g k (m >>= h) at
  runs_then {A} {C} {m} h {at} {a} {q} e x y = runs_on_lem x λ b r z. let (u, v) = ok_same (sym e ∙ z) in rw (← u, ← v) y

  runs_ret : {A : Type 0} {a : A} {at : ℕ} → Runs g k (ret a) at
  unfolding trace
  runs_ret = record { keeps = tt }

  runs-check : {A : Type 0} (b : Bool) (n p : ℕ) {m : P A} {at : ℕ} → Runs g k m at → Runs g k (check b n p >> m) at
  unfolding trace ◌>>=◌ ◌>>◌ check
  runs-check true n p x = record { keeps = x.keeps }
  runs-check false n p x = record { keeps = tt }

  runs-place : {A : Type 0} (h : ℕ → P A) (at : ℕ) → Runs g k (h at) at → Runs g k (place >>= h) at
  unfolding trace ◌>>=◌ place
  runs-place h at x = record { keeps = x.keeps }

  -- passed over: private, or the same
  runs_skip : {A : Type 0} (w : Part) (n : ℕ) {m : P A} {at : ℕ} → (T (not (private_data w)) → Agree g k at n) → Runs g k m (at + n) → Runs g k (skip w n >> m) at
  unfolding trace ◌>>=◌ ◌>>◌ skip
  runs_skip w n {at = at} h x = record { keeps = (h, x.keeps) }

  -- a number that both have there
  pub agree : (p : ℕ) (s : List ℕ) → Lies g p s → Lies k p s → Agree g k p (length s)
  agree p s x y j lo hi =
      let e : p + (j - p) ≡ j = omega arith in
      rw e at (x.same (j - p) (omega arith)) ∙ sym (rw e at (y.same (j - p) (omega arith)))

  number-runs : (κ : Frame) (past end : ℕ) {p : ℕ} (n : ℕ) → Lies g p (vlq n) → Lies k p (vlq n) → n < 2 ^ 28 → p + length (vlq n) ≤ end → Runs g k (leaves.number κ past end) p
  number-runs κ past end {p} n x y l i = runs-chunk (number-back κ past end n x l i) (agree p (vlq n) x y)

  block_runs : (κ : Frame) (past end : ℕ) {p : ℕ} (n : ℕ) → Lies g p (vlq n) → Lies k p (vlq n) → n < 2 ^ 28 → p + length (vlq n) + n ≤ end → Runs g k (leaves.block κ past end) p
  block_runs κ past end {p} n x y l i = runs-chunk (block_back κ past end n x l i) (agree p (vlq n) x y)

format-is : (g : List ℕ) (p : ℕ) (o : Known) {v : ℕ} → o ≡ known v → (q : ℕ) → run (declared_format p o) g q ≡ ok v q
unfolding declared_format run
format-is g p o e q = rw e refl

format-runs : (g k : List ℕ) (p : ℕ) (o : Known) (q : ℕ) → Runs g k (declared_format p o) q
unfolding declared_format trace
format-runs g k p (known v) q = record { keeps = tt }
format-runs g k p unknown q = record { keeps = tt }

runs-else : {g k : List ℕ} {A : Type 0} {b : Bool} (m : P A) {n : P A} {at : ℕ} → b ≡ false → Runs g k n at → Runs g k (when b then m else n) at
unfolding when◌then◌else◌
runs-else {g} {k} m {n} {at} e x = subst (λ c. Runs g k (when c then m else n) at) (sym e) x

-- ---- what is private of a content, by its row

-- its data may differ
unfoldable pub is_private : Content → Bool
is_private c = eqb (c.format % 2) 1 && (eqb c.kind 1 || not (eqb c.field 0 || eqb c.field 3 || eqb c.field 13))

private_by : (format kind field said : ℕ) → cond (eqb kind 1) 0 field ≡ said
    → (eqb (format % 2) 1 && (eqb kind 1 || not (eqb field 0 || eqb field 3 || eqb field 13))) ≡
    (eqb (format % 2) 1 && (eqb kind 1 || not (eqb said 0 || eqb said 3 || eqb said 13)))
private_by format kind field said e = by (eqb kind 1) e
  where
    by : (b : Bool) → cond b 0 field ≡ said → (eqb (format % 2) 1 && (b || not (eqb field 0 || eqb field 3 || eqb field 13))) ≡
        (eqb (format % 2) 1 && (b || not (eqb said 0 || eqb said 3 || eqb said 13)))
    by true e = refl
    by false e = rw e refl

pub row-private : (f : List ℕ) (r : Item) → may_differ r ≡ is_private (content f r)
unfolding may_differ is_hidden is_private content
row-private f r = private_by r.format r.kind r.field _ refl

label-private : {g : List ℕ} {l : Label} {c : Content} → Labels g l c → (v d p n : ℕ) → may_differ (row_of l v d c.format p n) ≡ is_private c
unfolding may_differ is_hidden is_private
label-private {l = l} {c = c} lab v d p n = private_by c.format (kind_of l.field) (field_of l.field) c.field lab.field ∙ ap
    (λ k. eqb (c.format % 2) 1 && (eqb k 1 || not (eqb c.field 0 || eqb c.field 3 || eqb c.field 13))) lab.kind

is_false : (b : Bool) → T (not b) → b ≡ false
is_false true t = absurd t
is_false false t = refl

-- ---- metadata

-- the same but for copied bytes, as many; the same name, and the same data where it is not private
pub record Pair (c d : Content) : Type 0 where
  pub pair : ContentPair c d
  pub named : c.kind ≡ 1 → c.name ≡ d.name
  pub shown : is_private c ≡ false → c.bytes ≡ d.bytes

pub pairs : {cs ds : List Content} → Each Pair cs ds → Each ContentPair cs ds
pairs none = none
pairs (more w ws) = more w.pair (pairs ws)

module _ {g k : List ℕ} (big : length g < 2 ^ 28) where
  universal-runs : (x : Context) (l : Label) (end : ℕ) (m : Made) (p : ℕ) {c d : Content} → Labels g l c → Pair c d → c.format < 2 ^ 28 →
      Lies g p (universal_text c) → Lies k p (universal_text d) → p + length (universal_text c) ≤ end → Runs g k (universal x l end m) p
  unfolding universal universal_text
  universal-runs x l end m p {c} {d} lab w fm h h₂ i =
      let ss : List (List ℕ) = vlq c.format ∷ c.bytes ∷ [] in
      let ts : List (List ℕ) = vlq d.format ∷ d.bytes ∷ [] in
      let n : ℕ = length (joined ss) in let q : ℕ = p + length (vlq n) in let t = stand_sized (joined ss) h in
      let t₂ = stand_sized (joined ts) h₂ in let s = stand ss t.1 in let s₂ = stand ts t₂.1 in
      let y = sized-length (joined ss) in let z = joined_length ss in let z₂ = joined_length ts in
      let ef = ap (λ v. length (vlq v)) w.pair.format in let eb = w.pair.bytes.long in
      let en : length (joined ts) ≡ n = omega arith in let el = ap (λ v. length (vlq v)) en in
      let a = lies_as (ap vlq en) t₂.0 in
      let b : Lies k q (vlq c.format) = lies_at (omega arith) (lies_as (ap vlq (sym w.pair.format)) s₂.0) in
      let e₁ = block_back meta_frame 3 end n t.0 (omega (arith, h.inside)) (omega arith) in
      let e₂ = number-back meta_frame 3 (q + n) c.format s.0 fm (omega arith) in
      let r : ℕ = q + length (vlq c.format) in
      let shows : T (not (may_differ (row_of l 0 0 c.format r (q + n - r)))) → Agree g k r (q + n - r) = λ t.
      let y₂ : Lies k r c.bytes = lies_as (sym (w.shown (sym (label-private lab 0 0 r (q + n - r)) ∙ is_false _ t))) (lies_at (omega arith) s₂.1.0) in
      λ j lo hi. agree r c.bytes s.1.0 y₂ j lo (omega arith) in
      runs-place _ p (runs-check _ _ _ (runs_then _ e₁ (block_runs meta_frame 3 end n t.0 a (omega (arith, h.inside)) (omega arith))
      (runs-check _ _ _ (runs-place _ q (runs_then _ e₂ (number-runs meta_frame 3 (q + n) c.format s.0 b fm (omega arith)) (runs-place _ _ (runs_skip _ _ shows runs_ret)))))))

  version-runs : (x : Context) (l : Label) (end before : ℕ) (m : Made) (p : ℕ) {c d : Content} → Labels g l c → Pair c d → format_of x.types
      c.declared ≡ known c.format → c.declared < 2 ^ 28 → Lies g p (version_text c) → Lies k p (version_text d) → p + length
      (version_text c) ≤ end
      → Runs g k (version x l end before m) p
  unfolding version version_text
  version-runs x l end before m p {c} {d} lab w fm dl h h₂ i =
      let n : ℕ = length c.bytes in
      let ss : List (List ℕ) = vlq c.declared ∷ sized c.bytes ∷ [] in
      let ts : List (List ℕ) = vlq d.declared ∷ sized d.bytes ∷ [] in
      let s = stand ss h in let s₂ = stand ts h₂ in let t₁ = stand_sized c.bytes s.1.0 in
      let t₂ = stand_sized d.bytes s₂.1.0 in let y = sized-length c.bytes in let z = joined_length ss in
      let ed = ap (λ v. length (vlq v)) w.pair.declared in let eb = w.pair.bytes.long in
      let a = lies_as (ap vlq (sym w.pair.declared)) s₂.0 in
      let q : ℕ = p + length (vlq c.declared) in
      let b : Lies k q (vlq n) = lies_at (omega arith) (lies_as (ap vlq (sym eb)) t₂.0) in
      let e₁ = number-back meta_frame 3 end c.declared s.0 dl (omega arith) in
      let e₂ = block_back meta_frame 3 end n t₁.0 (omega (arith, h.inside)) (omega arith) in
      let r : ℕ = q + length (vlq n) in
      let shows : T (not (may_differ (row_of l (m.items + 1 - before) c.declared c.format r n))) → Agree g k r n = λ t.
      let el = ap (λ v. length (vlq v)) eb in
      agree r c.bytes t₁.1 (lies_as (sym (w.shown (sym (label-private lab (m.items + 1 - before) c.declared r n) ∙ is_false _ t))) (lies_at (omega arith) t₂.1)) in
      runs-place _ p (runs-check _ _ _ (runs_then _ e₁ (number-runs meta_frame 3 end c.declared s.0 a dl (omega arith))
      (runs_then _ (format-is g p _ fm q) (format-runs g k p _ q)
      (runs_then _ e₂ (block_runs meta_frame 3 end n t₁.0 b (omega (arith, h.inside)) (omega arith))
      (runs-place _ _ (runs_skip _ _ shows runs_ret))))))

  versions_runs : (x : Context) (l : Label) (end before : ℕ) (b : Content) → Labels g l b → (cs ds : List Content) (m : Made) (p : ℕ) → Each
      Pair cs ds → Versions x.types b (m.items + 1 - before) cs → before ≤ m.items → m.items + length cs ≤ x.limits.items
      → Lies g p (joined (version_texts cs)) → Lies k p (joined (version_texts ds)) → p + length (joined (version_texts cs)) ≤ end → Runs g k
      (times (length cs) (version x l end before) m) p
  unfolding times
  versions_runs x l end before b lab [] ds m p w v o r h h₂ i = runs_ret
  versions_runs x l end before b lab (c ∷ cs) [] m p w v o r h h₂ i = elim w [ ]
  versions_runs x l end before b lab (c ∷ cs) (d ∷ ds) m p (more w ws) v o r h h₂ i =
      let z = length-append (version_text c) (joined (version_texts cs)) in
      let lc = lies_left (version_text c) (joined (version_texts cs)) h in
      let ld = lies_left (version_text d) (joined (version_texts ds)) h₂ in
      let e₁ = ran (collect g) _ g p (record { nodes = []; items = [] })
      (version-back x l end m g p (record { nodes = []; items = [] }) c (same-label lab v.0) (omega arith) big before v.1 v.2 v.3
      lc (omega arith)) in
      let e : m.items + 1 - before + 1 ≡ m.items + 1 + 1 - before = omega arith in
      let n : length (version_text d) ≡ length (version_text c) = sym (version-pair w.pair).long in
      runs_then _ e₁ (version-runs x l end before m p (same-label lab v.0) w v.2 v.3 lc ld (omega arith))
      (versions_runs x l end before b lab cs ds (plus_item m) (p + length (version_text c)) ws (rw e at v.4) (omega arith) (omega arith)
      (lies_right (version_text c) (joined (version_texts cs)) h)
      (lies_at (ap (λ j. p + j) n) (lies_right (version_text d) (joined (version_texts ds)) h₂)) (omega arith))

  -- ---- an item's field and the number of its versions

  field-runs : (end p : ℕ) {c d : Content} → Pair c d → FieldOk c → Lies g p (field_text c) → Lies k p (field_text d) → p + length (field_text c) ≤ end → Runs g k (field end) p
  unfolding field_text field
  field-runs end p {c} {d} w (inl (kd, small, nil)) h h₂ i =
      let fb = field_back g big end p c (inl (kd, small, nil)) h i in
      let kd₂ : d.kind ≡ 0 = sym w.pair.kind ∙ kd in
      let t₂ : field_text d ≡ field_text c = rw (kd, kd₂, w.pair.field) refl in
      runs-chunk fb.ran (agree p (field_text c) h (lies_as t₂ h₂))
  field-runs end p {c} {d} w (inr (kd, nil, some)) h h₂ i =
      let n : ℕ = length c.name in let kd₂ : d.kind ≡ 1 = sym w.pair.kind ∙ kd in
      let t : cond (eqb c.kind 1) (sized c.name) (joined (vlq 0 ∷ vlq c.field ∷ [])) ≡ sized c.name = rw kd refl in
      let t₂ : cond (eqb d.kind 1) (sized d.name) (joined (vlq 0 ∷ vlq d.field ∷ [])) ≡ sized d.name = rw kd₂ refl in
      let h' : Lies g p (sized c.name) = lies_as t h in let s = stand_sized c.name h' in
      let s₂ = stand_sized d.name (lies_as t₂ h₂) in let z = sized-length c.name in
      let i' : p + length (sized c.name) ≤ end = rw t at i in
      let a : Lies k p (vlq n) = lies_as (ap vlq (sym w.pair.name.long)) s₂.0 in
      let e₁ = block_back meta_frame 3 end n s.0 (omega (arith, h'.inside)) (omega arith) in
      let el = ap (λ v. length (vlq v)) w.pair.name.long in
      let same : Lies k (p + length (vlq n)) c.name = lies_as (sym (w.named kd)) (lies_at (omega arith) s₂.1) in
      runs_then _ e₁ (block_runs meta_frame 3 end n s.0 a (omega (arith, h'.inside)) (omega arith))
      (runs-else _ (ne_eqb n 0 (λ (z : n ≡ 0). omega arith))
      (runs-place _ _ (runs_skip _ _ (λ _. agree (p + length (vlq n)) c.name s.1 same) runs_ret)))

  contents-runs : (end p n : ℕ) → n < 2 ^ 28 → Lies g p (vlq n) → Lies k p (vlq n) → p + length (vlq n) ≤ end → Runs g k (contents end) p
  unfolding contents when◌then◌else◌
  contents-runs end p n l x y i = runs_then _ (number-back meta_frame 3 end n x l i) (number-runs meta_frame 3 end n x y l i) (by (eqb n 0))
    where
      by : (b : Bool) {at : ℕ} → Runs g k (when b then ret contents.Universal else ret (contents.Versions n)) at
      by true = runs_ret
      by false = runs_ret

  frame-runs : (end p n : ℕ) {c d : Content} → Pair c d → FieldOk c → n < 2 ^ 28 → Lies g p (field_text c) → Lies g (p + length (field_text c))
      (vlq n) → Lies k p (field_text d) → Lies k (p + length (field_text d)) (vlq n)
      → p + length (field_text c) + length (vlq n) ≤ end → Runs g k (item_frame end) p
  unfolding item_frame
  frame-runs end p n {c} {d} w f l a b a₂ b₂ i =
      let fb = field_back g big end p c f a (omega arith) in let e = (field-pair w.pair).long in
      let q : ℕ = p + length (field_text c) in let b₃ : Lies k q (vlq n) = lies_at (omega arith) b₂ in
      let cr = contents-runs end q n l b b₃ i in
      runs_then _ fb.ran (field-runs end p w f a a₂ (omega arith)) (runs_on_lem cr (λ a q e. runs_ret))

  -- ---- an item

  item-runs : (x : Context) (node index end : ℕ) (m : Made) (p : ℕ) {cs ds : List Content} → Each Pair cs ds → Entry x.types node index
      cs → Lies g p (entry_text cs) → Lies k p (entry_text ds) → p + length (entry_text cs) ≤ end → m.items + length cs ≤ x.limits.items
      → Runs g k (item x node index end m) p
  unfolding item rows_for
  item-runs x node index end m p none y h h₂ i r = elim y [ ]
  item-runs x node index end m p (more {b = d} w none) (one {c} f a b v dc fm) h h₂ i r =
      let v' : c.version ≡ 0 = sym v in let v₂ : d.version ≡ 0 = sym w.pair.version ∙ v' in
      let ss : List (List ℕ) = field_text c ∷ vlq 0 ∷ universal_text c ∷ [] in
      let ts : List (List ℕ) = field_text d ∷ vlq 0 ∷ universal_text d ∷ [] in
      let t : entry_text (c ∷ []) ≡ joined ss = rw v' refl in
      let t₂ : entry_text (d ∷ []) ≡ joined ts = rw v₂ refl in
      let s = stand ss (lies_as t h) in let s₂ = stand ts (lies_as t₂ h₂) in let z = joined_length ss in
      let i' : p + length (joined ss) ≤ end = rw t at i in
      let fb = field_back g big end p c f s.0 (omega arith) in
      let e₂ = number-back meta_frame 3 end 0 s.1.0 (omega arith) (omega arith) in
      let e₁ = sym (frame-all end g p fb.ran (sym (contents-universal end g (p + length (field_text c)) e₂ refl))) in
      let ef = (field-pair w.pair).long in let q : ℕ = p + length (field_text c) + length (vlq 0) in
      let u₂ : Lies k q (universal_text d) = lies_at (omega arith) s₂.1.1.0 in
      runs_then _ e₁ (frame-runs end p 0 w f (omega arith) s.0 s.1.0 s₂.0 s₂.1.0 (omega arith))
      (universal-runs x _ end m q (fb.labels node index a b) w fm s.1.1.0 u₂ (omega arith))
  item-runs x node index end m p (more {b = d} {t = ds} w ws) (several {c} {cs} f a b v few) h h₂ i r =
      let n : ℕ = suc (length cs) in let v' : c.version ≡ 1 = sym v.1 in
      let v₂ : d.version ≡ 1 = sym w.pair.version ∙ v' in
      let en : suc (length ds) ≡ n = ap suc (sym (each-length ws)) in
      let ss : List (List ℕ) = field_text c ∷ vlq n ∷ joined (version_texts (c ∷ cs)) ∷ [] in
      let ts : List (List ℕ) = field_text d ∷ vlq n ∷ joined (version_texts (d ∷ ds)) ∷ [] in
      let t : entry_text (c ∷ cs) ≡ joined ss = rw v' refl in
      let t₂ : entry_text (d ∷ ds) ≡ joined ts = rw (v₂, en) refl in
      let s = stand ss (lies_as t h) in let s₂ = stand ts (lies_as t₂ h₂) in let z = joined_length ss in
      let i' : p + length (joined ss) ≤ end = rw t at i in
      let fb = field_back g big end p c f s.0 (omega arith) in
      let e₂ = number-back meta_frame 3 end n s.1.0 few (omega arith) in
      let e₁ = sym (frame-all end g p fb.ran (sym (contents-versions end g (p + length (field_text c)) e₂ (λ z. omega arith)))) in
      let ef = (field-pair w.pair).long in let q : ℕ = p + length (field_text c) + length (vlq n) in
      let u₂ : Lies k q (joined (version_texts (d ∷ ds))) = lies_at (omega arith) s₂.1.1.0 in
      let j : 1 ≡ m.items + 1 - m.items = omega arith in
      runs_then _ e₁ (frame-runs end p n w f few s.0 s.1.0 s₂.0 s₂.1.0 (omega arith))
      (versions_runs x (record { node = node; item = index; field = fb.is }) end m.items c (fb.labels node index a b) (c ∷ cs) (d ∷ ds) m q
      (more w ws) (subst (λ j. Versions x.types c j (c ∷ cs)) j v) (omega arith) r s.1.1.0 u₂ (omega arith))

-- ---- items end to end

versions_pair : {cs ds : List Content} → Each Pair cs ds → AsLong (joined (version_texts cs)) (joined (version_texts ds))
versions_pair none = alike []
versions_pair (more w ws) = long-on (version-pair w.pair) (versions_pair ws)

entry-pair : {cs ds : List Content} → Each Pair cs ds → AsLong (entry_text cs) (entry_text ds)
entry-pair none = alike []
entry-pair (more {a = c} {b = d} {s = cs} {t = ds} w ws) =
    fields (more (field-pair w.pair) (more (number (ap₂ (λ (a b : ℕ). cond (eqb a 0) 0 (suc b)) w.pair.version (each-length ws)))
    (more (chosen (ap (λ n. eqb n 0) w.pair.version) (universal-pair w.pair) (versions_pair (more w ws))) none)))

entries-pair : {css dss : List (List Content)} → Each (Each Pair) css dss → AsLong (joined (entry_texts css)) (joined (entry_texts dss))
entries-pair none = alike []
entries-pair (more w ws) = long-on (entry-pair w) (entries-pair ws)

runs_here : {g k : List ℕ} {A : Type 0} (h : ℕ → P A) (at : ℕ) → Runs g k (h at) at → Runs g k (here h) at
unfolding trace
runs_here h at x = record { keeps = x.keeps }

runs-if : {g k : List ℕ} {A : Type 0} {b : Bool} {m : P A} (n : P A) {at : ℕ} → b ≡ true → Runs g k m at → Runs g k (when b then m else n) at
unfolding when◌then◌else◌
runs-if {g} {k} {m = m} n {at} e x = subst (λ c. Runs g k (when c then m else n) at) (sym e) x

module _ (g k : List ℕ) (big : length g < 2 ^ 28) (x : Context) (node end : ℕ) where
  next-run : (index : ℕ) (m : Made) (p : ℕ) {cs : List Content} → Entry x.types node index cs → Lies g p (entry_text cs) → p + length
      (entry_text cs) ≤ end → m.items + length cs ≤ x.limits.items
      → run (next_item x node end (record { made = m; index = index })) g p ≡ ok (record { made = plus_items (length cs) m; index = index + 1 }) (p + length (entry_text cs))
  unfolding next_item
  next-run index m p e h i r =
      let e₁ = ran (collect g) _ g p (record { nodes = []; items = [] }) (item_back x node index end m g big p (record { nodes = []; items = [] }) e h i r) in
      simp (running, e₁)

  next-runs : (index : ℕ) (m : Made) (p : ℕ) {cs ds : List Content} → Each Pair cs ds → Entry x.types node index cs → Lies g p
      (entry_text cs) → Lies k p (entry_text ds) → p + length (entry_text cs) ≤ end → m.items + length cs ≤ x.limits.items
      → Runs g k (next_item x node end (record { made = m; index = index })) p
  unfolding next_item
  next-runs index m p w e h h₂ i r = runs_on_lem (item-runs big x node index end m p w e h h₂ i r) (λ a q e. runs_ret)

  turns-runs : {index : ℕ} {css dss : List (List Content)} → Each (Each Pair) css dss → Entries x.types node index css → (t : ℕ) (m : Made)
      (p : ℕ) → Lies g p (joined (entry_texts css)) → Lies k p (joined (entry_texts dss))
      → p + length (joined (entry_texts css)) ≡ end → end ≤ p + t → m.items + length (flat css) ≤ x.limits.items → Runs g k
      (turns t end (next_item x node end) (record { made = m; index = index })) p
  unfolding turns
  turns-runs w entries.none zero m p h h₂ i l r = runs_ret
  turns-runs w entries.none (suc t) m p h h₂ i l r = runs_here _ p (runs-else _ (le-ltb p end (omega arith)) runs_ret)
  turns-runs (more w ws) (entries.more {cs = cs} {css = css} e es) zero m p h h₂ i l r = let z = length-append (entry_text cs)
      (joined (entry_texts css)) in absurd (omega (arith, entry-some e))
  turns-runs {index} (more {b = ds} {t = dss} w ws) (entries.more {cs = cs} {css = css} e es) (suc t) m p h h₂ i l r =
      let a : List ℕ = entry_text cs in let b : List ℕ = entry_text ds in
      let z = length-append a (joined (entry_texts css)) in let y = length-append cs (flat css) in
      let s = entry-some e in let n = (entry-pair w).long in let lc = lies_left a (joined (entry_texts css)) h in
      let ld = lies_left b (joined (entry_texts dss)) h₂ in
      runs_here _ p (runs-if _ (lt-ltb p end (omega arith))
      (runs_then _ (next-run index m p e lc (omega arith) (omega arith)) (next-runs index m p w e lc ld (omega arith) (omega arith))
      (turns-runs ws es t (plus_items (length cs) m) (p + length a) (lies_right a (joined (entry_texts css)) h)
      (lies_at (omega arith) (lies_right b (joined (entry_texts dss)) h₂)) (omega arith) (omega arith) (omega arith))))

metadata-runs : (g k : List ℕ) → length g < 2 ^ 28 → (x : Context) (node end : ℕ) {css dss : List (List Content)} → Each (Each Pair) css
    dss → Entries x.types node 0 css → (m : Made) (p : ℕ) → Lies g p (sized (joined (entry_texts css))) → Lies k p
    (sized (joined (entry_texts dss)))
    → p + length (sized (joined (entry_texts css))) ≤ end → m.items + length (flat css) ≤ x.limits.items → Runs g k (metadata x node end m) p
unfolding metadata meta_items many
metadata-runs g k big x node end {css} {dss} w es m p h h₂ i r =
    let t : List ℕ = joined (entry_texts css) in let n : ℕ = length t in let q : ℕ = p + length (vlq n) in
    let s = stand_sized t h in let s₂ = stand_sized (joined (entry_texts dss)) h₂ in let z = sized-length t in
    let en : length (joined (entry_texts dss)) ≡ n = sym (entries-pair w).long in
    let el = ap (λ v. length (vlq v)) en in
    let a : Lies k p (vlq n) = lies_as (ap vlq en) s₂.0 in
    let b : Lies k q (joined (entry_texts dss)) = lies_at (omega arith) s₂.1 in
    let e₁ = block_back meta_frame 8 end n s.0 (omega (arith, h.inside)) (omega arith) in
    runs_then _ e₁ (block_runs meta_frame 8 end n s.0 a (omega (arith, h.inside)) (omega arith))
    (runs-place _ q (runs_on_lem (runs_here _ q (turns-runs g k big x node (q + n) w es (q + n - q) m q s.1 b refl (omega arith) r)) (λ a q e. runs_ret)))

-- ---- the other side's items, grouped alike

abbrev Numbered : ℕ → List Content → Type 0
Numbered n [] = Unit {0}
Numbered n (c ∷ cs) = (n ≡ c.version) × Numbered (n + 1) cs

numbered : (types : List Declared) (b : Content) (n : ℕ) {cs ds : List Content} → Each Pair cs ds → Versions types b n cs → Numbered n ds
numbered types b n none v = tt
numbered types b n (more w ws) v = (v.1 ∙ w.pair.version, numbered types b (n + 1) ws v.4)

further-all : (n : ℕ) (cs ds : List Content) → 1 < n → Numbered n cs → Opens ds → further (cs ++ ds) ≡ length cs
unfolding further
further-all n [] ds l v o = further-none ds o
further-all n (c ∷ cs) ds l v o = let h : 1 < c.version = omega (arith, v.0) in simp (lt-ltb _ _ h, further-all (n + 1) cs ds (omega arith) v.1 o)

numbered-text : (n : ℕ) (cs ds : List Content) → 1 < n → Numbered n cs → items_text (cs ++ ds) ≡ joined (version_texts cs) ++ items_text ds
unfolding items_text content_text
numbered-text n [] ds l v = refl
numbered-text n (c ∷ cs) ds l v =
    let h : 1 < c.version = omega (arith, v.0) in let z : (c.version ≡ 0) → ⊥ = λ z. omega arith in
    simp (lt-leb _ _ h, ne_eqb _ _ z, numbered-text (n + 1) cs ds (omega arith) v.1, append-nil, append_assoc)

opens_pair : {types : List Declared} {node index : ℕ} {css dss : List (List Content)} → Entries types node index css → Each (Each Pair) css dss → Opens (flat dss)
opens_pair entries.none none = tt
opens_pair (entries.more (one f a b v d fm) es) (more (more w none) ws) = omega (arith, w.pair.version)
opens_pair (entries.more (several f a b v few) es) (more (more w vs) ws) = omega (arith, w.pair.version, v.1)

items-text_pair : {types : List Declared} {node index : ℕ} {css dss : List (List Content)} → Entries types node index css → Each (Each Pair)
    css dss → items_text (flat dss) ≡ joined (entry_texts dss)
unfolding items_text content_text item_text
items-text_pair entries.none none = refl
items-text_pair (entries.more (one {c} f a b v dc fm) es) (more (more {b = d} w none) ws) =
    let v' : d.version ≡ 0 = sym (v ∙ w.pair.version) in let l : d.version ≤ 1 = omega arith in
    simp (le-leb _ _ l, eq-eqb _ _ v', items-text_pair es ws, append-nil, append_assoc)
items-text_pair {types} (entries.more (several {c} {cs} f a b v few) es) (more {t = dss} (more {b = d} {t = ds} w vs) ws) =
    let v' : d.version ≡ 1 = sym (v.1 ∙ w.pair.version) in
    let l : d.version ≤ 1 = omega arith in let n : (d.version ≡ 0) → ⊥ = λ z. omega arith in
    let nb = numbered types c 2 vs v.4 in
    simp (
      le-leb _ _ l,
      ne_eqb _ _ n,
      further-all 2 ds (flat dss) (omega arith) nb (opens_pair es ws),
      numbered-text 2 ds (flat dss)
          (omega arith) nb,
      items-text_pair es ws,
      append-nil,
      append_assoc,
    )

pub each-by : {A : Type 0} {R Q : A → A → Type 0} → ((a b : A) → R a b → Q a b) → {s t : List A} → Each R s t → Each Q s t
each-by h none = none
each-by h (more {a = a} {b = b} w ws) = more (h a b w) (each-by h ws)

-- a pairing of a list in two parts is one of each
each-split : {A : Type 0} {R : A → A → Type 0} (a b : List A) {c : List A} → Each R (a ++ b) c → (u : List A) × (v : List A) × (c ≡ u ++ v) × Each R a u × Each R b v
each-split [] b {c} w = ([], c, refl, none, w)
each-split (x ∷ a) b (more {b = y} w ws) = let (u, v, e, s, t) = each-split a b ws in (y ∷ u, v, ap (λ z. y ∷ z) e, more w s, t)

regroup : (css : List (List Content)) {cs : List Content} → Each Pair (flat css) cs → (dss : List (List Content)) × (cs ≡ flat dss) × Each (Each Pair) css dss
regroup [] none = ([], refl, none)
regroup (cs ∷ css) w = let (u, v, e, s, t) = each-split cs (flat css) w in let (dss, q, r) = regroup css t in (u ∷ dss, e ∙ ap (λ z. u ++ z) q, more s r)

-- ---- a node up to its contents

-- the same but for copied bytes, as many, and with the same unpackers and URI
abbrev pub Shapes : Shape → Shape → Type 0
Shapes r s = ShapePair r s × (r.unpackers ≡ s.unpackers) × (r.reference ≡ 4 → r.body ≡ s.body)

module _ (g k : List ℕ) (big : length g < 2 ^ 28) where
  reference-runs : (header_end size contained stop q : ℕ) {r s : Shape} → Shapes r s → (r.reference ≡ 1) ⊎
      ((r.reference ≡ 4) × (contained ≡ 0)) → Lies g q (own_text r) → Lies k q (own_text s) → q + length (own_text r) ≤ stop → Runs g k
      (reference header_end size contained stop) q
  unfolding reference target uri_place
  reference-runs header_end size contained stop q {r} {s} w (inl e) h h₂ i =
      let t = own-inline r e in
      let a = stand (vlq 1 ∷ r.body ∷ []) (lies_as t h) in
      let b = stand (vlq 1 ∷ s.body ∷ []) (lies_as (own-inline s (sym w.0.reference ∙ e)) h₂) in
      let z = joined_length (vlq 1 ∷ r.body ∷ []) in
      let y = ap length t in
      let e₁ = number-back reference_frame 3 stop 1 a.0 (omega arith) (omega arith) in
      runs-place _ q (runs_then _ e₁ (number-runs reference_frame 3 stop 1 a.0 b.0 (omega arith) (omega arith))
      (runs-check _ _ _ (runs-check _ _ _ (runs-check _ _ _ (runs-if _ refl (runs-place _ _ runs_ret))))))
  reference-runs header_end size contained stop q {r} {s} w (inr (e, f)) h h₂ i =
      let n : ℕ = length r.body in let t = own-uri r e in
      let a = stand (vlq 4 ∷ sized r.body ∷ []) (lies_as t h) in
      let b = stand (vlq 4 ∷ sized s.body ∷ []) (lies_as (own-uri s (sym w.0.reference ∙ e)) h₂) in
      let u = stand_sized r.body a.1.0 in let v = stand_sized s.body b.1.0 in
      let z = joined_length (vlq 4 ∷ sized r.body ∷ []) in
      let y = ap length t in let x = sized-length r.body in let el = ap (λ v. length (vlq v)) w.0.body.long in
      let same : Lies k (q + length (vlq 4) + length (vlq n)) r.body = lies_as (sym (w.2 e)) (lies_at (omega arith) v.1) in
      let m : Lies k (q + length (vlq 4)) (vlq n) = lies_as (ap vlq (sym w.0.body.long)) v.0 in
      let e₁ = number-back reference_frame 3 stop 4 a.0 (omega arith) (omega arith) in
      let e₂ = block_back reference_frame 3 stop n u.0 (omega (arith, h.inside)) (omega arith) in
      runs-place _ q (runs_then _ e₁ (number-runs reference_frame 3 stop 4 a.0 b.0 (omega arith) (omega arith))
      (runs-check _ _ _ (runs-check _ _ _ (runs-check _ _ _ (runs-else _ refl (runs-else _ refl (runs-else _ refl
      (runs_then _ e₂ (block_runs reference_frame 3 stop n u.0 m (omega (arith, h.inside)) (omega arith))
      (runs-place _ _ (runs_skip _ _ (λ _. agree (q + length (vlq 4) + length (vlq n)) r.body u.1 same) runs_ret))))))))))

  front-runs : (x : Context) (parent depth least end : ℕ) (m : Made) (r s : Shape) (cs ds : List Content) (n p : ℕ) → Front x.limits
      x.types parent depth m r cs → Stays r → Shapes r s → Each Pair cs ds
      → header_of r.contained (joined (sized (items_text cs) ∷ sized r.unpackers ∷ [])) (length (own_text r) + n) + (length (own_text r) + n) < 2 ^ 28
      → Lies g p (node_text r cs n) → Lies k p (node_text s ds n) → p +
      (header_of r.contained (joined (sized (items_text cs) ∷ sized r.unpackers ∷ [])) (length (own_text r) + n) +
      (length (own_text r) + n)) ≤ end
      → least ≤ p + (header_of r.contained (joined (sized (items_text cs) ∷ sized r.unpackers ∷ [])) (length (own_text r) + n) +
      (length (own_text r) + n)) → Runs g k (front x parent depth (in_tree least end) m) p
  unfolding front node_text framed rest
  front-runs x parent depth least end m r s cs ds n p f stays w ws small h h₂ i j =
      let rest : List ℕ = joined (sized (items_text cs) ∷ sized r.unpackers ∷ []) in
      let rest₂ : List ℕ = joined (sized (items_text ds) ∷ sized s.unpackers ∷ []) in
      let c : ℕ = length (own_text r) + n in let H : ℕ = header_of r.contained rest c in let N : ℕ = H + c in
      let ps : List (List ℕ) = vlq N ∷ vlq r.contained ∷ vlq H ∷ rest ∷ own_text r ∷ [] in
      let a = stand ps h in
      let t = stand (sized (items_text cs) ∷ sized r.unpackers ∷ []) a.1.1.1.0 in
      let own-long = (own_pair w.0).long in let ip = items-pair (pairs ws) in
      let rp : AsLong rest rest₂ = fields (more (block ip) (more (block w.0.unpackers) none)) in
      let ec : c ≡ length (own_text s) + n = ap (λ v. v + n) own-long in
      let eH : H ≡ header_of s.contained rest₂ (length (own_text s) + n) = header-pair w.0.contained rp ec in
      let eN = ap₂ ◌+◌ eH ec in let c₂ : ℕ = length (own_text s) + n in
      let a₂ = stand (vlq (header_of s.contained rest₂ c₂ + c₂) ∷ vlq s.contained ∷ vlq (header_of s.contained rest₂ c₂) ∷ rest₂ ∷ own_text s ∷ []) h₂ in
      let t₂ = stand (sized (items_text ds) ∷ sized s.unpackers ∷ []) a₂.1.1.1.0 in
      let lN = ap (λ v. length (vlq v)) eN in let lh = ap (λ v. length (vlq v)) w.0.contained in
      let lH = ap (λ v. length (vlq v)) eH in
      let k₁ : Lies k p (vlq N) = lies_as (ap vlq (sym eN)) a₂.0 in
      let k₂ : Lies k (p + length (vlq N)) (vlq r.contained) = lies_at (omega arith) (lies_as (ap vlq (sym w.0.contained)) a₂.1.0) in
      let k₃ : Lies k (p + length (vlq N) + length (vlq r.contained)) (vlq H) = lies_at (omega arith) (lies_as (ap vlq (sym eH)) a₂.1.1.0) in
      let q : ℕ = p + length (vlq N) + length (vlq r.contained) + length (vlq H) in
      let fl = framed-length r.contained rest (own_text r) n small in
      let fh = framed-header r.contained rest c small in
      let z = joined_length (sized (items_text cs) ∷ sized r.unpackers ∷ []) in
      let si = (block ip).long in let su = sized-length r.unpackers in
      let e₁ = head-back end least g p r.contained rest (own_text r) n f.few small h (omega arith) (omega arith) in
      let chunk : AgreeUpTo g k p q = agree_on g k
      (agree_on g k (agree p (vlq N) a.0 k₁) (agree (p + length (vlq N)) (vlq r.contained) a.1.0 k₂))
      (agree (p + length (vlq N) + length (vlq r.contained)) (vlq H) a.1.1.0 k₃) in
      let e₂ = ran (collect g) _ g q (record { nodes = []; items = [] })
      (meta_back x m.nodes (p + H) g big f.entries cs f.contents m q (record { nodes = []; items = [] }) t.0 (omega arith)
      f.item_room) in
      let (dss, dq, dw) = regroup f.groups (subst (λ v. Each Pair v ds) (sym f.contents) ws) in
      let it : items_text cs ≡ joined (entry_texts f.groups) = ap items_text (sym f.contents) ∙ items-text f.entries in
      let it₂ : items_text ds ≡ joined (entry_texts dss) = ap items_text dq ∙ items-text_pair f.entries dw in
      let il = ap (λ v. length (sized v)) it in let cl = ap length f.contents in let room = f.item_room in
      let m₂ : Lies k q (sized (items_text ds)) = lies_at (omega arith) t₂.0 in
      let mr = metadata-runs g k big x m.nodes (p + H) dw f.entries m q (lies_as (ap sized it) t.0) (lies_as (ap sized it₂) m₂) (omega arith) (omega arith) in
      let b : ℕ = q + length (sized (items_text cs)) in
      let i₃ : b + length (sized r.unpackers) ≡ p + H = omega arith in
      let e₃ = packs_back g big r.contained (p + H) b f.unpackers r.unpackers r.unpacker_count f.packed f.unpacker_count f.unpacked t.1.0 i₃ in
      let u₂ : Lies k b (sized r.unpackers) = lies_at (omega arith) (lies_as (ap sized (sym w.1)) t₂.1.0) in
      let ur = runs-chunk e₃ (λ v lo hi. agree b (sized r.unpackers) t.1.0 u₂ v lo (omega arith)) in
      let o₁ : Lies g (p + H) (own_text r) = lies_at (omega arith) a.1.1.1.1.0 in
      let rl = rp.long in
      let o₂ : Lies k (p + H) (own_text s) = lies_at (omega arith) a₂.1.1.1.1.0 in
      let rr = reference-runs x.header_end x.size r.contained (p + N) (p + H) w (f.refers stays) o₁ o₂ (omega arith) in
      runs-place _ p (runs_then _ e₁ (runs-chunk e₁ chunk) (runs_then _ e₂ mr
      (runs_on_lem (runs_then _ e₃ ur (runs-place _ (p + H) (runs-check _ _ _ (runs_on_lem rr (λ a q e. runs_ret))))) (λ a q e. runs_ret))))

-- ---- nodes

-- what is left of the other side's nodes behind those that were paired
rest-outer : {limits : Limits} {types : List Declared} {d parent n : ℕ} {m : Made} {rs : List Shape} {cs : List Content}
    {bs : List (List ℕ)} → Nodes limits types d parent m n rs cs bs → (ss : List Shape) (es : List Content) {rs₂ : List Shape}
    {cs₂ : List Content}
    → Each Shapes (rs ++ ss) rs₂ → Each Pair (cs ++ es) cs₂ → (rs₃ : List Shape) × (cs₃ : List Content) × Each Shapes ss rs₃ × Each Pair es cs₃
    × (drop n (outer rs₂ cs₂) ≡ outer rs₃ cs₃)
unfolding outer
rest-outer nodes.none ss es {rs₂} {cs₂} x y = (rs₂, cs₂, x, y, refl)
rest-outer (nodes.more {n = n} {r = r} {rs = rs} {ss = ts} {cs = cs} {ds = ds} {es = fs} f ys xs) ss es {cs₂ = cs₂} (more {b = s} {t = rs₂} w ws) y =
    let y' : Each Pair (cs ++ (ds ++ (fs ++ es))) cs₂ = rw (append_assoc (cs ++ ds) fs es, append_assoc cs ds (fs ++ es)) at y in
    let (u, v, e, a, b) = each-split cs (ds ++ (fs ++ es)) y' in
    let n₁ : length u ≡ s.rows = sym (each-length a) ∙ f.counted ∙ w.0.rows in
    let dv : drop s.rows cs₂ ≡ v = ap (drop s.rows) e ∙ drop_at u v s.rows n₁ in
    let (rs₃, cs₃, p, q, z) = rest-outer ys (ts ++ ss) (fs ++ es) (rw (append_assoc rs ts ss) at ws) b in
    let (rs₄, cs₄, p₂, q₂, z₂) = rest-outer xs ss es p q in
    (rs₄, cs₄, p₂, q₂, ap (λ c. drop n (drop s.contained (outer rs₂ c))) dv ∙ ap (λ c. drop n (drop c (outer rs₂ v))) (sym w.0.contained) ∙ ap (drop n) z ∙ z₂)

-- the first of the other side
first-outer : (s : Shape) (rs₂ : List Shape) (cs₂ u v : List Content) (n : ℕ) → cs₂ ≡ u ++ v → length u ≡ s.rows
    → take (suc n) (outer (s ∷ rs₂) cs₂) ≡ whole_text s u (joined (take s.contained (outer rs₂ v))) ∷ take n (drop s.contained (outer rs₂ v))
unfolding outer
first-outer s rs₂ cs₂ u v n e l = rw (e, take_at u v s.rows l, drop_at u v s.rows l) refl

outer-first : (s : Shape) (rs₂ : List Shape) (cs₂ u v : List Content) (contained : ℕ) → cs₂ ≡ u ++ v → length u ≡ s.rows → s.contained ≡ contained
    → joined (outer (s ∷ rs₂) cs₂) ≡ whole_text s u (joined (take contained (outer rs₂ v))) ++ joined (drop contained (outer rs₂ v))
unfolding outer
outer-first s rs₂ cs₂ u v contained e l z = rw (e, take_at u v s.rows l, drop_at u v s.rows l, z) refl

-- as many bytes
inner_long : {limits : Limits} {types : List Declared} {d parent n : ℕ} {m : Made} {rs : List Shape} {cs : List Content}
    {bs : List (List ℕ)} → Nodes limits types d parent m n rs cs bs → (ss : List Shape) (es : List Content) {rs₂ : List Shape}
    {cs₂ : List Content}
    → Each Shapes (rs ++ ss) rs₂ → Each Pair (cs ++ es) cs₂ → length (joined (take n (outer rs₂ cs₂))) ≡ length (joined bs)
inner_long {n = n} {rs = rs} {cs = cs} {bs = bs} ns ss es {rs₂} {cs₂} x y =
    let o = outer-pair (each-by (λ a b w. w.0) x) (pairs y) in
    let e : take n (outer (rs ++ ss) (cs ++ es)) ≡ bs = ap (take n) (nodes-outer ns ss es) ∙ take_at bs (outer ss es) n (nodes-length ns) in
    sym (fields (subst (λ v. Each AsLong v (take n (outer rs₂ cs₂))) e (each_take n o))).long

most : (r : Shape) (cs : List Content) (n : ℕ) → header_of r.contained (joined (sized (items_text cs) ∷ sized r.unpackers ∷ []))
    (length (own_text r) + n) + (length (own_text r) + n) ≤ length (node_text r cs n) + n
unfolding node_text
most r cs n = framed-most r.contained (joined (sized (items_text cs) ∷ sized r.unpackers ∷ [])) (own_text r) n

exact : (r : Shape) (cs : List Content) (n : ℕ) → header_of r.contained (joined (sized (items_text cs) ∷ sized r.unpackers ∷ []))
    (length (own_text r) + n) + (length (own_text r) + n) < 2 ^ 28
    → length (node_text r cs n) + n ≡ header_of r.contained (joined (sized (items_text cs) ∷ sized r.unpackers ∷ [])) (length (own_text r) + n) + (length (own_text r) + n)
unfolding node_text
exact r cs n h = framed-length r.contained (joined (sized (items_text cs) ∷ sized r.unpackers ∷ [])) (own_text r) n h

node-lies : {g : List ℕ} {p : ℕ} (r : Shape) (cs : List Content) (inner : List ℕ) → Lies g p (whole_text r cs inner) → Lies g p (node_text r cs (length inner))
unfolding whole_text
node-lies r cs inner h = lies_left (node_text r cs (length inner)) inner h

-- what is passed over with a node's row is private
inline_private : (g k : List ℕ) (at : ℕ) (r : Node) → T (not (has_inline r)) → Agree g k at (inline_size r)
inline_private g k at r = by (has_inline r)
  where
    by : (b : Bool) → T (not b) → Agree g k at (size_if b r.extent)
    by true t = absurd t
    by false t = λ j lo hi. absurd (omega arith)

module _ (g k : List ℕ) (big : length g < 2 ^ 28) (x : Context) where
  -- a node, where what it holds runs alike
  node-runs : (d parent least end : ℕ) (m : Made) (p : ℕ) {r s : Shape} {cs ds : List Content} (inner inner₂ : List ℕ) → Front x.limits
      x.types parent (16 - d) m r cs → Stays r → Shapes r s → Each Pair cs ds → ((r.contained ≡ 0) → length inner ≡ 0)
      → length inner₂ ≡ length inner → Lies g p (whole_text r cs inner) → Lies k p (whole_text s ds inner₂) → p + length (whole_text r cs inner) ≤
      end → least ≤ p + length (whole_text r cs inner)
      → Runs g k (times r.contained (node d x m.nodes (in_tree 0 (p + length (whole_text r cs inner)))) (plus_node (plus_items (length cs) m)))
      (p + length (node_text r cs (length inner)))
      → Runs g k (node (suc d) x parent (in_tree least end) m) p
  unfolding node folder
  node-runs d parent least end m p {r} {s} {cs} {ds} inner inner₂ f stays w ws alone long h h₂ i j c =
      let b = front-back x g big parent (16 - d) least end m r cs inner p (record { nodes = []; items = [] }) f stays alone h i j in
      let wl = whole_length r cs inner in let n : ℕ = length inner in let small = most r cs n in let in₁ = h.inside in
      let ex = exact r cs n (omega arith) in let l₁ = node-lies r cs inner h in
      let l₂ : Lies k p (node_text s ds n) = lies_as (ap (node_text s ds) long) (node-lies s ds inner₂ h₂) in
      let fr = front-runs g k big x parent (16 - d) least end m r s cs ds n p f stays w ws (omega arith) l₁ l₂ (omega arith) (omega arith) in
      let e = ran (collect g) _ g p (record { nodes = []; items = [] }) b.ran in
      let cr : Runs g k (times b.is.row.contained (node d x m.nodes (in_tree 0 (p + b.is.row.size))) (plus_node b.is.made))
      (b.next + inline_size b.is.row) = rw (b.past, b.contained, b.size, b.made) c in
      runs-place _ p (runs-check _ _ _
      (runs_then _ e fr (runs_skip _ _ (inline_private g k b.next b.is.row)
      (runs_on_lem cr (λ m q e. runs-place _ q (runs-check _ _ _ runs_ret))))))

  nodes-runs : {d parent n : ℕ} {m : Made} {rs : List Shape} {cs : List Content} {bs : List (List ℕ)} → Nodes x.limits x.types d parent
      m n rs cs bs → AllStay rs → (ss : List Shape) (es : List Content) {rs₂ : List Shape} {cs₂ : List Content}
      → Each Shapes (rs ++ ss) rs₂ → Each Pair (cs ++ es) cs₂ → (end p : ℕ) → Lies g p (joined bs) → Lies k p (joined (take n (outer rs₂ cs₂))) →
      p + length (joined bs) ≤ end → Runs g k (times n (node d x parent (in_tree 0 end)) m) p
  unfolding times
  nodes-runs nodes.none stay ss es x₁ y end p h h₂ i = runs_ret
  nodes-runs {parent = parent} {m = m}
      (nodes.more {d = d} {n = n} {r = r} {rs = rs} {ss = ts} {cs = cs} {ds = ds} {es = fs} {inner = inner} {bs = bs} f ys xs) stay ss es
      {cs₂ = cs₂} (more {b = s} {t = rs₂} w ws) y end p h h₂ i =
      let y' : Each Pair (cs ++ (ds ++ (fs ++ es))) cs₂ = rw (append_assoc (cs ++ ds) fs es, append_assoc cs ds (fs ++ es)) at y in
      let (u, v, e, a, b) = each-split cs (ds ++ (fs ++ es)) y' in
      let n₁ : length u ≡ s.rows = sym (each-length a) ∙ f.counted ∙ w.0.rows in
      let O : List (List ℕ) = outer rs₂ v in let fo = first-outer s rs₂ cs₂ u v n e n₁ in
      let ws' : Each Shapes (rs ++ (ts ++ ss)) rs₂ = rw (append_assoc rs ts ss) at ws in
      let (rs₃, cs₃, p₃, q₃, z₃) = rest-outer ys (ts ++ ss) (fs ++ es) ws' b in
      let hl : r.contained ≡ s.contained = w.0.contained in
      let inner₂ : List ℕ = joined (take r.contained O) in let il = inner_long ys (ts ++ ss) (fs ++ es) ws' b in
      let t : List ℕ = whole_text r cs (joined inner) in let t₂ : List ℕ = whole_text s u inner₂ in
      let k₁ : Lies k p (t₂ ++ joined (take n (drop r.contained O))) = lies_as
      (ap joined fo ∙ ap (λ j. whole_text s u (joined (take j O)) ++ joined (take n (drop j O))) (sym hl)) h₂ in
      let lt = whole_length r cs (joined inner) in let lt₂ = whole_length s u inner₂ in
      let np = (node-pair w.0 (pairs a) (sym il)).long in let z = length-append t (joined bs) in
      let g₁ = lies_left t (joined bs) h in
      let k₂ = lies_left t₂ (joined (take n (drop r.contained O))) k₁ in
      let q : ℕ = p + length (node_text r cs (length (joined inner))) in
      let al = nodes.alone ys in let gi = inner_lies r cs (joined inner) g₁ in
      let ki : Lies k q inner₂ = lies_at (omega arith) (inner_lies s u inner₂ k₂) in
      let c = nodes-runs ys (stay_left rs ts stay.1) (ts ++ ss) (fs ++ es) ws' b (p + length t) q gi ki (omega arith) in
      let nr = node-runs d parent 0 end m p (joined inner) inner₂ f stay.0 w a al il g₁ k₂ (omega arith) (omega arith) c in
      let σ : Collected = record { nodes = []; items = [] } in
      let fb = front-back x g big parent (16 - d) 0 end m r cs (joined inner) p σ f stay.0 al g₁ (omega arith) (omega arith) in
      let cb = nodes-back x g big ys (stay_left rs ts stay.1) (p + length t) q (record { nodes = r ∷ []; items = cs }) gi (omega arith) in
      let e₁ = ran (collect g) _ g p σ (node-back x g d parent 0 end m p σ rs ds inner f.node-room fb cb) in
      let k₃ : Lies k (p + length t) (joined (take n (outer rs₃ cs₃))) = lies_as (ap (λ j. joined (take n j)) z₃)
      (lies_at (omega arith) (lies_right t₂ (joined (take n (drop r.contained O))) k₁)) in
      runs_then _ e₁ nr (nodes-runs xs (stay_right rs ts stay.1) ss es p₃ q₃ end (p + length t) (lies_right t (joined bs) h) k₃ (omega arith))

  -- the tree
  pub tree-runs : {rs rs₂ : List Shape} {cs cs₂ : List Content} {b : List ℕ} → Nodes x.limits x.types 16 0
      (record { nodes = 0; items = 0 }) 1 rs cs (b ∷ []) → AllStay rs → Each Shapes rs rs₂ → Each Pair cs cs₂ → (end p : ℕ) → Lies g p b →
      Lies k p (joined (outer rs₂ cs₂)) → p + length b ≡ end
      → Runs g k (tree x end) p
  unfolding tree
  tree-runs {rs₂ = rs₂} {cs₂ = cs₂} (nodes.more {r = r} {rs = rs} {ss = ts} {cs = cs} {ds = ds} {es = fs} {inner = inner} f ys nodes.none)
      stay (more {b = s} {t = rs₃} w ws) y end p h h₂ i =
      let y' : Each Pair (cs ++ (ds ++ [])) cs₂ = rw (append_assoc cs ds []) at y in
      let (u, v, e, a, b) = each-split cs (ds ++ []) y' in
      let n₁ : length u ≡ s.rows = sym (each-length a) ∙ f.counted ∙ w.0.rows in
      let O : List (List ℕ) = outer rs₃ v in
      let hl : r.contained ≡ s.contained = w.0.contained in
      let inner₂ : List ℕ = joined (take r.contained O) in
      let il = inner_long ys [] [] ws b in
      let t : List ℕ = whole_text r cs (joined inner) in let t₂ : List ℕ = whole_text s u inner₂ in
      let k₂ : Lies k p t₂ = lies_left t₂ _ (lies_as (outer-first s rs₃ cs₂ u v r.contained e n₁ (sym hl)) h₂) in
      let lt = whole_length r cs (joined inner) in let lt₂ = whole_length s u inner₂ in
      let np = (node-pair w.0 (pairs a) (sym il)).long in
      let q : ℕ = p + length (node_text r cs (length (joined inner))) in
      let al = nodes.alone ys in let gi = inner_lies r cs (joined inner) h in
      let ki : Lies k q inner₂ = lies_at (omega arith) (inner_lies s u inner₂ k₂) in
      let c = nodes-runs ys (stay_left rs [] stay.1) [] [] ws b (p + length t) q gi ki (omega arith) in
      node-runs 15 0 end end (record { nodes = 0; items = 0 }) p (joined inner) inner₂ f stay.0 w a al il h k₂ (omega arith) (omega arith) c
