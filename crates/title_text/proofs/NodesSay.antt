-- What an accepted tree says is made of nodes: the other half of reading it back.
-- Assumes nothing.
use mathlib.Core.Path.{◌≡◌, refl, sym, ap, ◌∙◌, subst}
use mathlib.Core.Logic.{◌⊎◌, inl, inr}
use mathlib.Core.Bool.{Bool, true, false, ◌||◌}
use mathlib.Core.List.{List, [], ◌∷◌, ◌++◌, append_assoc, append-nil}
use Prim.Native.Nat.{ℕ, zero, suc, ◌+◌, ◌-◌, ◌^◌, ◌≤◌, ◌<◌}
use native.Mathlib.Omega.{arith}
use lib.Dec.{eqb}
use lib.ListN.{length, length-append}
use borrow.Author.Tests.{ltb-true, leb-true, eqb-true, eqb-false, ne_eqb}
use Rattle.machine.specs.Machine.{exec, times, ◌>>=◌}
use Rattle.cursor.specs.Rows.{node_frame, reference_frame, inline_size}
use Rattle.room.specs.Parts.{part, joined}
use Rattle.vlq.specs.Vlq.{vlq, sized}
use Rattle.cursor.specs.declared.Node.{Node}
use Rattle.cursor.specs.declared.Item.{Item}
use Rattle.machine.proofs.Wp.{Wp, at_end, wp_after, wp_ret, wp_if, wp_check, wp_place, wp_skip, wp_weaken}
use Rattle.cursor.proofs.Leaves.{Any, any_free, number-on, block_on}
use Rattle.cursor.proofs.Post.{post_if, Post, post_after, post_step, post_weaken, post_ret, post_check, post_place, post_skip}
use Rattle.header.specs.Types.{Declared}
use Rattle.metadata.specs.Tables.{plus_node}
use Rattle.metadata.specs.Metadata.{Context}
use Rattle.metadata.specs.declared.Limits.{Limits}
use Rattle.metadata.specs.declared.Made.{Made}
use Rattle.node.specs.Node as node
use Rattle.node.specs.Node.{in_tree, header_length, head, resource, node_place, uri_place, target, reference, Rest, rest, front}
use Rattle.node.specs.declared.Bounds.{Bounds}
use Rattle.node.specs.declared.Head as head
use Rattle.node.specs.declared.Reference as reference
use Rattle.node.proofs.Quiet.{head-quiet, unpackers-quiet, reference-quiet, rest-quiet}
use Rattle.node.proofs.Ends.{head-inside}
use Rattle.tree.specs.Tree as tree
use Rattle.tree.specs.Tree.{folder}
use Rattle.title_text.specs.Description.{Content, Shape, shape}
use Rattle.title_text.specs.Text.{items_text, own_text, whole_text}
use Rattle.title_text.proofs.Collecting.{Collected, collect_as, collect-ignores, with_items, with_rows}
use Rattle.cursor.proofs.Runs.{nothing, nothing-ignores, nothing-quiet, Holds, post_ran}
use Rattle.tree.proofs.Nodes.{inline_is}
use Rattle.title_text.proofs.Covers.{Covers, Number, covers-on, covers-as, covers-to, covers-wider, covers-last, covers-part, number-covers, number_is, sized-covers}
use Rattle.title_text.proofs.Items.{plus_items}
use Rattle.title_text.proofs.ItemsSay.{Keeps, Plain, Grouped, metadata-says}
use Rattle.title_text.proofs.UnpackersSay.{PacksOf, unpackers-say}
use Rattle.title_text.proofs.Fronts.{own-inline, own-uri, Stays, Front}
use Rattle.title_text.proofs.Nodes.{made_by, Nodes, none, more}

-- ---- what follows the metadata

-- a folder refers to what follows it
abbrev RefersTo : (contained kind : ℕ) → Type 0
RefersTo contained k = (k ≡ 1) ⊎ ((contained ≡ 0) × ((k ≡ 2) ⊎ (k ≡ 3) ⊎ (k ≡ 4)))

target_is : (header_end size r end at : ℕ) → Wp Any (target header_end size r end) (λ o q. (o.kind ≡ 1) ⊎ ((o.kind ≡ 2) ⊎ (o.kind ≡ 3) ⊎ (o.kind ≡ 4))) at
unfolding target resource node_place uri_place
target_is header_end size r end at =
    wp_if (λ t. wp_place _ at (wp_ret (inl (eqb-true r 1 t))))
    λ t. wp_if (λ u. wp_place _ at (wp_after (number-on _ _ end at) λ o q x. wp_check _ _ λ c. wp_check _ _ λ d. wp_ret (inr (inl refl))))
    λ u. wp_if (λ w. wp_after (number-on _ _ end at) λ o q x. wp_ret (inr (inr (inl refl))))
    λ w. wp_after (block_on _ _ end at) λ n q x. wp_place _ q (wp_skip _ _ tt (λ _. wp_ret (inr (inr (inr refl)))))

target_one : (header_end size end at : ℕ) → Wp Any (target header_end size 1 end) (λ o q. o.kind ≡ 1) at
unfolding target
target_one header_end size end at = wp_if (λ t. wp_place _ at (wp_ret refl)) (λ t. absurd (eqb-false 1 1 t refl))

either : (a b : ℕ) → (eqb a 0 || eqb b 1) ≡ true → (a ≡ 0) ⊎ (b ≡ 1)
either a b t = by (eqb a 0) refl t
  where
    by : (c : Bool) → eqb a 0 ≡ c → (c || eqb b 1) ≡ true → (a ≡ 0) ⊎ (b ≡ 1)
    by true e t = inl (eqb-true a 0 e)
    by false e t = inr (eqb-true b 1 t)

refers_by : (header_end size contained r end at : ℕ) → (contained ≡ 0) ⊎ (r ≡ 1) → Wp Any (target header_end size r end) (λ o q. RefersTo contained o.kind) at
refers_by header_end size contained r end at (inl z) = wp_weaken (target_is header_end size r end at) (λ o q w. elim w [ inl k ↦ inl k | inr k ↦ inr (z, k) ])
refers_by header_end size contained r end at (inr k) = subst
    (λ v. Wp Any (target header_end size v end) (λ o q. RefersTo contained o.kind) at) (sym k)
    (wp_weaken (target_one header_end size end at) (λ o q w. inl w))

reference-is : (header_end size contained end at : ℕ) → Wp Any (reference header_end size contained end) (λ o q. RefersTo contained o.kind) at
unfolding reference
reference-is header_end size contained end at =
    wp_place _ at
    (wp_after (number-on _ _ end at) λ r q x. wp_check _ _ λ t. wp_check _ _ λ u. wp_check _ _ λ v. refers_by header_end size contained r end q (either contained r v))

-- what was read holds a reference: alone, with the data after it, or with a URI
abbrev RefersIn : List ℕ → ℕ → reference.Reference → ℕ → Type 0
RefersIn f at o q = (o.kind ≡ 1 → Covers f at (vlq 1) q × (o.target ≡ q)) × (o.kind ≡ 4 → Covers f at (joined (vlq 4 ∷ sized (part f o.target o.extent) ∷ [])) q)

target-in : (f : List ℕ) (header_end size r end at p : ℕ) → Covers f at (vlq r) p → 0 < r → r ≤ 4 → Post nothing f (target header_end size r end) (Holds (RefersIn f at)) p tt
unfolding target resource node_place uri_place
target-in f header_end size r end at p h some four =
    post_if (λ t. post_place _ p (post_ret (let e = eqb-true r 1 t in (λ _. (covers-as (ap vlq e) h, refl), λ z. absurd (omega arith)))))
    λ t. post_if (λ u. post_place _ p (post_step nothing-quiet λ o q e. post_check _ _ λ c. post_check _ _ λ d. post_ret (λ z. absurd (omega arith), λ z. absurd (omega arith))))
    λ u. post_if (λ w. post_step nothing-quiet λ o q e. post_ret (λ z. absurd (omega arith), λ z. absurd (omega arith)))
    λ w. post_step nothing-quiet λ n q e. post_place _ q (post_skip _ _ (post_ret (
    let a = eqb-false r 1 t in let b = eqb-false r 2 u in let c = eqb-false r 3 w in let k : r ≡ 4 = omega arith in
    (λ z. absurd (omega arith), λ z. covers-on (covers-as (ap vlq k) h) (covers-last (sized-covers reference_frame 3 end f p e (covers-part f q n)))))))

reference-in : (f : List ℕ) (header_end size contained end at : ℕ) → Post nothing f (reference header_end size contained end) (Holds (RefersIn f at)) at tt
unfolding reference
reference-in f header_end size contained end at =
    post_place _ at
    (post_step nothing-quiet λ r q e. post_check _ _ λ t. post_check _ _ λ u. post_check _ _ λ v. target-in f header_end size r end at q
    (number-covers reference_frame 3 end f at e) (ltb-true 0 r t) (leb-true r 4 u))

-- unpackers up to where the header ends, and the reference
abbrev RestSays : (f : List ℕ) (contained inner at : ℕ) → Rest → ℕ → Type 0
RestSays f contained inner at o q = (e : ℕ) × PacksOf f contained inner at o.unpackers e × RefersTo contained o.reference.kind × (inner ≤ e) × RefersIn f e o.reference q

rest-post : (f : List ℕ) (header_end size contained inner stop at : ℕ) → inner ≤ length f → Post nothing f
    (rest header_end size contained inner stop) (Holds (RestSays f contained inner at)) at tt
unfolding rest
rest-post f header_end size contained inner stop at o =
    post_step (unpackers-quiet nothing-ignores contained inner) λ u q e.
    post_place _ q
    (post_check _ _ λ t.
    post_step (reference-quiet nothing-ignores header_end size contained stop) λ r p e₂.
    post_ret (
      q,
      unpackers-say f contained inner at o e,
      at_end any_free f (reference-is header_end size contained stop q) e₂,
      leb-true inner q
          t,
      post_ran (reference-in f header_end size contained stop q) e₂,
    ))

-- ---- the three numbers

head_few : (s : Bounds) (at : ℕ) → Wp Any (head s) (λ h q. h.contained < 2 ^ 28) at
unfolding head header_length
head_few s at =
    wp_place _ at
    (wp_after (number-on _ _ s.end.0 at) λ n p x. wp_check _ _ λ t. wp_check _ _ λ u. wp_check _ _ λ v.
    wp_after (number-on _ _ (at + n) p) λ contained q y. wp_check _ _ λ w.
    wp_place _ q (wp_after (number-on _ _ (at + n) q) λ header r z. wp_place _ r (wp_check _ _ λ a. wp_check _ _ λ b. wp_ret y.3)))

-- where the three numbers end: NodeLength at a, the number of contained items at b, NodeHeaderLength at q
abbrev HeadIn : List ℕ → ℕ → head.Head → ℕ → Type 0
HeadIn f at h q = (a : ℕ) × (b : ℕ) × Number f at h.size.0 a × Covers f a (vlq h.contained) b × Number f b h.header.0 q

head_in : (f : List ℕ) (s : Bounds) (at : ℕ) → Post nothing f (head s) (Holds (HeadIn f at)) at tt
unfolding head header_length
head_in f s at =
    post_place _ at
    (post_step nothing-quiet λ n p e₁. post_check _ _ λ t. post_check _ _ λ u. post_check _ _ λ v.
    post_step nothing-quiet λ contained q e₂. post_check _ _ λ w.
    post_place _ q (post_step nothing-quiet λ header r e₃. post_place _ r (post_check _ _ λ c. post_check _ _ λ d. post_ret (
      p,
      q,
      number_is node_frame 3 s.end.0 f at e₁,
      number-covers node_frame 3 (at + n) f p e₂,
      number_is node_frame 3 (at + n) f q e₃,
    ))))

-- ---- the front of a node

-- what a node's header has behind its three numbers
abbrev pub rest_text : Shape → List Content → List ℕ
rest_text r cs = joined (sized (items_text cs) ∷ sized r.unpackers ∷ [])

-- A node's row, and its front from `at` to q: where the three numbers end; and what stands behind them, up to where the header ends and the node's own data.
pub record Spans (f : List ℕ) (row : Node) (r : Shape) (cs : List Content) (at q : ℕ) : Type 0 where
  pub a : ℕ
  pub b : ℕ
  pub c : ℕ
  pub length-is : Number f at row.size a
  pub contained-covers : Covers f a (vlq r.contained) b
  pub header_is : Number f b row.header c
  pub rest-covers : Covers f c (rest_text r cs) (at + row.header)
  pub own-covers : Covers f (at + row.header) (own_text r) (q + inline_size row)

refers_stay : (contained k : ℕ) → RefersTo contained k → ((k ≡ 2) → ⊥) × ((k ≡ 3) → ⊥) → (k ≡ 1) ⊎ ((k ≡ 4) × (contained ≡ 0))
refers_stay contained k (inl e) s = inl e
refers_stay contained k (inr (z, inl e)) s = absurd (s.0 e)
refers_stay contained k (inr (z, inr (inl e))) s = absurd (s.1 e)
refers_stay contained k (inr (z, inr (inr e))) s = inr (e, z)

dec_eq_zero : (n : ℕ) → (n ≡ 0) ⊎ ((n ≡ 0) → ⊥)
dec_eq_zero zero = inl refl
dec_eq_zero (suc n) = inr (λ z. omega arith)

module _ (f : List ℕ) where
  -- its own text: the reference, with what it leads to in the node
  own_in : (row : Node) (at q : ℕ) → Stays (shape f row) → RefersTo row.contained row.reference →
      (row.reference ≡ 1 → Covers f at (vlq 1) q × (row.target ≡ q)) →
      (row.reference ≡ 4 → Covers f at (joined (vlq 4 ∷ sized (part f row.target row.extent) ∷ [])) q)
      → Covers f at (own_text (shape f row)) (q + inline_size row)
  unfolding shape
  own_in row at q stays refers one four = elim (refers_stay row.contained row.reference refers stays) [
    | inl e ↦
        let r : Shape = shape f row in let (h, t) = one e in
        elim (dec_eq_zero row.contained) [
          | inl z ↦
              let b : part f q row.extent ≡ r.body = rw (z, t) refl in
              covers-as (sym (own-inline r e)) (covers-on h (covers-last (covers-to (omega (arith, inline_is row z e)) (covers-as b (covers-part f q row.extent)))))
          | inr n ↦ let b : r.body ≡ [] = rw (ne_eqb _ _ n) refl in covers-as (sym (own-inline r e ∙ ap (λ v. joined (vlq 1 ∷ v ∷ [])) b))
              (covers-last (covers-wider (omega arith) h))
        ]
    | inr (e, z) ↦
        let r : Shape = shape f row in
        let b : part f row.target row.extent ≡ r.body = rw z refl in
        covers-as (ap (λ v. joined (vlq 4 ∷ sized v ∷ [])) b ∙ sym (own-uri r e)) (covers-wider (omega arith) (four e))
  ]

  spans-made : (parent depth at p q v : ℕ) (h : head.Head) (m m' : Made) (o : Rest) (cs : List Content) → HeadIn f at h p → Covers f p
      (sized (items_text cs)) q → RestSays f h.contained (at + h.header.0) q o v
      → Stays (shape f (node.row_of at h parent depth 0 o.reference o.unpackers (m'.items - m.items)))
      → Spans f (node.row_of at h parent depth 0 o.reference o.unpackers (m'.items - m.items))
      (shape f (node.row_of at h parent depth 0 o.reference o.unpackers (m'.items - m.items))) cs at v
  unfolding shape
  spans-made parent depth at p q v h m m' o cs (a, b, size, contained, header) items (e, packs, refers, full, own) stays =
      let row : Node = node.row_of at h parent depth 0 o.reference o.unpackers (m'.items - m.items) in
      let i : e ≡ at + h.header.0 = omega (arith, packs.within) in
      record {
        a = a;
        b = b;
        c = p;
        length-is = size;
        contained-covers = contained;
        header_is = header;
        rest-covers = covers-to i (covers-on items (covers-last (covers-as (ap sized packs.text) packs.covers)));
        own-covers = subst (λ k. Covers f k (own_text (shape f row)) (v + inline_size row)) i (own_in row e v stays refers own.0 own.1);
      }

module _ {f : List ℕ} {say : ℕ → Item → Content} (keeps : Keeps f say) (x : Context) where
  front-made : (parent depth p : ℕ) (h : head.Head) (m m' : Made) (o : Rest) (cs : List Content) → h.contained < 2 ^ 28 → m.nodes <
      x.limits.nodes → Grouped x.types m.nodes cs → m.items + length cs ≤ x.limits.items → m' ≡ plus_items (length cs) m
      → {end a e : ℕ} → PacksOf f h.contained end a o.unpackers e → RefersTo h.contained o.reference.kind
      → Front x.limits x.types parent depth m (shape f (node.row_of p h parent depth 0 o.reference o.unpackers (m'.items - m.items))) cs
  unfolding shape
  front-made parent depth p h m m' o cs few room groups r made packs refers =
      let (css, es, e) = groups in
      let k : m'.items ≡ m.items + length cs = ap (λ (w : Made). w.items) made in
      record {
        groups = css;
        entries = es;
        contents = e;
        packs = packs.packs;
        unpackers = packs.are;
        packed = packs.text;
        unpacker_count = packs.count;
        parent_is = refl;
        depth_is = refl;
        in_tree = refl;
        counted = omega arith;
        few = few;
        node-room = room;
        item_room = r;
        refers = λ s. refers_stay h.contained o.reference.kind refers s;
        unpacked = elim packs.unpacked [ inl z ↦ inl z | inr z ↦ inr (sym (ap length packs.text) ∙ z) ];
        empty = λ z. rw (ne_eqb _ _ z) refl;
      }

  pub front-says : (parent depth least end : ℕ) (m : Made) (at : ℕ) (σ : Collected) → end ≤ length f → m.nodes < x.limits.nodes → m.items ≤ x.limits.items
      → Post (collect_as say f) f (front x parent depth (in_tree least end) m)
      (λ w q τ. (cs : List Content) × Front x.limits x.types parent depth m (shape f w.row) cs × (w.made ≡ plus_items (length cs) m) ×
      (τ ≡ with_items σ cs) × (at + w.row.size ≤ end) ×
      (Plain f say → Stays (shape f w.row) → Spans f w.row (shape f w.row) cs at q)) at σ
  unfolding front
  front-says parent depth least end m at σ o room r =
      post_place _ at
      (post_step (head-quiet (collect-ignores say f) (in_tree least end)) λ h p e.
      let i = head-inside (in_tree least end) f at e in
      post_after (metadata-says keeps x m.nodes (at + h.header.0) (omega arith) m p σ r) λ m' q τ s.
      post_step (rest-quiet (collect-ignores say f) x.header_end x.size h.contained (at + h.header.0) (at + h.size.0)) λ u v e₂.
      let w = post_ran (rest-post f x.header_end x.size h.contained (at + h.header.0) (at + h.size.0) q (omega arith)) e₂ in
      post_ret (
        s.contents,
        front-made parent depth at h m m' u s.contents (at_end any_free f (head_few (in_tree least end) at) e) room s.are.0 s.room s.made w.1 w.2,
        s.made,
        s.left,
        i.3,
        λ plain stays. spans-made f parent depth at p q v h m m' u s.contents (post_ran (head_in f (in_tree least end) at) e) (s.are.1 plain) w stays,
      ))

-- ---- nodes

-- n nodes were added
pub record Grown (x : Context) (d parent : ℕ) (m : Made) (σ : Collected) (n : ℕ) (m' : Made) (q : ℕ) (τ : Collected) : Type 0 where
  pub shapes : List Shape
  pub contents : List Content
  pub texts : List (List ℕ)
  pub are : Nodes x.limits x.types d parent m n shapes contents texts
  pub made : m' ≡ made_by shapes contents m
  pub left : τ ≡ with_rows σ shapes contents
  pub room : m'.items ≤ x.limits.items

-- a node was added: its front and what it holds
record GrownOne (x : Context) (d parent : ℕ) (m : Made) (σ : Collected) (m' : Made) (q : ℕ) (τ : Collected) : Type 0 where
  shape : Shape
  own : List Content
  front : Front x.limits x.types parent (16 - d) m shape own
  contained : List Shape
  contents : List Content
  inner : List (List ℕ)
  are : Nodes x.limits x.types d m.nodes (made_by (shape ∷ []) own m) shape.contained contained contents inner
  made : m' ≡ made_by (shape ∷ contained) (own ++ contents) m
  left : τ ≡ with_rows σ (shape ∷ contained) (own ++ contents)
  room : m'.items ≤ x.limits.items

grown_none : (x : Context) (d parent : ℕ) (m : Made) (q : ℕ) (σ : Collected) → m.items ≤ x.limits.items → Grown x d parent m σ 0 m q σ
grown_none x d parent m q σ r =
    let a : m.nodes + 0 ≡ m.nodes = omega arith in let b : m.items + 0 ≡ m.items = omega arith in
    record { shapes = []; contents = []; texts = []; are = none; made = rw (a, b) refl; left = rw (append-nil σ.nodes, append-nil σ.items) refl; room = r }

grown_more : (x : Context) (d parent n : ℕ) {m m₁ m₂ : Made} {p q : ℕ} {σ τ υ : Collected} → GrownOne x d parent m σ m₁ p τ → Grown x
    (suc d) parent m₁ τ n m₂ q υ → Grown x (suc d) parent m σ (suc n) m₂ q υ
grown_more x d parent n {m = m} {m₁ = m₁} {m₂ = m₂} {σ = σ} s t =
    let a : ℕ = length (s.own ++ s.contents) in
    let y = length-append (s.own ++ s.contents) t.contents in
    let z = length-append s.contained t.shapes in
    let k₁ : m.nodes + suc (length s.contained) + length t.shapes ≡ m.nodes + suc (length (s.contained ++ t.shapes)) = omega arith in
    let k₂ : m.items + a + length t.contents ≡ m.items + length (s.own ++ s.contents ++ t.contents) = omega arith in
    record {
      shapes = s.shape ∷ (s.contained ++ t.shapes);
      contents = s.own ++ s.contents ++ t.contents;
      texts = whole_text s.shape s.own (joined s.inner) ∷ t.texts;
      are = more s.front s.are (subst (λ v. Nodes x.limits x.types (suc d) parent v n t.shapes t.contents t.texts) s.made t.are);
      made = t.made ∙ ap (made_by t.shapes t.contents) s.made ∙ rw (k₁, k₂) refl;
      left = t.left ∙ ap (λ w. with_rows w t.shapes t.contents) s.left ∙ rw
          (append_assoc σ.nodes (s.shape ∷ s.contained) t.shapes, append_assoc σ.items (s.own ++ s.contents) t.contents) refl;
      room = t.room;
    }

grown_one : (x : Context) (d parent : ℕ) {m m₁ m₂ : Made} {q : ℕ} {σ τ υ : Collected} (r : Shape) (cs : List Content) → Front x.limits
    x.types parent (16 - d) m r cs → m₁ ≡ plus_items (length cs) m → τ ≡ with_items σ cs
    → Grown x d m.nodes (plus_node m₁) (record { nodes = τ.nodes ++ r ∷ []; items = τ.items }) r.contained m₂ q υ → GrownOne x d parent m σ m₂ q υ
grown_one x d parent {m = m} {m₁ = m₁} {σ = σ} r cs f e l t =
    let y = length-append cs t.contents in
    let k₁ : m.nodes + 1 + length t.shapes ≡ m.nodes + suc (length t.shapes) = omega arith in
    let k₂ : m.items + length cs + length t.contents ≡ m.items + length (cs ++ t.contents) = omega arith in
    record {
      shape = r;
      own = cs;
      front = f;
      contained = t.shapes;
      contents = t.contents;
      inner = t.texts;
      are = subst (λ v. Nodes x.limits x.types d m.nodes (plus_node v) r.contained t.shapes t.contents t.texts) e t.are;
      made = t.made ∙ ap (λ v. made_by t.shapes t.contents (plus_node v)) e ∙ rw (k₁, k₂) refl;
      left = t.left ∙ ap (λ w. with_rows (record { nodes = w.nodes ++ r ∷ []; items = w.items }) t.shapes t.contents) l ∙ rw
          (append_assoc σ.nodes (r ∷ []) t.shapes, append_assoc σ.items cs t.contents) refl;
      room = t.room;
    }

pub shape-contained : (f : List ℕ) (row : Node) → (shape f row).contained ≡ row.contained
unfolding shape
shape-contained f row = refl

-- what is to be shown of n nodes with d levels left
abbrev Say : (f : List ℕ) (say : ℕ → Item → Content) (x : Context) (d : ℕ) → Type 0
Say f say x d = (n parent end : ℕ) (m : Made) (at : ℕ) (σ : Collected) → end ≤ length f → m.items ≤ x.limits.items → Post
    (collect_as say f) f (times n (tree.node d x parent (in_tree 0 end)) m) (Grown x d parent m σ n) at σ

module _ {f : List ℕ} {say : ℕ → Item → Content} (keeps : Keeps f say) (x : Context) where
  node-says : (d : ℕ) → Say f say x d → (parent least end : ℕ) (m : Made) (at : ℕ) (σ : Collected) → end ≤ length f → m.items ≤ x.limits.items
      → Post (collect_as say f) f (tree.node (suc d) x parent (in_tree least end) m) (GrownOne x d parent m σ) at σ
  unfolding tree.node folder
  node-says d children parent least end m at σ o r =
      post_place _ at
      (post_check _ _ λ room.
      post_after (front-says keeps x parent (16 - d) least end m at σ o (ltb-true _ _ room) r) λ w q τ s.
      let (cs, front, made, left, inside, spans) = s in
      let k : w.made.items ≡ m.items + length cs = ap (λ (v : Made). v.items) made in
      post_skip _ _
      (post_after (children w.row.contained m.nodes (at + w.row.size) (plus_node w.made) _ _ (omega arith) (omega (arith, (front).item_room))) λ m₂ p υ t.
      post_place _ p
      (post_check _ _ λ full.
      post_ret (grown_one x d parent (shape f w.row) cs front made left
      (subst (λ v. Grown x d m.nodes (plus_node w.made) (record { nodes = τ.nodes ++ shape f w.row ∷ []; items = τ.items }) v m₂ p
      υ) (sym (shape-contained f w.row)) t)))))

  times-say : (d : ℕ) → Say f say x d → Say f say x (suc d)
  unfolding times
  times-say d children zero parent end m at σ o r = post_ret (grown_none x (suc d) parent m at σ r)
  times-say d children (suc n) parent end m at σ o r =
      post_after (node-says d children parent 0 end m at σ o r) λ m₁ q τ s.
      post_weaken (times-say d children n parent end m₁ q τ o s.room) λ m₂ p υ t. grown_more x d parent n s t

  nodes-none : (n parent end : ℕ) (m : Made) (at : ℕ) (σ : Collected) → Post (collect_as say f) f
      (times (suc n) (tree.node 0 x parent (in_tree 0 end)) m) (Grown x 0 parent m σ (suc n)) at σ
  unfolding times tree.node exec ◌>>=◌
  nodes-none n parent end m at σ = record { post = tt }

  times_none : Say f say x 0
  unfolding times
  times_none zero parent end m at σ o r = post_ret (grown_none x 0 parent m at σ r)
  times_none (suc n) parent end m at σ o r = nodes-none n parent end m at σ

  nodes-say : (d : ℕ) → Say f say x d
  nodes-say zero = times_none
  nodes-say (suc d) = times-say d (nodes-say d)

-- ---- the tree

one-node : {limits : Limits} {types : List Declared} {d parent : ℕ} {m : Made} {r : Shape} {rs : List Shape} {cs ds : List Content}
    {inner : List (List ℕ)} → Front limits types parent (16 - d) m r cs
    → Nodes limits types d m.nodes (made_by (r ∷ []) cs m) r.contained rs ds inner → Nodes limits types (suc d) parent m 1 (r ∷ rs)
    (cs ++ ds) (whole_text r cs (joined inner) ∷ [])
one-node {limits} {types} {d} {parent} {m} {r} {rs} {cs} {ds} {inner} f ys =
    subst (λ v. Nodes limits types (suc d) parent m 1 (r ∷ v) (cs ++ ds) (whole_text r cs (joined inner) ∷ [])) (append-nil rs)
    (subst (λ v. Nodes limits types (suc d) parent m 1 (r ∷ (rs ++ [])) v (whole_text r cs (joined inner) ∷ [])) (append-nil (cs ++ ds)) (more f ys none))

pub record TreeSays (x : Context) (m : Made) (τ : Collected) : Type 0 where
  pub text : List ℕ
  pub are : Nodes x.limits x.types 16 0 (record { nodes = 0; items = 0 }) 1 τ.nodes τ.items (text ∷ [])
  pub made : m ≡ made_by τ.nodes τ.items (record { nodes = 0; items = 0 })

pub tree-says : {f : List ℕ} {say : ℕ → Item → Content} → Keeps f say → (x : Context) (end at : ℕ) → end ≤ length f
    → Post (collect_as say f) f (tree.tree x end) (λ m q τ. TreeSays x m τ) at (record { nodes = []; items = [] })
unfolding tree.tree
tree-says keeps x end at o =
    post_weaken (node-says keeps x 15 (nodes-say keeps x 15) 0 end end (record { nodes = 0; items = 0 }) at (record { nodes = []; items = [] }) o (omega arith)) λ m q τ s.
    record {
      text = whole_text s.shape s.own (joined s.inner);
      are = subst (λ (v : Collected). Nodes x.limits x.types 16 0 (record { nodes = 0; items = 0 }) 1 v.nodes v.items
          (whole_text s.shape s.own (joined s.inner) ∷ [])) (sym s.left) (one-node s.front s.are);
      made = s.made ∙ ap (λ (v : Collected). made_by v.nodes v.items (record { nodes = 0; items = 0 })) (sym s.left);
    }
