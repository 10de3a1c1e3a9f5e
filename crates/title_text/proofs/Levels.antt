-- Of an accepted file no node and no header is shorter than in the text of what the file says; where all nodes together are not longer, none is, and they are that text.
-- Assumes nothing.
use mathlib.Core.Path.{◌≡◌, refl, sym, ap, ap₂, ◌∙◌, subst}
use mathlib.Core.List.{List, [], ◌∷◌, ◌++◌, append_assoc, append-nil, map, map-append}
use Prim.Native.Nat.{ℕ, zero, suc, ◌+◌, ◌-◌, ◌^◌, ◌≤◌, ◌<◌}
use native.Mathlib.Omega.{arith}
use lib.ListN.{length, get_or, take, drop, length-append}
use lib.Seq.{take_at, drop_at}
use borrow.Author.Tests.{ltb-true, leb-true}
use Rattle.machine.specs.Machine.{ret, refuse, here, byte, pass, ok, seen, passed, run, trace, exec, puts, rows_of, ◌>>=◌, times}
use Rattle.cursor.specs.Rows.{Part, node_row, item_row, plain, P, Events, inline_size}
use Rattle.room.specs.Parts.{joined}
use Rattle.vlq.specs.Vlq.{vlq}
use Rattle.cursor.specs.declared.Node.{Node}
use Rattle.cursor.proofs.Uses.{passing, Only, used}
use Rattle.cursor.proofs.Quiet.{still, exec-puts}
use Rattle.vlq.proofs.Least.{vlq-some}
use Rattle.machine.proofs.Wp.{at_end}
use Rattle.cursor.proofs.Post.{Meets, Post, holds, post_after, post_weaken, post_ret, post_check, post_place, post_skip}
use Rattle.header.specs.Types.{Declared}
use Rattle.metadata.specs.Tables.{plus_node}
use Rattle.metadata.specs.declared.Limits.{Limits}
use Rattle.metadata.specs.Metadata.{Context}
use Rattle.metadata.specs.declared.Made.{Made}
use Rattle.metadata.proofs.Ends.{Nothing, inside-free}
use Rattle.node.specs.Node.{in_tree, front}
use Rattle.node.specs.declared.Front as front
use Rattle.node.specs.declared.Bounds.{Bounds}
use Rattle.node.proofs.Uses.{front-uses}
use Rattle.node.proofs.Ends.{FrontIn, front-on, inline_fits}
use Rattle.tree.specs.Tree as tree
use Rattle.tree.specs.Tree.{folder}
use Rattle.rows.specs.Rows.{nodes_of, items_of}
use Rattle.title_text.specs.Description.{Content, content, Shape, shape}
use Rattle.title_text.specs.Text.{header_of, framed, own_text, node_text, whole_text, outer}
use Rattle.title_text.proofs.Sizes.{header-least, framed-length}
use Rattle.title_text.proofs.Covers.{Covers, covers-none, covers-on, covers-as, covers-last}
use Rattle.title_text.proofs.Collecting.{Collected, collect, post_known, post_left}
use Rattle.title_text.proofs.Passes.{joined-append}
use Rattle.title_text.proofs.Fronts.{Stays, Front}
use Rattle.title_text.proofs.Nodes.{AllStay, stay_left, stay_right, whole_length}
use Rattle.title_text.proofs.Items.{plus_items}
use Rattle.title_text.proofs.ItemsSay.{Like, Keeps, plainly}
use Rattle.title_text.proofs.NodesSay.{rest_text, Spans, front-says, shape-contained}

-- ---- NodeHeaderLength and NodeLength, as they are written

pub record Span : Type 0 where
  pub header : ℕ
  pub size : ℕ

-- of a node that holds nodes with these bytes
abbrev span_of : Shape → List Content → (inner : List ℕ) → Span
span_of r cs inner = record {
  header = header_of r.contained (rest_text r cs) (length (own_text r) + length inner);
  size = header_of r.contained (rest_text r cs) (length (own_text r) + length inner) + (length (own_text r) + length inner);
}

-- of all nodes, in row order
unfoldable pub spans : List Shape → List Content → List Span
spans [] cs = []
spans (r ∷ rs) cs = span_of r (take r.rows cs) (joined (take r.contained (outer rs (drop r.rows cs)))) ∷ spans rs (drop r.rows cs)

-- rows and spans, one by one
pub data Along (R : ℕ → ℕ → Type 0) : List Node → List Span → Type 0 where
  none : Along R [] []
  more : {r : Node} {s : Span} {rs : List Node} {ss : List Span} → R s.header r.header → R s.size r.size → Along R rs ss → Along R (r ∷ rs) (s ∷ ss)

along_on : {R : ℕ → ℕ → Type 0} {rs ts : List Node} {ss us : List Span} → Along R rs ss → Along R ts us → Along R (rs ++ ts) (ss ++ us)
along_on none y = y
along_on (more a b x) y = more a b (along_on x y)

-- each row of no less than its span; of just that
abbrev pub Over : List Node → List Span → Type 0
Over rs ss = Along (λ a b. a ≤ b) rs ss

abbrev pub Exactly : List Node → List Span → Type 0
Exactly rs ss = Along (λ a b. a ≡ b) rs ss

-- ---- a node

node-exact : (r : Shape) (cs : List Content) (inner : List ℕ) → (span_of r cs inner).size < 2 ^ 28 → length (whole_text r cs inner) ≡ (span_of r cs inner).size
unfolding node_text
node-exact r cs inner h = whole_length r cs inner ∙ framed-length r.contained (rest_text r cs) (own_text r) (length inner) h

module _ {f : List ℕ} (row : Node) (r : Shape) (cs : List Content) {at q : ℕ} (w : Spans f row r cs at q) (inner : List ℕ)
    (i : q + inline_size row + length inner ≤ at + row.size) where
  span_header : (span_of r cs inner).header ≤ row.header
  span_header =
      let a = w.length-is.covers.short in let b = w.contained-covers.short in
      let c = w.header_is.covers.short in let d = w.rest-covers.short in let o = w.own-covers.short in
      let m = w.length-is.fits in let n = w.header_is.fits in
      let s = vlq-some row.size in let t = vlq-some row.header in
      omega (
        arith,
        header-least r.contained (rest_text r cs) (length (own_text r) + length inner) (w.a - at) (w.c - w.b) (omega arith)
            (omega arith) (omega arith) (omega arith),
      )

  span_size : (span_of r cs inner).size ≤ row.size
  span_size = let o = w.own-covers.short in let h = span_header in omega arith

  span_tight : (span_of r cs inner).size ≡ row.size → ((span_of r cs inner).header ≡ row.header) × (q + inline_size row + length inner ≡ at + row.size)
  span_tight e = let o = w.own-covers.short in let h = span_header in (omega arith, omega arith)

  -- a node that is no longer than its text has these bytes
  span_covers : Covers f (q + inline_size row) inner (at + row.size) → (span_of r cs inner).size ≡ row.size → (span_of r cs inner).header ≡
      row.header → Covers f at (whole_text r cs inner) (at + row.size)
  unfolding whole_text node_text framed
  span_covers h e e₂ =
      let own : List ℕ = own_text r in
      let front : List (List ℕ) = vlq (span_of r cs inner).size ∷ vlq r.contained ∷ vlq (span_of r cs inner).header ∷ rest_text r cs ∷ own ∷ [] in
      covers-on {s = joined front} (covers-on (covers-as (ap vlq (sym e)) w.length-is.covers)
      (covers-on w.contained-covers
      (covers-on (covers-as (ap vlq (sym e₂)) w.header_is.covers) (covers-on w.rest-covers (covers-last w.own-covers))))) h

  -- a node has no fewer bytes than its text; and where it has no more, that text
  whole_covers : at + row.size < 2 ^ 28 → Covers f (q + inline_size row) inner (at + row.size) → Covers f at (whole_text r cs inner) (at + row.size)
  whole_covers big h =
      let z = span_size in let y = node-exact r cs inner (omega arith) in
      record {
        short = omega arith;
        tight = λ bytes k.
            let u : (span_of r cs inner).size ≡ row.size = omega arith in
            (span_covers h u (span_tight u).0).tight bytes k;
      }

-- ---- each node by itself

-- a node's text with these contents and these bytes of the nodes that it holds, and the bytes of the file for it
pub record Whole (f : List ℕ) (row : Node) (cs : List Content) : Type 0 where
  pub inner : List ℕ
  pub alone : row.contained ≡ 0 → inner ≡ []
  pub covers : Covers f row.start (whole_text (shape f row) cs inner) (row.start + row.size)
  pub inside : row.start + row.size ≤ length f

-- in row order
abbrev pub Each : List ℕ → List Node → List Content → Type 0
Each f [] cs = Unit {0}
Each f (r ∷ rs) cs = Whole f r (take r.rows cs) × Each f rs (drop r.rows cs)

-- ---- what is collected: node rows as they are, and contents

pub record Raw : Type 0 where
  pub nodes : List Node
  pub items : List Content

module _ (f : List ℕ) where
  abbrev pub keep_as : Part → ℕ → ℕ → Raw → Raw
  keep_as (node_row r) p n σ = record { nodes = σ.nodes ++ r ∷ []; items = σ.items }
  keep_as (item_row r) p n σ = record { nodes = σ.nodes; items = σ.items ++ content f r ∷ [] }
  keep_as (plain x) p n σ = σ

  abbrev said : Raw → Collected
  said σ = record { nodes = map (shape f) σ.nodes; items = σ.items }

  raw : {A : Type 0} (m : P A) (Q : A → ℕ → Collected → Type 0) (at : ℕ) (σ : Raw) → Meets Q (exec (collect f) m f at (said σ)) → Meets
      (λ a q τ. Q a q (said τ)) (exec keep_as m f at σ)
  unfolding exec
  raw (ret a) Q at σ w = w
  raw (refuse n p) Q at σ w = tt
  raw (here k) Q at σ w = raw (k at) Q at σ w
  raw (byte κ k) Q at σ w = raw (k (get_or f at 0)) Q (at + 1) σ w
  raw (pass (node_row r) n m) Q at σ w =
      raw m Q (at + n) (record { nodes = σ.nodes ++ r ∷ []; items = σ.items })
      (subst (λ v. Meets Q (exec (collect f) m f (at + n) (record { nodes = v; items = σ.items })))
      (sym (map-append (shape f) σ.nodes (r ∷ []))) w)
  raw (pass (item_row r) n m) Q at σ w = raw m Q (at + n) (record { nodes = σ.nodes; items = σ.items ++ content f r ∷ [] }) w
  raw (pass (plain x) n m) Q at σ w = raw m Q (at + n) σ w

  post_raw : {A : Type 0} {m : P A} {Q : A → ℕ → Collected → Type 0} {at : ℕ} {σ : Raw} → Post (collect f) f m Q at (said σ) → Post keep_as f m (λ a q τ. Q a q (said τ)) at σ
  post_raw {m = m} {Q} {at} {σ} w = record { post = raw m Q at σ w.post }

  -- what is left are the rows of the run
  keeps_rows : (es : Events) (σ : Raw) → puts keep_as es σ ≡ record { nodes = σ.nodes ++ nodes_of es; items = σ.items ++ map (content f) (items_of es) }
  unfolding puts rows_of
  keeps_rows [] σ = rw (append-nil σ.nodes, append-nil σ.items) refl
  keeps_rows (seen κ p ∷ es) σ = keeps_rows es σ
  keeps_rows (passed (node_row r) p n ∷ es) σ = keeps_rows es (record { nodes = σ.nodes ++ r ∷ []; items = σ.items }) ∙ rw (append_assoc σ.nodes (r ∷ []) (nodes_of es)) refl
  keeps_rows (passed (item_row r) p n ∷ es) σ = keeps_rows es (record { nodes = σ.nodes; items = σ.items ++ content f r ∷ [] }) ∙ rw
      (append_assoc σ.items (content f r ∷ []) (map (content f) (items_of es))) refl
  keeps_rows (passed (plain x) p n ∷ es) σ = keeps_rows es σ

-- a front makes no node row
abbrev NoNode : Part → Type 0
NoNode (node_row r) = ⊥
NoNode (item_row r) = Unit {0}
NoNode (plain x) = Unit {0}

no-nodes : (es : Events) → Only (passing NoNode) es → nodes_of es ≡ []
unfolding rows_of
no-nodes [] o = refl
no-nodes (seen κ p ∷ es) o = no-nodes es o.1
no-nodes (passed (node_row r) p n ∷ es) o = absurd o.0
no-nodes (passed (item_row r) p n ∷ es) o = no-nodes es o.1
no-nodes (passed (plain x) p n ∷ es) o = no-nodes es o.1

like_same : (c : Content) → Like c c
like_same c = record { node = refl; item = refl; kind = refl; field = refl; name = refl; version = refl; declared = refl; format = refl }

plainly-keeps : (f : List ℕ) → Keeps f (λ k r. content f r)
plainly-keeps f k r = like_same (content f r)

-- ---- nodes

-- the bytes from `at` to q hold the texts, row by row; and where they are no more, no row is longer
pub record Bound (f : List ℕ) (rows : List Node) (spans : List Span) (texts : List (List ℕ)) (at q : ℕ) : Type 0 where
  pub covers : Covers f at (joined texts) q
  pub over : Over rows spans
  pub tight : at + length (joined texts) ≡ q → Exactly rows spans

-- n nodes were read from `at` on, in a part that ends at `end`
pub record Level (f : List ℕ) (x : Context) (end n : ℕ) (σ : Raw) (at : ℕ) (m : Made) (q : ℕ) (τ : Raw) : Type 0 where
  pub rows : List Node
  pub contents : List Content
  pub texts : List (List ℕ)
  pub sizes : List Span
  pub nodes-left : τ.nodes ≡ σ.nodes ++ rows
  pub items_left : τ.items ≡ σ.items ++ contents
  pub count : length texts ≡ n
  pub outer-is : (ss : List Shape) (ds : List Content) → outer (map (shape f) rows ++ ss) (contents ++ ds) ≡ texts ++ outer ss ds
  pub sizes_are : (ss : List Shape) (ds : List Content) → spans (map (shape f) rows ++ ss) (contents ++ ds) ≡ sizes ++ spans ss ds
  pub bound : AllStay (map (shape f) rows) → Bound f rows sizes texts at q
  pub each : AllStay (map (shape f) rows) → (ss : List Node) (ds : List Content) → Each f ss ds → Each f (rows ++ ss) (contents ++ ds)
  pub room : m.items ≤ x.limits.items
  pub inside : q ≤ end

no-texts : (ss : List (List ℕ)) → length ss ≡ 0 → joined ss ≡ []
no-texts [] e = refl
no-texts (s ∷ ss) e = absurd (omega arith)

bound_none : (f : List ℕ) (at : ℕ) → Bound f [] [] [] at at
bound_none f at = record { covers = covers-none at; over = none; tight = λ _. none }

bound_on : {f : List ℕ} {rs ts : List Node} {ss us : List Span} (xs ys : List (List ℕ)) {at p q : ℕ} → Bound f rs ss xs at p → Bound f ts us
    ys p q → Bound f (rs ++ ts) (ss ++ us) (xs ++ ys) at q
bound_on xs ys x y =
    let a = x.covers.short in let b = y.covers.short in
    let z = ap length (joined-append xs ys) ∙ length-append (joined xs) (joined ys) in
    record {
      covers = covers-as (sym (joined-append xs ys)) (covers-on x.covers y.covers);
      over = along_on x.over y.over;
      tight =
          λ e. along_on (x.tight (omega arith)) (y.tight (omega arith));
    }

module _ (f : List ℕ) (x : Context) (end : ℕ) where
  level_none : (m : Made) (at : ℕ) (σ : Raw) → m.items ≤ x.limits.items → at ≤ end → Level f x end 0 σ at m at σ
  level_none m at σ r l = record {
    rows = [];
    contents = [];
    texts = [];
    sizes = [];
    nodes-left = sym (append-nil σ.nodes);
    items_left = sym (append-nil σ.items);
    count = refl;
    outer-is = λ ss ds. refl;
    sizes_are = λ ss ds. refl;
    bound = λ _. bound_none f at;
    each = λ _ ss ds w. w;
    room = r;
    inside = l;
  }

  level_on : {k n at p q : ℕ} {m m₁ : Made} {σ τ υ : Raw} → Level f x end k σ at m p τ → Level f x end n τ p m₁ q υ → Level f x end (k + n) σ at m₁ q υ
  level_on {σ = σ} s t =
      let e = map-append (shape f) s.rows t.rows in
      record {
        rows = s.rows ++ t.rows;
        contents = s.contents ++ t.contents;
        texts = s.texts ++ t.texts;
        sizes = s.sizes ++ t.sizes;
        nodes-left = t.nodes-left ∙ ap (λ v. v ++ t.rows) s.nodes-left ∙ append_assoc σ.nodes s.rows t.rows;
        items_left = t.items_left ∙ ap (λ v. v ++ t.contents) s.items_left ∙ append_assoc σ.items s.contents t.contents;
        count = length-append s.texts t.texts ∙ ap₂ ◌+◌ s.count t.count;
        outer-is = λ ss ds.
            rw (
              e,
              append_assoc (map (shape f) s.rows) (map (shape f) t.rows) ss,
              append_assoc s.contents t.contents ds,
              append_assoc
                  s.texts t.texts (outer ss ds),
            )
            (s.outer-is (map (shape f) t.rows ++ ss) (t.contents ++ ds) ∙ ap (λ v. s.texts ++ v) (t.outer-is ss ds));
        sizes_are = λ ss ds.
            rw (
              e,
              append_assoc (map (shape f) s.rows) (map (shape f) t.rows) ss,
              append_assoc s.contents t.contents ds,
              append_assoc
                  s.sizes t.sizes (spans ss ds),
            )
            (s.sizes_are (map (shape f) t.rows ++ ss) (t.contents ++ ds) ∙ ap (λ v. s.sizes ++ v) (t.sizes_are ss ds));
        bound = λ a. let b : AllStay (map (shape f) s.rows ++ map (shape f) t.rows) = rw e at a in bound_on s.texts t.texts
            (s.bound (stay_left (map (shape f) s.rows) (map (shape f) t.rows) b))
            (t.bound (stay_right (map (shape f) s.rows) (map (shape f) t.rows) b));
        each = λ a ss ds w.
            let b : AllStay (map (shape f) s.rows ++ map (shape f) t.rows) = rw e at a in
            rw (append_assoc s.rows t.rows ss, append_assoc s.contents t.contents ds)
            (s.each (stay_left (map (shape f) s.rows) (map (shape f) t.rows) b) (t.rows ++ ss) (t.contents ++ ds)
            (t.each (stay_right (map (shape f) s.rows) (map (shape f) t.rows) b) ss ds w));
        room = t.room;
        inside = t.inside;
      }

  -- a node, from its front and the nodes that it holds
  level_one : (big : length f < 2 ^ 28) (o : end ≤ length f) {at q : ℕ} {m₂ : Made} {σ υ : Raw} (τ : Raw) {limits : Limits}
      {types : List Declared} {parent depth : ℕ} {m : Made} (row : Node) (cs : List Content)
      → Front limits types parent depth m (shape f row) cs → (shape f row).contained ≡ row.contained → row.start ≡ at → length cs ≡ row.rows →
      τ.nodes ≡ σ.nodes → τ.items ≡ σ.items
      ++ cs → (Stays (shape f row) → Spans f row (shape f row) cs at q) → at + row.size ≤ end
      → Level f x (at + row.size) row.contained (record { nodes = τ.nodes ++ row ∷ []; items = τ.items }) (q + inline_size row) m₂ (at + row.size) υ
      → Level f x end 1 σ at m₂ (at + row.size) υ
  unfolding outer spans
  level_one big o {at} {q} {σ = σ} τ row cs fr contained start counted left₁ left₂ wide inside t =
      let r : Shape = shape f row in let e = fr.counted in
      let l : length t.texts ≡ r.contained = t.count ∙ sym contained in
      let inner : List ℕ = joined t.texts in
      record {
        rows = row ∷ t.rows;
        contents = cs ++ t.contents;
        texts = whole_text r cs inner ∷ [];
        sizes = span_of r cs inner ∷ t.sizes;
        nodes-left = t.nodes-left ∙ ap (λ v. (v ++ row ∷ []) ++ t.rows) left₁ ∙ append_assoc σ.nodes (row ∷ []) t.rows;
        items_left = t.items_left ∙ ap (λ v. v ++ t.contents) left₂ ∙ append_assoc σ.items cs t.contents;
        count = refl;
        outer-is = λ ss ds.
            rw (
              append_assoc cs t.contents ds,
              take_at cs (t.contents ++ ds) r.rows e,
              drop_at cs (t.contents ++ ds) r.rows e,
              t.outer-is ss
                  ds,
              take_at t.texts (outer ss ds) r.contained l,
              drop_at t.texts (outer ss ds) r.contained l,
            ) refl;
        sizes_are = λ ss ds.
            rw (
              append_assoc cs t.contents ds,
              take_at cs (t.contents ++ ds) r.rows e,
              drop_at cs (t.contents ++ ds) r.rows e,
              t.outer-is ss
                  ds,
              take_at t.texts (outer ss ds) r.contained l,
            ) (ap (λ v. span_of r cs inner ∷ v) (t.sizes_are ss ds));
        bound = λ a.
            let b = t.bound a.1 in let w = wide a.0 in let i = b.covers.short in
            let h = span_header row r cs w inner i in let z = span_size row r cs w inner i in
            let y = node-exact r cs inner (omega arith) in
            record {
              covers = covers-last (whole_covers row r cs w inner i (omega arith) b.covers);
              over = more {r = row} h z b.over;
              tight = λ k.
                  let j = length-append (whole_text r cs inner) [] in
                  let u : (span_of r cs inner).size ≡ row.size = omega arith in
                  let v = span_tight row r cs w inner i u in
                  more {r = row} v.0 u (b.tight v.1);
            };
        each = λ a ss ds v.
            let b = t.bound a.1 in let w = wide a.0 in
            let c = whole_covers row r cs w inner b.covers.short (omega arith) b.covers in
            rw (append_assoc cs t.contents ds, take_at cs (t.contents ++ ds) row.rows counted, drop_at cs (t.contents ++ ds) row.rows counted) (
              record {
                inner = inner;
                alone = λ z. no-texts t.texts (t.count ∙ z);
                covers = subst (λ v. Covers f v (whole_text r cs inner) (v + row.size)) (sym start) c;
                inside = omega (arith, start);
              },
              t.each a.1 ss ds v,
            );
        room = t.room;
        inside = inside;
      }

counted-rows : (f : List ℕ) (row : Node) (cs : List Content) → length cs ≡ (shape f row).rows → length cs ≡ row.rows
unfolding shape
counted-rows f row cs e = e

-- ---- the tree

module _ (f : List ℕ) (big : length f < 2 ^ 28) (x : Context) where
  -- the front of a node, from `at` to q
  abbrev FrontLevel : (parent depth : ℕ) → Bounds → Made → Raw → ℕ → front.Front → ℕ → Raw → Type 0
  FrontLevel parent depth z m σ at w q τ =
      (cs : List Content) × Front x.limits x.types parent depth m (shape f w.row) cs × (w.made ≡ plus_items (length cs) m) ×
      (τ.nodes ≡ σ.nodes) × (τ.items ≡ σ.items ++ cs)
      × (Stays (shape f w.row) → Spans f w.row (shape f w.row) cs at q) × FrontIn x z m at w q

  front-level : (parent depth least end : ℕ) (m : Made) (at : ℕ) (σ : Raw) → end ≤ length f → end ≤ x.size → m.nodes < x.limits.nodes → m.items ≤ x.limits.items
      → Post (keep_as f) f (front x parent depth (in_tree least end) m) (FrontLevel parent depth (in_tree least end) m σ at) at σ
  front-level parent depth least end m at σ o i room r =
      post_weaken (post_left (post_known (post_raw f (front-says (plainly-keeps f) x parent depth least end m at (said f σ) o room r)))) λ w q τ s.
      let p : P front.Front = front x parent depth (in_tree least end) m in
      let (cs, fr, made, left, inside, wide) = s.0.0 in let es : Events = trace p f at in
      let none_made : nodes_of es ≡ [] = no-nodes es (used f at (front-uses {S = passing NoNode} (λ κ. tt) (λ x. tt) (λ i. tt) x parent depth (in_tree least end) m)) in
      let kept : τ.nodes ≡ σ.nodes ++ nodes_of es = ap (λ (v : Raw). v.nodes) (s.1 ∙ keeps_rows f es σ) in (
        cs,
        fr,
        made,
        kept ∙ ap (λ v. σ.nodes ++ v) none_made ∙ append-nil σ.nodes,
        ap (λ (v : Collected). v.items) left,
        wide (plainly f),
        at_end (inside-free end x.size) f (front-on Nothing end x parent depth (in_tree least end) m at (omega arith) i) s.0.1,
      )

  -- what is to be shown of n nodes with d levels left
  abbrev Levels : ℕ → Type 0
  Levels d = (n parent end : ℕ) (m : Made) (at : ℕ) (σ : Raw) → end ≤ length f → end ≤ x.size → at ≤ end → m.items ≤ x.limits.items
      → Post (keep_as f) f (times n (tree.node d x parent (in_tree 0 end)) m) (Level f x end n σ at) at σ

  node-level : (d : ℕ) → Levels d → (parent least end : ℕ) (m : Made) (at : ℕ) (σ : Raw) → end ≤ length f → end ≤ x.size → m.items ≤ x.limits.items
      → Post (keep_as f) f (tree.node (suc d) x parent (in_tree least end) m) (Level f x end 1 σ at) at σ
  unfolding tree.node folder
  node-level d children parent least end m at σ o i r =
      post_place _ at
      (post_check _ _ λ room.
      post_after (front-level parent (16 - d) least end m at σ o i (ltb-true _ _ room) r) λ w q τ s.
      let (cs, fr, made, left₁, left₂, wide, y) = s in
      let k : w.made.items ≡ m.items + length cs = ap (λ (v : Made). v.items) made in
      let a = y.within in let c = inline_fits y in
      post_skip _ _
      (post_after (children w.row.contained m.nodes (at + w.row.size) (plus_node w.made) _ _ (omega arith) (omega arith) c (omega (arith, fr.item_room))) λ m₂ p υ t.
      post_place _ p
      (post_check _ _ λ full.
      let b = t.inside in
      let e : p ≡ at + w.row.size = omega (arith, leb-true (at + w.row.size) p full) in
      post_ret (subst (λ v. Level f x end 1 σ at m₂ v υ) (sym e)
      (level_one f x end big o τ w.row cs fr (shape-contained f w.row) y.start (counted-rows f w.row cs fr.counted) left₁ left₂ wide a
      (subst (λ v. Level f x (at + w.row.size) w.row.contained (record { nodes = τ.nodes ++ w.row ∷ []; items = τ.items }) (q + inline_size w.row) m₂ v υ) e t))))))

  times-level : (d : ℕ) → Levels d → Levels (suc d)
  unfolding times
  times-level d children zero parent end m at σ o i l r = post_ret (level_none f x end m at σ r l)
  times-level d children (suc n) parent end m at σ o i l r =
      post_after (node-level d children parent 0 end m at σ o i r) λ m₁ q τ s.
      post_weaken (times-level d children n parent end m₁ q τ o i s.inside s.room) λ m₂ p υ t. let e : 1 + n ≡ suc n = omega arith in subst
      (λ k. Level f x end k σ at m₂ p υ) e (level_on f x end s t)

  none-level : Levels 0
  unfolding times tree.node exec ◌>>=◌
  none-level zero parent end m at σ o i l r = record { post = level_none f x end m at σ r l }
  none-level (suc n) parent end m at σ o i l r = record { post = tt }

  levels : (d : ℕ) → Levels d
  levels zero = none-level
  levels (suc d) = times-level d (levels d)

  -- the rows of an accepted tree
  pub tree-level : (end at : ℕ) → end ≤ length f → end ≤ x.size → {m : Made} {q : ℕ} → run (tree.tree x end) f at ≡ ok m q
      → (t : Level f x end 1 (record { nodes = []; items = [] }) at m q (puts (keep_as f) (trace (tree.tree x end) f at) (record { nodes = []; items = [] })))
      × (t.rows ≡ nodes_of (trace (tree.tree x end) f at)) × (t.contents ≡ map (content f) (items_of (trace (tree.tree x end) f at)))
  unfolding tree.tree
  tree-level end at o i {m} {q} e =
      let p : P Made = tree.node 16 x 0 (in_tree end end) (record { nodes = 0; items = 0 }) in
      let σ : Raw = record { nodes = []; items = [] } in
      let τ : Raw = puts (keep_as f) (trace p f at) σ in
      let w = node-level 15 (levels 15) 0 end end (record { nodes = 0; items = 0 }) at σ o i (omega arith) in
      let t : Level f x end 1 σ at m q τ = holds w (exec-puts (keep_as f) p f at σ ∙ ap (λ o. still o τ) e) in
      let k = keeps_rows f (trace p f at) σ in
      (t, sym t.nodes-left ∙ ap (λ (v : Raw). v.nodes) k, sym t.items_left ∙ ap (λ (v : Raw). v.items) k)
