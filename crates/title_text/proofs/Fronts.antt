-- A node up to its contents that was written is read back, and says what was written.
-- Assumes nothing.
use mathlib.Core.Path.{◌≡◌, refl, sym, ap, subst}
use mathlib.Core.Logic.{◌⊎◌, inl, inr}
use mathlib.Core.Bool.{Bool, true, false, cond, ◌&&◌, ◌||◌}
use mathlib.Core.List.{List, [], ◌∷◌}
use Prim.Native.Nat.{ℕ, zero, suc, ◌+◌, ◌-◌, ◌^◌, ◌≤◌, ◌<◌}
use native.Mathlib.Omega.{arith}
use lib.Dec.{eqb}
use lib.ListN.{length, length-append}
use borrow.Author.Tests.{le-leb, eq-eqb, ne_eqb}
use Rattle.machine.specs.Machine.{ok, run, exec, times}
use Rattle.cursor.specs.Rows.{reference_frame, size_if, inline_size}
use Rattle.room.specs.Parts.{part, joined}
use Rattle.vlq.specs.Vlq.{vlq, sized}
use Rattle.machine.proofs.Laws.{running, executing}
use Rattle.cursor.proofs.Quiet.{still}
use Rattle.room.proofs.Lies.{Lies, lies_left, lies_part, lies_at, lies_as, stand, joined_length}
use Rattle.vlq.proofs.Sized.{stand_sized, sized-length}
use Rattle.vlq.proofs.Back.{number-back, block_back}
use Rattle.header.specs.Types.{Declared}
use Rattle.metadata.specs.Metadata.{Context, metadata}
use Rattle.metadata.specs.declared.Limits.{Limits}
use Rattle.metadata.specs.declared.Made.{Made}
use Rattle.node.specs.Node as node
use Rattle.node.specs.Node.{in_tree, uri_place, target, reference, rest, front}
use Rattle.node.specs.declared.Bounds.{Bounds}
use Rattle.node.specs.declared.Head as head
use Rattle.node.specs.declared.Unpackers as unpackers
use Rattle.node.specs.declared.Reference as reference
use Rattle.node.specs.declared.Front as front
use Rattle.node.proofs.Quiet.{head-quiet, rest-quiet}
use Rattle.title_text.specs.Description.{Content, Shape, shape, answer, unpacker_text, content}
use Rattle.title_text.specs.Text.{items_text, header_of, framed, own_text, node_text, whole_text}
use Rattle.title_text.proofs.Sizes.{framed-length, framed-header, framed-most}
use Rattle.title_text.proofs.Collecting.{Collected, collect, collect-ignores, with_items}
use Rattle.title_text.proofs.Items.{plus_items, Entries, flat, items-text, metadata-back}
use Rattle.title_text.proofs.Unpackers.{Unpackers, packs_back, packs_again}
use Rattle.title_text.proofs.Head.{head-back}

-- ---- the reference

or_true : (c : Bool) → (c || true) ≡ true
or_true true = refl
or_true false = refl

pub own-inline : (r : Shape) → r.reference ≡ 1 → own_text r ≡ joined (vlq 1 ∷ r.body ∷ [])
unfolding own_text
own-inline r e = ap (λ v. joined (vlq v ∷ cond (eqb v 4) (sized r.body) r.body ∷ [])) e

pub own-uri : (r : Shape) → r.reference ≡ 4 → own_text r ≡ joined (vlq 4 ∷ sized r.body ∷ [])
unfolding own_text
own-uri r e = ap (λ v. joined (vlq v ∷ cond (eqb v 4) (sized r.body) r.body ∷ [])) e

module _ (g : List ℕ) (big : length g < 2 ^ 28) (header_end size contained stop q : ℕ) (r : Shape) where
  inline_run : r.reference ≡ 1 → Lies g q (own_text r) → q + length (own_text r) ≤ stop
      → run (reference header_end size contained stop) g q ≡ ok (record { kind = 1; target = q + length (vlq 1); extent = stop - (q + length (vlq 1)) }) (q + length (vlq 1))
  unfolding reference target
  inline_run e h i =
      let ss : List (List ℕ) = vlq 1 ∷ r.body ∷ [] in
      let t = own-inline r e in let s = stand ss (lies_as t h) in let z = joined_length ss in let w = ap length t in
      let e₁ = number-back reference_frame 3 stop 1 s.0 (omega arith) (omega arith) in
      simp (running, e₁, or_true (eqb contained 0))

  uri_run : r.reference ≡ 4 → contained ≡ 0 → Lies g q (own_text r) → q + length (own_text r) ≤ stop
      → run (reference header_end size contained stop) g q ≡ ok
      (record { kind = 4; target = q + length (vlq 4) + length (vlq (length r.body)); extent = length r.body }) (q + length (own_text r))
  unfolding reference target uri_place
  uri_run e f h i =
      let n : ℕ = length r.body in
      let ss : List (List ℕ) = vlq 4 ∷ sized r.body ∷ [] in
      let t = own-uri r e in let s = stand ss (lies_as t h) in let u = stand_sized r.body s.1.0 in
      let z = joined_length ss in let y = sized-length r.body in let x = h.inside in let w = ap length t in
      let e₁ = number-back reference_frame 3 stop 4 s.0 (omega arith) (omega arith) in
      let e₂ = block_back reference_frame 3 stop n u.0 (omega arith) (omega arith) in
      let e₃ : q + length (vlq 4) + length (vlq n) + n ≡ q + length (own_text r) = omega arith in
      rw (← e₃) (simp (running, e₁, eq-eqb _ _ f, e₂))

-- ---- what a node's front asks of its rows, given the parent, the depth and the rows made before

-- the node names no place of the file
abbrev pub Stays : Shape → Type 0
Stays r = ((r.reference ≡ 2) → ⊥) × ((r.reference ≡ 3) → ⊥)

pub record Front (limits : Limits) (types : List Declared) (parent depth : ℕ) (m : Made) (r : Shape) (cs : List Content) : Type 0 where
  pub groups : List (List Content)
  pub entries : Entries types m.nodes 0 groups
  pub contents : flat groups ≡ cs
  pub packs : List (List ℕ)
  pub unpackers : Unpackers packs
  pub packed : joined packs ≡ r.unpackers
  pub unpacker_count : length packs ≡ r.unpacker_count
  pub parent_is : parent ≡ r.parent
  pub depth_is : depth ≡ r.depth
  pub in_tree : 0 ≡ r.detached
  pub counted : length cs ≡ r.rows
  pub few : r.contained < 2 ^ 28
  pub node-room : m.nodes < limits.nodes
  pub item_room : m.items + length cs ≤ limits.items
  pub refers : Stays r → (r.reference ≡ 1) ⊎ ((r.reference ≡ 4) × (r.contained ≡ 0))
  pub unpacked : (r.contained ≡ 0) ⊎ (length r.unpackers ≡ 0)
  pub empty : ((r.contained ≡ 0) → ⊥) → r.body ≡ []

-- ---- up to the reference

exec-head : (g : List ℕ) (s : Bounds) (f : List ℕ) (at : ℕ) (σ : Collected) → exec (collect g) (node.head s) f at σ ≡ still (run (node.head s) f at) σ
exec-head g s = (head-quiet (collect-ignores (λ k r. content g r) g) s).quiet

exec-rest : (g : List ℕ) (header_end size contained inner stop : ℕ) (f : List ℕ) (at : ℕ) (σ : Collected) → exec (collect g)
    (rest header_end size contained inner stop) f at σ ≡ still (run (rest header_end size contained inner stop) f at) σ
exec-rest g header_end size contained inner stop = (rest-quiet (collect-ignores (λ k r. content g r) g) header_end size contained inner stop).quiet

-- unpackers that end where the header does, and a reference
rest-run : (header_end size contained inner stop : ℕ) (g : List ℕ) (q : ℕ) {u : unpackers.Unpackers} {o : reference.Reference} {e : ℕ} → run
    (node.unpackers contained inner) g q ≡ ok u inner → run (reference header_end size contained stop) g inner ≡ ok o e
    → run (rest header_end size contained inner stop) g q ≡ ok (record { unpackers = u; reference = o }) e
unfolding rest
rest-run header_end size contained inner stop g q a b = let k : inner ≤ inner = omega arith in simp (running, a, le-leb _ _ k, b)

pub meta_back : (x : Context) (node end : ℕ) (g : List ℕ) → length g < 2 ^ 28 → {css : List (List Content)} → Entries x.types node 0
    css → (cs : List Content) → flat css ≡ cs → (m : Made) (p : ℕ) (σ : Collected)
    → Lies g p (sized (items_text cs)) → p + length (sized (items_text cs)) ≤ end → m.items + length cs ≤ x.limits.items
    → exec (collect g) (metadata x node end m) g p σ ≡ ok (plus_items (length cs) m, with_items σ cs) (p + length (sized (items_text cs)))
meta_back x node end g big {css} es cs e m p σ =
    subst (λ v. Lies g p (sized (items_text v)) → p + length (sized (items_text v)) ≤ end → m.items + length v ≤ x.limits.items
    → exec (collect g) (metadata x node end m) g p σ ≡ ok (plus_items (length v) m, with_items σ v) (p + length (sized (items_text v)))) e
    (λ h i r. let k = items-text es in rw k (metadata-back x node end g big es m p σ (rw k at h) (rw k at i) r))

module _ (x : Context) (g : List ℕ) (big : length g < 2 ^ 28) (parent depth least end : ℕ) (m : Made) (r : Shape) (cs : List Content)
    (n : ℕ) (p : ℕ) (σ : Collected) (f : Front x.limits x.types parent depth m r cs) where
  abbrev header : List ℕ
  header = joined (sized (items_text cs) ∷ sized r.unpackers ∷ [])

  abbrev H : ℕ
  H = header_of r.contained header (length (own_text r) + n)

  abbrev N : ℕ
  N = H + (length (own_text r) + n)

  -- whatever the reference is
  upto : N < 2 ^ 28 → Lies g p (node_text r cs n) → p + N ≤ end → least ≤ p + N → {o : reference.Reference} {e : ℕ}
      → run (reference x.header_end x.size r.contained (p + N)) g (p + H) ≡ ok o e
      → exec (collect g) (front x parent depth (in_tree least end) m) g p σ
      ≡ ok (
        record {
          row = node.row_of p (record { size = record { 0 = N }; contained = r.contained; header = record { 0 = H } }) parent depth 0 o
              (record { place = record { 0 = p + H - length r.unpackers }; count = r.unpacker_count }) (m.items + length cs - m.items);
          made =
              plus_items (length cs) m;
        },
        with_items σ cs,
      ) e
  unfolding front node_text framed
  upto small h i j {o} {e} ref =
      let ss : List (List ℕ) = vlq N ∷ vlq r.contained ∷ vlq H ∷ header ∷ own_text r ∷ [] in
      let s = stand ss h in
      let t = stand (sized (items_text cs) ∷ sized r.unpackers ∷ []) s.1.1.1.0 in
      let w = framed-length r.contained header (own_text r) n small in
      let y = framed-header r.contained header (length (own_text r) + n) small in
      let z = joined_length (sized (items_text cs) ∷ sized r.unpackers ∷ []) in
      let v = sized-length r.unpackers in
      let a : ℕ = p + length (vlq N) + length (vlq r.contained) + length (vlq H) in
      let e₁ = head-back end least g p r.contained header (own_text r) n f.few small h (omega arith) (omega arith) in
      let b : ℕ = a + length (sized (items_text cs)) in
      let i₂ : a + length (sized (items_text cs)) ≤ p + H = omega arith in
      let e₂ = meta_back x m.nodes (p + H) g big f.entries cs f.contents m a σ t.0 i₂ f.item_room in
      let i₃ : b + length (sized r.unpackers) ≡ p + H = omega arith in
      let e₃ = packs_back g big r.contained (p + H) b f.unpackers r.unpackers r.unpacker_count f.packed f.unpacker_count f.unpacked t.1.0 i₃ in
      let e₄ = rest-run x.header_end x.size r.contained (p + H) (p + N) g b e₃ ref in
      let e₅ : b + length (vlq (length r.unpackers)) ≡ p + H - length r.unpackers = omega arith in
      simp (executing, exec-head, e₁, e₂, exec-rest, e₄, e₅)

  -- where the parts stand
  parts_lie : N < 2 ^ 28 → Lies g p (node_text r cs n) → Lies g (p + H - length r.unpackers) r.unpackers × Lies g (p + H) (own_text r) ×
      (p + H + length (own_text r) ≡ p + length (node_text r cs n)) × (length (node_text r cs n) + n ≡ N)
  unfolding node_text framed
  parts_lie small h =
      let ss : List (List ℕ) = vlq N ∷ vlq r.contained ∷ vlq H ∷ header ∷ own_text r ∷ [] in
      let s = stand ss h in
      let t = stand (sized (items_text cs) ∷ sized r.unpackers ∷ []) s.1.1.1.0 in
      let u = stand_sized r.unpackers t.1.0 in
      let w = framed-length r.contained header (own_text r) n small in
      let y = framed-header r.contained header (length (own_text r) + n) small in
      let z = joined_length (sized (items_text cs) ∷ sized r.unpackers ∷ []) in
      let q = joined_length ss in let v = sized-length r.unpackers in
      (lies_at (omega arith) u.1, lies_at (omega arith) s.1.1.1.1.0, omega arith, omega arith)

-- ---- the front of a node

-- a row says a node
row-says : (g : List ℕ) (r : Shape) (h : head.Head) (p parent depth : ℕ) (o : reference.Reference) (u : unpackers.Unpackers) (rows : ℕ)
    → h.contained ≡ r.contained → parent ≡ r.parent → depth ≡ r.depth → o.kind ≡ r.reference → u.count ≡ r.unpacker_count → rows ≡ r.rows → 0 ≡ r.detached
    → answer (run (times u.count (unpacker_text g) []) g u.place.0) ≡ r.unpackers → cond (eqb h.contained 0) (part g o.target o.extent) [] ≡ r.body
    → shape g (node.row_of p h parent depth 0 o u rows) ≡ r
unfolding shape
row-says g r h p parent depth o u rows a b c d e f t k l = rw (l, k, a, b, c, d, e, f, t)

body_is : (contained : ℕ) (t body : List ℕ) → (contained ≡ 0 → t ≡ body) → (((contained ≡ 0) → ⊥) → body ≡ []) → cond (eqb contained 0) t [] ≡ body
body_is zero t body a b = a refl
body_is (suc contained) t body a b = let n : (suc contained ≡ 0) → ⊥ = λ e. omega arith in rw (ne_eqb (suc contained) 0 n) (sym (b n))

-- what the row of a node with reference 1 passes over
passed : (contained n k : ℕ) → (contained ≡ 0 → n ≡ k) → (((contained ≡ 0) → ⊥) → 0 ≡ k) → size_if (eqb contained 0 && eqb 1 1) n ≡ k
passed zero n k a b = a refl
passed (suc contained) n k a b = let z : (suc contained ≡ 0) → ⊥ = λ e. omega arith in rw (ne_eqb (suc contained) 0 z) (b z)

passed_none : (contained n : ℕ) → size_if (eqb contained 0 && eqb 4 1) n ≡ 0
passed_none zero n = refl
passed_none (suc contained) n = let z : (suc contained ≡ 0) → ⊥ = λ e. omega arith in rw (ne_eqb (suc contained) 0 z) refl

part-as : {g : List ℕ} {q : ℕ} {s : List ℕ} (n : ℕ) → n ≡ length s → Lies g q s → part g q n ≡ s
part-as n e h = rw e (lies_part h)

most : (r : Shape) (cs : List Content) (n : ℕ) → header_of r.contained (joined (sized (items_text cs) ∷ sized r.unpackers ∷ []))
    (length (own_text r) + n) + (length (own_text r) + n) ≤ length (node_text r cs n) + n
unfolding node_text
most r cs n = framed-most r.contained (joined (sized (items_text cs) ∷ sized r.unpackers ∷ [])) (own_text r) n

lies_whole : {g : List ℕ} {p : ℕ} (r : Shape) (cs : List Content) (inner : List ℕ) → Lies g p (whole_text r cs inner) → Lies g p
    (node_text r cs (length inner)) × (length (whole_text r cs inner) ≡ length (node_text r cs (length inner)) + length inner)
unfolding whole_text
lies_whole r cs inner h = (lies_left (node_text r cs (length inner)) inner h, length-append (node_text r cs (length inner)) inner)

-- the front was read back: its row says r, its size is that of its bytes, and behind what the row passes over stands what the node holds
pub record FrontBack (x : Context) (g : List ℕ) (parent depth least end : ℕ) (m : Made) (r : Shape) (cs : List Content) (inner : List ℕ) (p : ℕ) (σ : Collected) : Type 0 where
  pub is : front.Front
  pub next : ℕ
  pub ran : exec (collect g) (front x parent depth (in_tree least end) m) g p σ ≡ ok (is, with_items σ cs) next
  pub says : shape g is.row ≡ r
  pub made : is.made ≡ plus_items (length cs) m
  pub contained : is.row.contained ≡ r.contained
  pub size : is.row.size ≡ length (whole_text r cs inner)
  pub past : next + inline_size is.row ≡ p + length (node_text r cs (length inner))

module _ (x : Context) (g : List ℕ) (big : length g < 2 ^ 28) (parent depth least end : ℕ) (m : Made) (r : Shape) (cs : List Content)
    (inner : List ℕ) (p : ℕ) (σ : Collected) (f : Front x.limits x.types parent depth m r cs) where
  pub front-back : Stays r → ((r.contained ≡ 0) → length inner ≡ 0) → Lies g p (whole_text r cs inner) → p + length (whole_text r cs inner) ≤
      end → least ≤ p + length (whole_text r cs inner) → FrontBack x g parent depth least end m r cs inner p σ
  front-back stays alone h i j =
      let n : ℕ = length inner in let (hn, w) = lies_whole r cs inner h in let own : ℕ = length (own_text r) in
      let H : ℕ = header_of r.contained (joined (sized (items_text cs) ∷ sized r.unpackers ∷ [])) (own + n) in
      let N : ℕ = H + (own + n) in
      let small : N < 2 ^ 28 = omega (arith, most r cs n, h.inside) in
      let (up, ol, at, len) = parts_lie x g big parent depth least end m r cs n p σ f small hn in
      let again = packs_again g f.unpackers r.unpackers r.unpacker_count (p + H - length r.unpackers) f.packed f.unpacker_count up in
      let rows : m.items + length cs - m.items ≡ r.rows = omega (arith, f.counted) in
      elim (f.refers stays) [
        | inl one ↦
            let oe = own-inline r one in
            let s = stand (vlq 1 ∷ r.body ∷ []) (lies_as oe ol) in
            let z = joined_length (vlq 1 ∷ r.body ∷ []) in
            let zz = ap length oe in let q : ℕ = p + H + length (vlq 1) in
            let ref = inline_run g big x.header_end x.size r.contained (p + N) (p + H) r one ol (omega arith) in
            let pass = passed r.contained (p + N - q) (length r.body) (λ e. omega (arith, alone e)) (λ e. sym (ap length (f.empty e))) in
            record {
              is = _;
              next = q;
              ran = upto x g big parent depth least end m r cs n p σ f small hn (omega arith) (omega arith) ref;
              says = row-says g r _ p parent depth _ _ _ refl f.parent_is f.depth_is (sym one) refl rows f.in_tree again
                  (body_is r.contained (part g q (p + N - q)) r.body (λ e. part-as (p + N - q) (omega (arith, alone e)) s.1.0) f.empty);
              made = refl;
              contained = refl;
              size = omega arith;
              past = omega (arith, pass);
            }
        | inr (four, none) ↦
            let oe = own-uri r four in
            let s = stand (vlq 4 ∷ sized r.body ∷ []) (lies_as oe ol) in
            let z = joined_length (vlq 4 ∷ sized r.body ∷ []) in
            let zz = ap length oe in
            let q : ℕ = p + H + length (vlq 4) + length (vlq (length r.body)) in
            let ref = uri_run g big x.header_end x.size r.contained (p + N) (p + H) r four none ol (omega arith) in
            record {
              is = _;
              next = p + H + own;
              ran = upto x g big parent depth least end m r cs n p σ f small hn (omega arith) (omega arith) ref;
              says = row-says g r _ p parent depth _ _ _ refl f.parent_is f.depth_is (sym four) refl rows f.in_tree again
                  (body_is r.contained (part g q (length r.body)) r.body (λ e. lies_part (stand_sized r.body s.1.0).1) f.empty);
              made = refl;
              contained = refl;
              size = omega arith;
              past = omega (arith, passed_none r.contained (length r.body));
            }
      ]
