-- Where each part of a node ends: after it began, and not past the part that holds it; and what a node's row says of its places.
-- Assumes nothing.
use mathlib.Core.Path.{◌≡◌, refl, ◌∙◌}
use mathlib.Core.Bool.{Bool, true, false, ◌&&◌, ◌||◌}
use mathlib.Core.Logic.{◌⊎◌, inl, inr}
use mathlib.Core.List.{List}
use Prim.Native.Nat.{ℕ, ◌+◌, ◌-◌, ◌≤◌, ◌<◌}
use native.Mathlib.Omega.{arith}
use lib.Dec.{T, eqb, eqb→eq}
use borrow.Author.Tests.{leb-true, eqb-true}
use Rattle.machine.specs.Machine.{ok, run, exec}
use Rattle.cursor.specs.Rows.{has_inline, size_if, inline_size}
use Rattle.cursor.specs.declared.Node.{Node}
use Rattle.machine.proofs.Laws.{ran}
use Rattle.machine.proofs.Wp.{Wp, at_end, wp_after, wp_weaken, wp_ret, wp_if, wp_check, wp_place, wp_skip, wp_many}
use Rattle.cursor.proofs.Leaves.{number-on, block_on, manufacturer-on, guid-on}
use Rattle.metadata.specs.Tables.{State, put}
use Rattle.metadata.specs.Metadata.{Context, metadata}
use Rattle.metadata.specs.declared.Made.{Made}
use Rattle.metadata.proofs.Ends.{OfNames, Nothing, inside-free, Inside, Since, metadata-on}
use Rattle.node.specs.Node.{header_length, head, value, identifier, unpacker, entries, unpackers, resource, node_place, uri_place, target, reference, rest, front}
use Rattle.node.specs.declared.Bounds.{Bounds}
use Rattle.node.specs.declared.Head.{Head}
use Rattle.node.specs.declared.Reference.{Reference}
use Rattle.node.specs.declared.Front.{Front}

-- a reference 3 leads to a node; what any other leads to lies in a file of `size` bytes
abbrev pub Leads : ℕ → Reference → Type 0
Leads size r = (r.kind ≡ 3) ⊎ (r.target + r.extent ≤ size)

-- what a reference 1 leads to begins where the reference ends, at q, and runs to the node's end
abbrev pub Follows : (end q : ℕ) → Reference → Type 0
Follows end q r = (r.kind ≡ 1) → (r.target ≡ q) × (r.extent ≡ end - q)

-- a folder is not detached
no-folder : (contained detached : ℕ) → (eqb contained 0 || eqb detached 0) ≡ true → (contained ≡ 0) ⊎ (detached ≡ 0)
no-folder contained detached t = by (eqb contained 0) refl t
  where
    by : (b : Bool) → eqb contained 0 ≡ b → (b || eqb detached 0) ≡ true → (contained ≡ 0) ⊎ (detached ≡ 0)
    by true e z = inl (eqb-true _ _ e)
    by false e z = inr (eqb-true _ _ z)

module _ (N : OfNames) (top size : ℕ) where
  pub header-length_on : (p n contained at : ℕ) → Wp (Inside N top size) (header_length p n contained)
      (λ h q. (at < q) × (q ≤ p + h.header.0) × (h.header.0 ≤ h.size.0) × (h.size.0 ≡ n) × (h.contained ≡ contained)) at
  unfolding header_length
  header-length_on p n contained at =
      wp_place _ at
      (wp_after (number-on _ _ (p + n) at) λ header q x.
      wp_place _ q (wp_check _ _ λ t. wp_check _ _ λ u. wp_ret (omega arith, leb-true q (p + header) u, leb-true header n t, refl, refl)))

  pub head-on : (s : Bounds) (at : ℕ) → Wp (Inside N top size) (head s)
      (λ h q. (at < q) × (q ≤ at + h.header.0) × (h.header.0 ≤ h.size.0) × (at + h.size.0 ≤ s.end.0) ×
      (s.least.0 ≤ at + h.size.0) × (at + h.size.0 ≤ s.taken.0) × ((h.contained ≡ 0) ⊎ (s.detached ≡ 0))) at
  unfolding head
  head-on s at =
      wp_place _ at
      (wp_after (number-on _ _ s.end.0 at) λ n p x. wp_check _ _ λ t. wp_check _ _ λ u. wp_check _ _ λ v.
      wp_after (number-on _ _ (at + n) p) λ contained q y. wp_check _ _ λ w.
      wp_weaken (header-length_on at n contained q)
      (λ h r z. (
        omega arith,
        omega arith,
        omega arith,
        omega (arith, leb-true (at + n) s.end.0 t),
        omega
            (arith, leb-true s.least.0 (at + n) u),
        omega (arith, leb-true (at + n) s.taken.0 v),
        elim (no-folder contained s.detached w)
            [ inl e ↦ inl (z.4 ∙ e) | inr e ↦ inr e ],
      )))

  value_on : (end at : ℕ) → Wp (Inside N top size) (value end) (λ _ q. (at < q) × (q ≤ end)) at
  unfolding value
  value_on end at = wp_after (number-on _ _ end at) λ v q x. wp_ret (omega arith)

  identifier-on : (kind end at : ℕ) → Wp (Inside N top size) (identifier kind end) (λ _ q. (at < q) × (q ≤ end)) at
  unfolding identifier
  identifier-on kind end at =
      wp_if (λ t. wp_weaken (guid-on _ end at) (λ _ q x. omega arith))
      λ t. wp_if (λ u. wp_after (manufacturer-on _ end at) λ m q x. wp_weaken (value_on end q) (λ _ r y. omega arith)) (λ u. value_on end at)

  pub unpacker-on : (end n at : ℕ) → Wp (Inside N top size) (unpacker end n) (λ k q. (k ≡ n + 1) × (at < q) × (q ≤ end)) at
  unfolding unpacker
  unpacker-on end n at =
      wp_place _ at
      (wp_after (number-on _ _ end at) λ kind q x. wp_check _ _ λ t.
      wp_after (identifier-on kind end q) λ i r y.
      wp_after (value_on end r) λ v s z. wp_ret (refl, omega arith, omega arith))

  entries-on : (end at : ℕ) → at ≤ end → Wp (Inside N top size) (entries end) (λ u q. (u.place.0 ≡ at) × (q ≡ end)) at
  unfolding entries
  entries-on end at l =
      wp_place _ at
      (wp_after (wp_many (λ _. Unit {0}) 0 (λ n p l i. wp_weaken (unpacker-on end n p) (λ k q x. (tt, omega arith, omega arith))) tt l) λ k q x.
      wp_ret (refl, x.1))

  pub unpackers-on : (contained end at : ℕ) → Wp (Inside N top size) (unpackers contained end) (λ _ q. (at < q) × (q ≤ end)) at
  unfolding unpackers
  unpackers-on contained end at =
      wp_place _ at
      (wp_after (block_on _ _ end at) λ n q x. wp_check _ _ λ t.
      wp_place _ q (wp_weaken (entries-on (q + n) q (omega arith)) (λ u r y. omega arith)))

  target-on : (header_end r end at : ℕ) → end ≤ top → end ≤ size → at ≤ end → Wp (Inside N top size) (target header_end size r end)
      (λ r q. (at ≤ q) × (q ≤ end) × Leads size r × Follows end q r) at
  unfolding target resource node_place uri_place
  target-on header_end r end at o i l =
      wp_if (λ t. wp_place _ at (wp_ret (omega arith, l, inr (omega arith), λ k. (refl, refl))))
      λ t. wp_if
      (λ u. wp_place _ at (wp_after (number-on _ _ end at) λ v q x. wp_check _ _ λ c. wp_check _ _ λ d. wp_ret
      (omega arith, omega arith, inr (omega (arith, leb-true v size d)), λ k. absurd (omega arith))))
      λ u. wp_if (λ w. wp_after (number-on _ _ end at) λ v q x. wp_ret (omega arith, omega arith, inl refl, λ k. absurd (omega arith)))
      (λ w. wp_after (block_on _ _ end at) λ n q x. wp_place _ q (wp_skip _ _ (omega arith) (λ _. wp_ret (omega arith, omega arith, inr (omega arith), λ k. absurd (omega arith)))))

  reference-on : (header_end contained end at : ℕ) → end ≤ top → end ≤ size → Wp (Inside N top size) (reference header_end size contained end)
      (λ r q. (at < q) × (q ≤ end) × Leads size r × Follows end q r) at
  unfolding reference
  reference-on header_end contained end at o i =
      wp_place _ at
      (wp_after (number-on _ _ end at) λ r q x. wp_check _ _ λ t. wp_check _ _ λ u. wp_check _ _ λ v.
      wp_weaken (target-on header_end r end q o i (omega arith)) (λ r p y. (omega arith, omega arith, y.2, y.3)))

  rest-on : (header_end contained inner stop at : ℕ) → stop ≤ top → stop ≤ size → Wp (Inside N top size)
      (rest header_end size contained inner stop) (λ r q. (inner < q) × (q ≤ stop) × Leads size r.reference × Follows stop q r.reference) at
  unfolding rest
  rest-on header_end contained inner stop at o i =
      wp_after (unpackers-on contained inner at) λ u q x.
      wp_place _ q (wp_check _ _ λ t.
      wp_after (reference-on header_end contained stop q o i) λ r p y. wp_ret (omega (arith, leb-true inner q t), omega arith, y.2, y.3))

-- ---- the whole

-- what is known of a node up to its contents: the row's places lie in the node, the node in its holder
pub record FrontIn (x : Context) (s : Bounds) (m : Made) (at : ℕ) (w : Front) (q : ℕ) : Type 0 where
  pub nodes : w.made.nodes ≡ m.nodes
  pub items : m.items ≤ w.made.items
  pub moves : at < q
  pub inside : q ≤ at + w.row.size
  pub within : at + w.row.size ≤ s.end.0
  pub least-is : s.least.0 ≤ at + w.row.size
  pub taken_is : at + w.row.size ≤ s.taken.0
  pub detached-is : w.row.detached ≡ s.detached
  pub folder : (w.row.contained ≡ 0) ⊎ (s.detached ≡ 0)
  pub start : w.row.start ≡ at
  pub header : w.row.header ≤ w.row.size
  pub leads : (w.row.reference ≡ 3) ⊎ (w.row.target + w.row.extent ≤ x.size)
  pub follows : (w.row.reference ≡ 1) → (w.row.target ≡ q) × (w.row.extent ≡ at + w.row.size - q)

pub front-on : (N : OfNames) (top : ℕ) (x : Context) (parent depth : ℕ) (s : Bounds) (m : Made) (at : ℕ) → s.end.0 ≤ top → s.end.0 ≤ x.size
    → Wp (Inside N top x.size) (front x parent depth s m) (FrontIn x s m at) at
unfolding front
front-on N top x parent depth s m at o i =
    let size = x.size in
    wp_place _ at
    (wp_after (head-on N top size s at) λ h p y.
    wp_after (metadata-on N top size x m.nodes (at + h.header.0) (omega arith) m p) λ m' q z.
    wp_after (rest-on N top size x.header_end h.contained (at + h.header.0) (at + h.size.0) q (omega arith) (omega arith)) λ r v w.
    wp_ret (record {
      nodes = z.0.0;
      items = z.0.1;
      moves = omega arith;
      inside = w.1;
      within = y.3;
      least-is = y.4;
      taken_is = y.5;
      detached-is = refl;
      folder = y.6;
      start = refl;
      header = y.2;
      leads = w.2;
      follows = w.3;
    }))

-- what its row passes lies in the node, at its target
has_inline_lem : (r : Node) → T (has_inline r) → r.reference ≡ 1
has_inline_lem r t = eqb→eq r.reference 1 (second (eqb r.contained 0) (eqb r.reference 1) t)
  where
    second : (a b : Bool) → T (a && b) → T b
    second true b t = t
    second false b t = absurd t

size-if : (c : Bool) (n k : ℕ) → (T c → n ≤ k) → size_if c n ≤ k
size-if true n k h = h tt
size-if false n k h = omega arith

module _ {x : Context} {s : Bounds} {m : Made} {at : ℕ} {w : Front} {q : ℕ} (y : FrontIn x s m at w q) where
  pub inline_at : T (has_inline w.row) → w.row.target ≡ q
  inline_at t = (y.follows (has_inline_lem w.row t)).0

  pub inline_fits : q + inline_size w.row ≤ at + w.row.size
  inline_fits =
      let i = y.inside in
      let l = size-if (has_inline w.row) w.row.extent (at + w.row.size - q) (λ t. let z = (y.follows (has_inline_lem w.row t)).1 in omega arith) in
      omega arith

-- ---- the same of a run that is known

pub head-inside : (z : Bounds) (s : List ℕ) (at : ℕ) {h : Head} {p : ℕ} → run (head z) s at ≡ ok h p
    → (at < p) × (p ≤ at + h.header.0) × (h.header.0 ≤ h.size.0) × (at + h.size.0 ≤ z.end.0)
head-inside z s at e = let w = at_end (inside-free 0 0) s (head-on Nothing 0 0 z at) e in (w.0, w.1, w.2, w.3)

pub metadata-since : (x : Context) (node end : ℕ) (m : Made) (s : List ℕ) (at : ℕ) (σ : State) {m' : Made} {τ : State} {p : ℕ} → exec put
    (metadata x node end m) s at σ ≡ ok (m', τ) p → Since m m'
metadata-since x node end m s at σ e = (at_end (inside-free end end) s (metadata-on Nothing end end x node end (omega arith) m at) (ran put _ s at σ e)).0

pub front-inside : (x : Context) (parent depth : ℕ) (z : Bounds) (m : Made) (s : List ℕ) (at : ℕ) (σ : State) → z.end.0 ≤ x.size → {w : Front} {τ : State} {p : ℕ}
    → exec put (front x parent depth z m) s at σ ≡ ok (w, τ) p → FrontIn x z m at w p
front-inside x parent depth z m s at σ i e = at_end (inside-free z.end.0 x.size) s (front-on Nothing z.end.0 x parent depth z m at (omega arith) i) (ran put _ s at σ e)
